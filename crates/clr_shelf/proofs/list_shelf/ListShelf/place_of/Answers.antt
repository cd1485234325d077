use Rattle.std.proofs.Common.{rules}
use Rattle.std.proofs.lemmas.Fn.{always_returns_same}
use Rattle.clr_shelf.proofs.Places.{searched}
use Rattle.clr_shelf.proofs.list_shelf.ListShelf.place_of.Goals as goal

-- the closure compares a row's key with the one that is looked for
pub returns : goal.returns
returns g c =
    let by_key = c.binary_search_by.ensures.position (λ row. g.R.Row.key_cmp (g.R.Row.key_of row) c.args.key.now) (always_returns_same _ _ _ (λ a r f h. search rules)) in
    searched g.R.Row.key_cmp g.R.Row.key_of g.met.R.Row.key_order c.args.key.now c.args.self.now.list.items c.binary_search_by.result
    c.args.self.now.in_order (rw c.deref.ensures.value at c.binary_search_by.ensures.bound) (rw c.deref.ensures.value at by_key)
