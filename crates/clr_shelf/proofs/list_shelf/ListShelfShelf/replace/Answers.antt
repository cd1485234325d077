use Rattle.std.proofs.Common.{sym}
use Rattle.clr_shelf.proofs.KeyOrder.{in_key_order-with_row}
use Rattle.clr_shelf.proofs.Places.{row_at, none_in_gap, set_at}
use Rattle.clr_shelf.proofs.list_shelf.ListShelfShelf.replace.Goals as goal

-- the row of the key is at the place that was found
pub returns-in-Ok-clause-given : goal.returns-in-Ok-clause-given
returns-in-Ok-clause-given g c =
    let found = rw c.key.ensures at c.in-Ok.ensures.found in
    rw c.replace.ensures.value (sym (row_at g.R.Row.key_cmp g.R.Row.key_of g.met.R.Row.key_order (g.R.Row.key_of c.args.row) c.args.self.now.list.items c.in-Ok.place
    c.index_mut.result.now c.args.self.now.in_order found c.index_mut.ensures.value))

-- over it the row is put
pub returns-in-Ok-clause-rows : goal.returns-in-Ok-clause-rows
returns-in-Ok-clause-rows g c =
    let found = rw c.key.ensures at c.in-Ok.ensures.found in
    rw c.replace.ensures.after (set_at g.R.Row.key_cmp g.R.Row.key_of g.met.R.Row.key_order c.args.row c.args.self.now.list.items c.in-Ok.place c.args.self.now.in_order found.in_range found.has_key)

pub invariant_of-self : goal.invariant_of-self
invariant_of-self g c =
    let rows = c.args.self.now.list.items in
    let found = rw c.key.ensures at c.in-Ok.ensures.found in
    let put = set_at g.R.Row.key_cmp g.R.Row.key_of g.met.R.Row.key_order c.args.row rows c.in-Ok.place c.args.self.now.in_order found.in_range found.has_key in
    rw c.replace.ensures.after (record { in_order = rw put (in_key_order-with_row g.R.Row.key_cmp g.R.Row.key_of g.met.R.Row.key_order c.args.row rows c.args.self.now.in_order) })

pub returns-in-Err-clause-given : goal.returns-in-Err-clause-given
returns-in-Err-clause-given g c =
    let gap = rw c.key.ensures at c.in-Err.ensures.absent in
    sym (none_in_gap g.R.Row.key_cmp g.R.Row.key_of g.met.R.Row.key_order (g.R.Row.key_of c.args.row) c.args.self.now.list.items c.in-Err.field-0 gap)
