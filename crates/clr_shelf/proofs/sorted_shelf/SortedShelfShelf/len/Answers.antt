use Rattle.std.proofs.Common.{◌≡◌, ◌∙◌, length, rules}
use Rattle.clr_shelf.specs.Items.{items_of}
use Rattle.clr_shelf.proofs.SortedPlaces.{length-rows_by_key}
use Rattle.clr_shelf.proofs.sorted_shelf.SortedShelfShelf.len.Goals as goal

pub returns-clause-rows : goal.returns-clause-rows
returns-clause-rows g c =
    let all : c.len.result ≡ length (items_of c.args.self.now.list) = search rules in
    all ∙ length-rows_by_key g.R.Row.key_cmp g.R.Row.key_of g.R.Row.group_of g.R.Row.group_cmp
    (items_of c.args.self.now.list)
