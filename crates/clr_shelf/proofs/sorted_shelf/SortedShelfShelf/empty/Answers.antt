use Rattle.clr_shelf.proofs.SortedPlaces.{sorted-none}
use Rattle.clr_shelf.proofs.sorted_shelf.SortedShelfShelf.empty.Goals as goal

pub invariant_of-result : goal.invariant_of-result
invariant_of-result g c =
    let none = sorted-none g.R.Row.key_cmp g.R.Row.key_of g.R.Row.group_of g.R.Row.group_cmp in
    rw c.new.ensures (record { in_place = none.in_place; in_order = none.in_order })

pub returns : goal.returns
returns g c = rw c.new.ensures (sorted-none g.R.Row.key_cmp g.R.Row.key_of g.R.Row.group_of
    g.R.Row.group_cmp).is
