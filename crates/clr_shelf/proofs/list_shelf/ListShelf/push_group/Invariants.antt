use Rattle.std.proofs.Common.{◌≡◌, ◌++◌, map, filter, drop}
use Rattle.clr_shelf.proofs.list_shelf.ListShelf.push_group.Given as goal

-- the rows so far, and those of the group that are left, are all
abbrev pub invariant-loop-row : goal.invariant-loop-row
invariant-loop-row g l =
    map (λ row. row.now) l.found.items ++ filter (g.R.Row.is_in l.fn.group) (drop l.row-index l.fn.self.list.items)
    ≡ map (λ row. row.now) l.fn.found.items ++ filter (g.R.Row.is_in l.fn.group) l.fn.self.list.items
