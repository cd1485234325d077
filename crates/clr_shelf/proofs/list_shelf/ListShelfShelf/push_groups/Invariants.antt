use Rattle.std.proofs.Common.{◌≡◌, ◌++◌, map, filter, drop}
use Rattle.std.specs.List.{flat_map}
use Rattle.clr_shelf.proofs.list_shelf.ListShelfShelf.push_groups.Given as goal

-- the rows so far, and those of the groups that are left, are all
abbrev pub invariant-loop-group : goal.invariant-loop-group
invariant-loop-group g l =
    map (λ row. row.now) l.found.items ++ flat_map (λ group. filter (g.R.Row.is_in group) l.fn.self.list.items) (drop l.group-index l.fn.groups)
    ≡ map (λ row. row.now) l.fn.found.items ++ flat_map (λ group. filter (g.R.Row.is_in group) l.fn.self.list.items) l.fn.groups
