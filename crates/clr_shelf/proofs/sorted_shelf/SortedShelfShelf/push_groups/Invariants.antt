use Rattle.std.proofs.Common.{◌≡◌, ◌≤◌, ◌+◌, ◌++◌, ℕ, true, map, filter, drop, length, get_or}
use Rattle.std.specs.List.{AllByRecursion, flat_map}
use Rattle.std.specs.List.Sorted.{IsStrictlySortedBy}
use Rattle.std.specs.Ordering.{is_lt}
use Rattle.clr_shelf.specs.ByKey.{rows_by_key}
use Rattle.clr_shelf.specs.Items.{items_of}
use Rattle.clr_shelf.proofs.sorted_shelf.SortedShelfShelf.push_groups.Given as goal

-- the rows so far, and those of the groups that are left, are all; the groups that are left rise,
-- and the row before the place is below them
abbrev pub invariant-loop-group : goal.invariant-loop-group
invariant-loop-group g l =
    (map (λ row. row.now) l.found.items
    ++ flat_map (λ group. filter (g.R.Row.is_in group) (rows_by_key g.R.Row.key_cmp g.R.Row.key_of (items_of l.fn.self.list))) (drop l.group-index l.fn.groups)
    ≡ map (λ row. row.now) l.fn.found.items
    ++ flat_map (λ group. filter (g.R.Row.is_in group) (rows_by_key g.R.Row.key_cmp g.R.Row.key_of (items_of l.fn.self.list))) l.fn.groups)
    × (l.place ≤ length (items_of l.fn.self.list))
    × IsStrictlySortedBy g.R.Row.group_cmp (drop l.group-index l.fn.groups)
    × AllByRecursion (λ group. (k : ℕ) (d : g.row.R.Denot) → k + 1 ≡ l.place
    → is_lt (g.R.Row.group_cmp (g.R.Row.group_of (g.R.Row.key_of (get_or (items_of l.fn.self.list) k d))) group) ≡ true) (drop l.group-index l.fn.groups)
