use Rattle.std.proofs.Common.{◌≡◌, ◌==◌, ◌++◌, map, filter, drop}
use Rattle.clr_book.proofs.near.fence.first_points.Given as goal

-- the points so far, and those that are left, are all
abbrev pub invariant-loop-row : goal.invariant-loop-row
invariant-loop-row l =
    l.points.items ++ map (λ row. row.step.point) (filter (λ row. row.round == 1) (map (λ row. row.now) (drop l.row-index l.fn.steps)))
    ≡ map (λ row. row.step.point) (filter (λ row. row.round == 1) (map (λ row. row.now) l.fn.steps))
