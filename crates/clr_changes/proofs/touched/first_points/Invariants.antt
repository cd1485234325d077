use Rattle.std.proofs.Common.{◌≡◌, ◌++◌, drop, map}
use Rattle.clr_rules.specs.GoodByPhase.{of_round}
use Rattle.clr_rules.specs.Steps.{points_of}
use Rattle.clr_changes.proofs.touched.first_points.Given as goal

-- the points so far, and those that are left, are all
abbrev pub invariant-loop-row : goal.invariant-loop-row
invariant-loop-row l =
    l.points.items ++ points_of (of_round (map (λ row. row.now) (drop l.row-index l.fn.steps)) 1) ≡ points_of (of_round (map (λ row. row.now) l.fn.steps) 1)
