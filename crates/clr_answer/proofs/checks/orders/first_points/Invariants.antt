use Rattle.std.proofs.Common.{◌≡◌, ◌++◌, map, drop}
use Rattle.clr_rules.specs.Steps.{points_of, steps_in}
use Rattle.clr_answer.proofs.checks.orders.first_points.Given as goal

abbrev pub invariant-loop-row : goal.invariant-loop-row
invariant-loop-row l =
    l.points.items ++ points_of (steps_in (map (λ row. row.now) (drop l.row-index l.row-items)) l.id 1) ≡ points_of (steps_in l.near.rows.steps l.id 1)
