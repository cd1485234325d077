use Rattle.std.proofs.Common.{◌≡◌, map, drop}
use Rattle.clr_rules.specs.Steps.{some_active, steps_of}
use Rattle.clr_answer.proofs.checks.steps.some_active.Given as goal

abbrev pub invariant-loop-row : goal.invariant-loop-row
invariant-loop-row l = some_active (steps_of (map (λ row. row.now) (drop l.row-index l.row-items)) l.id) ≡ some_active (steps_of l.near.rows.steps l.id)
