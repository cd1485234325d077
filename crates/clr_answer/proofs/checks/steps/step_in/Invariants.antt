use Rattle.std.proofs.Common.{◌≡◌, map, drop}
use Rattle.clr_rules.specs.Steps.{step_at, steps_in}
use Rattle.clr_answer.proofs.checks.steps.step_in.Given as goal

abbrev pub invariant-loop-row : goal.invariant-loop-row
invariant-loop-row l =
    step_at (steps_in (map (λ row. row.now) (drop l.row-index l.row-items)) l.id l.round) l.number ≡ step_at (steps_in l.near.rows.steps l.id l.round) l.number
