use Rattle.std.proofs.Common.{◌≡◌, map, drop}
use Rattle.clr_rules.specs.Steps.{all_done, steps_in}
use Rattle.clr_answer.proofs.checks.steps.all_done.Given as goal

abbrev pub invariant-loop-row : goal.invariant-loop-row
invariant-loop-row l =
    all_done (steps_in (map (λ row. row.now) (drop l.row-index l.row-items)) l.id l.round) ≡ all_done (steps_in l.near.rows.steps l.id l.round)
