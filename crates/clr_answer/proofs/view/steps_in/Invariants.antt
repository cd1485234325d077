use Rattle.std.proofs.Common.{◌≡◌, ◌++◌, map, drop}
use Rattle.clr_rules.specs.Steps.{steps_in}
use Rattle.clr_rules.specs.declared.step_row.StepRow.{StepRow}
use Rattle.clr_answer.proofs.view.steps_in.Given as goal

abbrev pub invariant-loop-row : goal.invariant-loop-row
invariant-loop-row l =
    l.steps.items ++ map (λ (row : StepRow). row.step) (steps_in (map (λ row. row.now) (drop l.row-index l.row-items)) l.id l.round) ≡ map (λ (row : StepRow). row.step) (steps_in l.near.rows.steps l.id l.round)
