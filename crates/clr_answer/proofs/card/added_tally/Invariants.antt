use Rattle.std.proofs.Common.{◌≡◌, ◌+◌, ◌≤◌, ◌&&◌, drop}
use Rattle.std.specs.List.{count_by}
use Rattle.clr_rules.specs.Steps.{is_done, is_of_round}
use Rattle.clr_rules.specs.declared.step_row.StepRow.{StepRow}
use Rattle.clr_answer.proofs.card.added_tally.Given as goal

-- what was counted, and what is left to count
abbrev pub invariant-loop-row : goal.invariant-loop-row
invariant-loop-row l =
    let ends = λ (row : StepRow). is_of_round l.id l.round row && is_done row.step.state in
    record {
      steps : l.tally.steps + count_by (is_of_round l.id l.round) (drop l.row-index l.put) ≡ count_by (is_of_round l.id l.round) l.put;
      done : l.tally.done + count_by ends (drop l.row-index l.put) ≡ count_by ends l.put;
      fewer : l.tally.done ≤ l.tally.steps;
      few : l.tally.steps ≤ l.row-index;
    }
