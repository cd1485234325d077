use Rattle.std.proofs.Common.{◌≡◌, ◌+◌, ◌≤◌, ◌&&◌, not, map, drop}
use Rattle.std.specs.List.{count_by}
use Rattle.clr_rules.specs.Steps.{is_done, is_of_round}
use Rattle.clr_rules.specs.declared.step_row.StepRow.{StepRow}
use Rattle.clr_answer.specs.Card.{is_put}
use Rattle.clr_answer.proofs.card.kept_tally.Given as goal

-- what was counted, and what is left to count
abbrev pub invariant-loop-row : goal.invariant-loop-row
invariant-loop-row l =
    let stays = λ (row : StepRow). is_of_round l.id l.round row && not (is_put l.put row) in
    let ends = λ (row : StepRow). (is_of_round l.id l.round row && is_done row.step.state) && not (is_put l.put row) in
    record {
      steps : l.tally.steps + count_by stays (map (λ row. row.now) (drop l.row-index l.row-items)) ≡ count_by stays l.near.rows.steps;
      done : l.tally.done + count_by ends (map (λ row. row.now) (drop l.row-index l.row-items)) ≡ count_by ends l.near.rows.steps;
      fewer : l.tally.done ≤ l.tally.steps;
      few : l.tally.steps ≤ l.row-index;
    }
