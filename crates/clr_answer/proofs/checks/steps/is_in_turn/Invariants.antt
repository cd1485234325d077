use Rattle.std.proofs.Common.{◌≡◌, map, drop}
use Rattle.clr_rules.specs.Steps.{is_in_turn, steps_in}
use Rattle.clr_answer.proofs.checks.steps.is_in_turn.Given as goal

abbrev pub invariant-loop-row : goal.invariant-loop-row
invariant-loop-row l =
    is_in_turn (steps_in (map (λ row. row.now) (drop l.row-index l.row-items)) l.id l.round) l.number ≡ is_in_turn (steps_in l.near.rows.steps l.id l.round) l.number
