use Rattle.std.proofs.Common.{◌≡◌, map, drop}
use Rattle.clr_good.specs.Steps.{rounds_go_in_turn}
use Rattle.clr_good.proofs.rounds.rounds_go_in_turn.Given as goal

abbrev pub invariant-loop-place : goal.invariant-loop-place
invariant-loop-place l =
    rounds_go_in_turn (map (λ row. row.now) (drop l.place l.fn.steps)) ≡ rounds_go_in_turn (map (λ row. row.now) l.fn.steps)
