use Rattle.std.proofs.Common.{◌≡◌, map, drop}
use Rattle.clr_good.specs.Steps.{round_waits}
use Rattle.clr_good.proofs.rounds.round_waits.Given as goal

abbrev pub invariant-loop-row : goal.invariant-loop-row
invariant-loop-row l = round_waits l.fn.round (map (λ row. row.now) (drop l.row-index l.fn.steps)) ≡ round_waits l.fn.round (map (λ row. row.now) l.fn.steps)
