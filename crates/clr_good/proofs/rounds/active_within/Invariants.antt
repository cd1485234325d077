use Rattle.std.proofs.Common.{◌≡◌, map, drop}
use Rattle.clr_good.specs.Steps.{active_within}
use Rattle.clr_good.proofs.rounds.active_within.Given as goal

abbrev pub invariant-loop-row : goal.invariant-loop-row
invariant-loop-row l = active_within l.fn.round (map (λ row. row.now) (drop l.row-index l.fn.steps)) ≡ active_within l.fn.round (map (λ row. row.now) l.fn.steps)
