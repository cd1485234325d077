use Rattle.std.proofs.Common.{◌≡◌, map, drop}
use Rattle.clr_rules.specs.Steps.{all_done}
use Rattle.clr_good.proofs.rounds.all_done.Given as goal

abbrev pub invariant-loop-row : goal.invariant-loop-row
invariant-loop-row l = all_done (map (λ row. row.now) (drop l.row-index l.fn.steps)) ≡ all_done (map (λ row. row.now) l.fn.steps)
