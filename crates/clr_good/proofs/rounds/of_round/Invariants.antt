use Rattle.std.proofs.Common.{◌≡◌, ◌++◌, map, drop}
use Rattle.clr_rules.specs.GoodByPhase.{of_round}
use Rattle.clr_good.proofs.rounds.of_round.Given as goal

-- the steps so far, and those that are left, are all
abbrev pub invariant-loop-row : goal.invariant-loop-row
invariant-loop-row l =
    map (λ row. row.now) l.kept.items ++ of_round (map (λ row. row.now) (drop l.row-index l.fn.steps)) l.fn.round ≡ of_round (map (λ row. row.now) l.fn.steps) l.fn.round
