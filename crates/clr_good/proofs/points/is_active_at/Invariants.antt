use Rattle.std.proofs.Common.{◌≡◌, map, drop}
use Rattle.clr_rules.specs.GoodByPhase.{active_at}
use Rattle.clr_good.proofs.points.is_active_at.Given as goal

abbrev pub invariant-loop-row : goal.invariant-loop-row
invariant-loop-row l =
    active_at (map (λ row. row.now) (drop l.row-index l.fn.steps)) l.fn.point ≡ active_at (map (λ row. row.now) l.fn.steps) l.fn.point
