use Rattle.std.proofs.Common.{◌≡◌, map, drop}
use Rattle.clr_rules.proofs.Common.{has_name, points_of}
use Rattle.clr_good.proofs.holds.stands_there.Given as goal

abbrev pub invariant-loop-row : goal.invariant-loop-row
invariant-loop-row l =
    has_name (points_of (map (λ row. row.now) (drop l.row-index l.fn.steps))) l.fn.point ≡ has_name (points_of (map (λ row. row.now) l.fn.steps)) l.fn.point
