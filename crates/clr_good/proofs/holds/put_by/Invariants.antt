use Rattle.std.proofs.Common.{◌≡◌, map, drop}
use Rattle.clr_rules.specs.Good.{put_by}
use Rattle.clr_good.proofs.holds.put_by.Given as goal

abbrev pub invariant-loop-row : goal.invariant-loop-row
invariant-loop-row l = put_by (map (λ row. row.now) (drop l.row-index l.fn.steps)) l.fn.kind l.fn.point ≡ put_by (map (λ row. row.now) l.fn.steps) l.fn.kind l.fn.point
