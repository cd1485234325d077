use Rattle.std.proofs.Common.{◌≡◌, map, drop}
use Rattle.clr_net.specs.Grid.{point_names, unplaced}
use Rattle.clr_net.specs.Names.{has_name}
use Rattle.clr_answer.proofs.checks.network.has_point.Given as goal

abbrev pub invariant-loop-row : goal.invariant-loop-row
invariant-loop-row l = has_name (point_names (map (λ row. unplaced row.now) (drop l.row-index l.row-items))) l.point ≡ has_name (point_names l.near.rows.net.points) l.point
