use Rattle.std.proofs.Common.{◌≡◌, drop}
use Rattle.clr_net.specs.Grid.{point_names}
use Rattle.clr_net.specs.Names.{has_name}
use Rattle.clr_changes.proofs.naming.has_point.Given as goal

abbrev pub invariant-loop-point : goal.invariant-loop-point
invariant-loop-point l =
    has_name (point_names (drop l.point-index l.fn.points)) l.fn.name ≡ has_name (point_names l.fn.points) l.fn.name
