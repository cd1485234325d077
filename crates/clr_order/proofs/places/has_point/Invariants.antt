use Rattle.std.proofs.Common.{◌≡◌, drop, map}
use Rattle.clr_net.specs.Names.{has_name}
use Rattle.clr_order.proofs.places.has_point.Given as goal

abbrev pub invariant-loop-place : goal.invariant-loop-place
invariant-loop-place g l = has_name (map g.P.Placed.point_of (drop l.place-index l.places)) l.point ≡ has_name (map g.P.Placed.point_of l.places) l.point
