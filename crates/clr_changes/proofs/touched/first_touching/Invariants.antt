use Rattle.std.proofs.Common.{◌≡◌, drop, filter}
use Rattle.clr_net.specs.Fence.{fence_has, touches}
use Rattle.clr_net.specs.Grid.{point_names}
use Rattle.clr_changes.specs.Touched.{first_of}
use Rattle.clr_changes.proofs.touched.first_touching.Given as goal

abbrev pub invariant-loop-point : goal.invariant-loop-point
invariant-loop-point l =
    first_of (point_names (filter (touches (fence_has l.fn.fence)) (drop l.point-index l.fn.points))) ≡ first_of (point_names (filter (touches (fence_has l.fn.fence)) l.fn.points))
