use Rattle.std.proofs.Common.{◌≡◌, map, take}
use Rattle.clr_net.specs.Grid.{unplaced}
use Rattle.clr_verify.specs.Registers.{point_now}
use Rattle.clr_verify.proofs.registers.points_now.Given as goal

-- the points before the place are there
abbrev pub invariant-loop-point : goal.invariant-loop-point
invariant-loop-point g l = l.points.items ≡ map (point_now l.book.register) (map unplaced (take l.point-index l.point-items))
