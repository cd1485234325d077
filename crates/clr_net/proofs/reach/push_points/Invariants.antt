use Rattle.std.proofs.Common.{◌≡◌, ◌++◌, map, take}
use Rattle.clr_net.proofs.reach.push_points.Given as goal

abbrev pub invariant-loop-out : goal.invariant-loop-out
invariant-loop-out l = l.points.items ≡ l.initial.points.items ++ map (λ w. w.point) (map (λ o. o.way) (take l.out-index l.ways))
