use Rattle.std.proofs.Common.{◌≡◌, ◌++◌, drop, filter, map}
use Rattle.clr_net.specs.Grid.{unplaced}
use Rattle.clr_changes.proofs.staying.jumpers.Given as goal

-- the jumpers so far, and those that are left, are all
abbrev pub invariant-loop-point : goal.invariant-loop-point
invariant-loop-point l =
    l.found.items ++ filter (λ p. p.jumper) (map unplaced (drop l.point-index l.fn.points)) ≡ filter (λ p. p.jumper) (map unplaced l.fn.points)
