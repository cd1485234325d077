use Rattle.std.proofs.Common.{◌≡◌, ◌++◌, drop, filter, not}
use Rattle.clr_net.specs.Grid.{point_names}
use Rattle.clr_net.specs.Names.{has_name}
use Rattle.clr_changes.proofs.made.names_gone.Given as goal

-- the names so far, and those that are left, are all
abbrev pub invariant-loop-point : goal.invariant-loop-point
invariant-loop-point l =
    l.gone.items ++ filter (λ p. not (has_name (point_names l.fn.network.points) p)) (point_names (drop l.point-index l.fn.points))
    ≡ filter (λ p. not (has_name (point_names l.fn.network.points) p)) (point_names l.fn.points)
