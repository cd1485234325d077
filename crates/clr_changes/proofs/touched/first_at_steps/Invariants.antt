use Rattle.std.proofs.Common.{◌≡◌, drop, filter, map}
use Rattle.clr_net.specs.Grid.{point_names}
use Rattle.clr_net.specs.Names.{has_name}
use Rattle.clr_rules.specs.Steps.{points_of}
use Rattle.clr_changes.specs.Touched.{first_of}
use Rattle.clr_changes.proofs.touched.first_at_steps.Given as goal

abbrev pub invariant-loop-point : goal.invariant-loop-point
invariant-loop-point l =
    first_of (point_names (filter (λ p. has_name (points_of (map (λ row. row.now) l.fn.steps)) p.name) (drop l.point-index l.fn.points)))
    ≡ first_of (point_names (filter (λ p. has_name (points_of (map (λ row. row.now) l.fn.steps)) p.name) l.fn.points))
