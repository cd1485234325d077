use Rattle.std.proofs.Common.{◌≡◌, drop, map}
use Rattle.clr_net.specs.Names.{has_name}
use Rattle.clr_rules.specs.Steps.{points_of}
use Rattle.clr_changes.proofs.touched.is_at_step.Given as goal

abbrev pub invariant-loop-row : goal.invariant-loop-row
invariant-loop-row l =
    has_name (points_of (map (λ row. row.now) (drop l.row-index l.fn.steps))) l.fn.point ≡ has_name (points_of (map (λ row. row.now) l.fn.steps)) l.fn.point
