use Rattle.std.proofs.Common.{◌≡◌, ◌++◌, drop, map}
use Rattle.clr_update.specs.Changes.{in_position}
use Rattle.clr_changes.proofs.states.placed.Given as goal

-- the points so far, and those that are left, are all
abbrev pub invariant-loop-point : goal.invariant-loop-point
invariant-loop-point l =
    l.rows.items ++ map (in_position l.fn.states) (drop l.point-index l.fn.points) ≡ map (in_position l.fn.states) l.fn.points
