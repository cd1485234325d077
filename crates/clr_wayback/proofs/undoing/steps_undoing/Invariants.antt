use Rattle.std.proofs.Common.{◌≡◌, ◌++◌, drop, flat_map}
use Rattle.clr_wayback.specs.Undoing.{leaving}
use Rattle.clr_wayback.proofs.undoing.steps_undoing.Given as goal

-- the steps so far, and those of the points that are left, are all
abbrev pub invariant-loop-point : goal.invariant-loop-point
invariant-loop-point l = l.steps.items ++ flat_map leaving (drop l.point-index l.fn.held) ≡ flat_map leaving l.fn.held
