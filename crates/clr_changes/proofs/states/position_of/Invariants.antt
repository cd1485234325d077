use Rattle.std.proofs.Common.{◌≡◌, drop}
use Rattle.clr_rules.specs.States.{position_of}
use Rattle.clr_changes.proofs.states.position_of.Given as goal

abbrev pub invariant-loop-state : goal.invariant-loop-state
invariant-loop-state l =
    position_of (drop l.state-index l.fn.states) l.fn.point ≡ position_of l.fn.states l.fn.point
