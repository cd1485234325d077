use Rattle.std.proofs.Common.{◌≡◌, ◌++◌, drop, map}
use Rattle.clr_rules.specs.Register.{first_state}
use Rattle.clr_update.specs.Update.{kept_state}
use Rattle.clr_changes.proofs.states.states_after.Given as goal

-- the states so far, and those that are left, are all
abbrev pub invariant-loop-point : goal.invariant-loop-point
invariant-loop-point g l =
    l.states.items ++ map (kept_state l.fn.book.register.states) (map first_state (drop l.point-index l.fn.points)) ≡ map (kept_state l.fn.book.register.states) (map first_state l.fn.points)
