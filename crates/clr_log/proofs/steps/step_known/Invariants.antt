use Rattle.std.proofs.Common.{◌≡◌, length, map, reverse}
use Rattle.clr_journal.specs.Line.{entry_of}
use Rattle.clr_log.specs.Steps.{step_before, step_known}
use Rattle.clr_log.proofs.steps.step_known.Given as goal

-- what the lines that are left say of the step is what all lines say
abbrev pub invariant-loop-line : goal.invariant-loop-line
invariant-loop-line l =
    step_before l.fn.clearance l.fn.number l.withdraws l.amended (reverse (map entry_of l.rest)) ≡ step_known (reverse (map entry_of l.fn.before)) l.fn.clearance l.fn.number

abbrev pub decreases-loop-line : goal.decreases-loop-line
decreases-loop-line l = length l.rest
