use Rattle.std.proofs.Common.{length, map}
use Rattle.clr_journal.specs.Line.{entry_of}
use Rattle.clr_level.proofs.Tried.{Passed}
use Rattle.clr_level.proofs.trying.next_due.Given as goal

-- none was due so far
abbrev pub invariant-loop-line : goal.invariant-loop-line
invariant-loop-line l = Passed (map entry_of l.fn.lines) (map entry_of l.left)

abbrev pub decreases-loop-line : goal.decreases-loop-line
decreases-loop-line l = length l.left
