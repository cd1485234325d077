use Rattle.std.proofs.Common.{length, map}
use Rattle.clr_journal.specs.Line.{entry_of}
use Rattle.clr_rules.specs.Good.{IsGood}
use Rattle.clr_level.specs.Forward.{AreShallow}
use Rattle.clr_level.proofs.Tried.{TriedTo}
use Rattle.clr_level.proofs.trying.first_in.Given as goal

-- each command so far was answered as its line says
abbrev pub invariant-loop-one : goal.invariant-loop-one
invariant-loop-one l =
    IsGood l.fn.copy.register → AreShallow (map entry_of l.fn.lines) → TriedTo l.fn.copy.register (map entry_of l.fn.lines) (map entry_of l.left) l.copy.register

abbrev pub decreases-loop-one : goal.decreases-loop-one
decreases-loop-one l = length l.left
