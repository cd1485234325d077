use Rattle.std.proofs.Common.{◌≡◌, length, map}
use Rattle.clr_journal.specs.Lines.{ended_lines, unfinished}
use Rattle.clr_journal.specs.Line.{entry_of}
use Rattle.clr_chain.specs.Chain.{read_on}
use Rattle.clr_chain.proofs.ReadingOn.{prepended}
use Rattle.clr_chain.proofs.read_on.read_on.Given as goal

-- the lines so far, and what is read on of the rest, are what is read on of all
abbrev pub invariant-loop-text : goal.invariant-loop-text
invariant-loop-text l = record {
  read : prepended (map entry_of l.lines.items) (read_on l.end (ended_lines l.rest)) ≡ read_on l.fn.end (ended_lines l.fn.bytes);
  rest : unfinished l.rest ≡ unfinished l.fn.bytes;
}

abbrev pub decreases-loop-text : goal.decreases-loop-text
decreases-loop-text l = length l.rest
