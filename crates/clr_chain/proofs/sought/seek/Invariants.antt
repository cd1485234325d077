use Rattle.std.proofs.Common.{◌≡◌, length}
use Rattle.clr_journal.specs.Lines.{ended_lines, unfinished}
use Rattle.clr_chain.specs.Finding.{or_earlier, sought}
use Rattle.clr_chain.specs.Reading.{EndsAlike, seen_sought}
use Rattle.clr_chain.proofs.sought.seek.Given as goal

-- what the rest has, or else what was met so far, is what all have
abbrev pub invariant-loop-text : goal.invariant-loop-text
invariant-loop-text l = record {
  found : or_earlier (sought l.fn.place (ended_lines l.rest)) (seen_sought l.last) ≡ sought l.fn.place (ended_lines l.fn.bytes);
  rest : unfinished l.rest ≡ unfinished l.fn.bytes;
  alike : EndsAlike (unfinished l.fn.bytes) l.last;
}

abbrev pub decreases-loop-text : goal.decreases-loop-text
decreases-loop-text l = length l.rest
