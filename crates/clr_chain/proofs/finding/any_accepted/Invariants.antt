use Rattle.std.proofs.Common.{◌≡◌, length}
use Rattle.std.specs.List.{list_any}
use Rattle.clr_journal.specs.Lines.{ended_lines}
use Rattle.clr_chain.specs.Finding.{says_accepted}
use Rattle.clr_chain.proofs.finding.any_accepted.Given as goal

-- none was found so far
abbrev pub invariant-loop-text : goal.invariant-loop-text
invariant-loop-text l = list_any says_accepted (ended_lines l.rest) ≡ list_any says_accepted (ended_lines l.fn.bytes)

abbrev pub decreases-loop-text : goal.decreases-loop-text
decreases-loop-text l = length l.rest
