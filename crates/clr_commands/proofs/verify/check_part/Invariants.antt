use Rattle.std.proofs.Common.{◌≡◌}
use Rattle.clr_keeping.specs.Parts.{left_in}
use Rattle.clr_commands.proofs.CheckedParts.{CheckedLines}
use Rattle.clr_commands.proofs.verify.check_part.Given as goal

-- the lines so far were checked, and no read of the part failed
abbrev pub invariant-lines : goal.invariant-lines
invariant-lines g l =
    CheckedLines (left_in g.S.Read.remaining l.fn.part) (left_in g.S.Read.remaining l.part) l.fn.checking l.checking
    × (g.S.CountedRead.failure_count l.part.source ≡ g.S.CountedRead.failure_count l.fn.part.source)
