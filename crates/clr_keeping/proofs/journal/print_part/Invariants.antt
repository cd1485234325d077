use Rattle.clr_keeping.specs.Parts.{left_in}
use Rattle.clr_keeping.proofs.PrintedParts.{PrintedLines}
use Rattle.clr_keeping.proofs.journal.print_part.Given as goal

-- the lines so far were printed
abbrev pub invariant-lines : goal.invariant-lines
invariant-lines g l =
    PrintedLines g.S.CountedRead.failure_count (left_in g.S.Read.remaining l.fn.part) (left_in g.S.Read.remaining l.part) l.fn.printing l.printing
    l.fn.part.source l.part.source (g.W.CountedWrite.stream l.fn.output) (g.W.CountedWrite.stream l.output)
