use Rattle.std.proofs.Common.{List, drop, map, ℕ}
use Rattle.std.specs.Borrow.{Bor}
use Rattle.clr_keeping.specs.Journal.{all_known}
use Rattle.clr_keeping.proofs.PrintedParts.{PrintedParts}
use Rattle.clr_keeping.proofs.journal.print_parts.Given as goal

-- the parts so far were printed
abbrev pub invariant-loop-path : goal.invariant-loop-path
invariant-loop-path g l =
    PrintedParts (all_known (map (λ (path : Bor (List ℕ)). g.O.Opens.bytes_at l.fn.paths path.now) l.parts))
    (all_known (map (λ (path : Bor (List ℕ)). g.O.Opens.bytes_at l.fn.paths path.now) (drop l.path-index l.parts))) l.fn.printing l.printing
    (g.W.CountedWrite.stream l.fn.output) (g.W.CountedWrite.stream l.output)
