use Rattle.std.proofs.Common.{List, drop, map, ℕ}
use Rattle.std.specs.Borrow.{Bor}
use Rattle.clr_keeping.specs.Journal.{all_known}
use Rattle.clr_keeping.specs.Parts.{left_in}
use Rattle.clr_commands.proofs.CheckedParts.{CheckedParts}
use Rattle.clr_commands.proofs.verify.check_all.Given as goal

-- the parts so far were checked
abbrev pub invariant-loop-path : goal.invariant-loop-path
invariant-loop-path g l =
    CheckedParts (left_in g.O.File.Read.remaining l.fn.part) (all_known (map (λ (path : Bor (List ℕ)). g.O.Opens.bytes_at l.fn.paths path.now) l.parts))
    (all_known (map (λ (path : Bor (List ℕ)). g.O.Opens.bytes_at l.fn.paths path.now) (drop l.path-index l.parts))) l.fn.checking l.checking
