use Rattle.std.proofs.Common.{ap, inl, inr, ℕ, List, map, Err}
use Rattle.std.specs.Borrow.{Bor}
use Rattle.clr_keeping.specs.Journal.{all_known}
use Rattle.clr_edge.specs.Paths.{at_paths}
use Rattle.clr_commands.specs.Verify.{FailsSome}
use Rattle.clr_keeping.proofs.PartLines.{passed_on}
use Rattle.clr_commands.proofs.CheckedParts.{passed_check}
use Rattle.clr_commands.proofs.RefusedParts.{all_some, checks_first_from, checks_over_copy, checks_part_from, some_check}
use Rattle.clr_commands.proofs.VerifiedFiles.{is_fault}
use Rattle.clr_commands.proofs.verify.check_from.Goals as goal

-- all lines were checked
pub returns-in-Ok-clause-checked : goal.returns-in-Ok-clause-checked
returns-in-Ok-clause-checked g c =
    checks_over_copy c.args.began.book.register c.args.book.now.register c.args.from _ _ _ c.in_ok-part.first c.args.place c.in-Ok.checking
    c.check_all.result c.in_ok-part.ensures.first c.in-Ok.ensures.begun c.check_all.ensures.checked c.check_all.ensures.refused

-- or not
pub returns-in-Err-clause-checked : goal.returns-in-Err-clause-checked
returns-in-Err-clause-checked g c =
    checks_first_from c.args.began.book.register c.args.book.now.register c.args.from (g.O.Opens.bytes_at c.args.paths.now c.args.path.now) _
    (all_known (map (λ (path : Bor (List ℕ)). g.O.Opens.bytes_at c.args.paths.now path.now) c.args.parts.now)) c.in_ok-part.first c.args.place (Err c.of_check.result)
    c.in-Err.fault (ap Err c.of_check.ensures) c.in_ok-part.ensures.first c.in-Err.ensures.refused

pub returns-in-Err-clause-fault : goal.returns-in-Err-clause-fault
returns-in-Err-clause-fault g c = inr (inr (c.in-Err.fault, c.of_check.ensures))

pub returns-in_err-part-clause-checked : goal.returns-in_err-part-clause-checked
returns-in_err-part-clause-checked g c =
    checks_part_from _ _ _ _ _ _ c.from_residual.result _ (is_fault _ _ c.from_residual.ensures.1) c.in_err-part.ensures.refused

pub returns-in_err-part-clause-fault : goal.returns-in_err-part-clause-fault
returns-in_err-part-clause-fault g c = passed_check _ _ c.from_residual.ensures.1 (inl c.in_err-part.ensures.fault)

-- why one was not read
pub returns-in-Ok-clause-unread : goal.returns-in-Ok-clause-unread
returns-in-Ok-clause-unread g c =
    all_some c.check_all.result g.O.File.Read.remaining g.O.File.CountedRead.failure_count (g.O.Opens.bytes_at c.args.paths.now) c.args.path c.args.parts.now
    c.in_ok-part.part.source c.in_ok-part.ensures.opened c.check_all.ensures.unread

pub returns-in-Err-clause-unread : goal.returns-in-Err-clause-unread
returns-in-Err-clause-unread g c =
    let at = at_paths g.O.File.Read.remaining g.O.File.CountedRead.failure_count (g.O.Opens.bytes_at c.args.paths.now) in
    some_check at c.args.path c.args.parts.now c.in-Err.fault c.of_check.result c.of_check.ensures

pub returns-in_err-part-clause-unread : goal.returns-in_err-part-clause-unread
returns-in_err-part-clause-unread g c =
    let at = at_paths g.O.File.Read.remaining g.O.File.CountedRead.failure_count (g.O.Opens.bytes_at c.args.paths.now) in
    passed_on _ _ (FailsSome at c.args.path c.args.parts.now) c.from_residual.ensures.1 (λ which. inl (c.in_err-part.ensures.unread which))
