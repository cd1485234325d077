use Rattle.std.proofs.Common.{◌≡◌, ap, List, map, refl, rules, subst, sym, ℕ}
use Rattle.std.specs.Borrow.{Bor}
use Rattle.std.specs.Prelude.{IfErr}
use Rattle.clr_book.specs.Book.{Shelved}
use Rattle.clr_rules.specs.Good.{IsGood}
use Rattle.clr_rules.specs.Register.{Register}
use Rattle.clr_keeping.specs.Journal.{all_known}
use Rattle.clr_edge.specs.Paths.{at_paths}
use Rattle.clr_commands.specs.Verify.{ChecksFrom, FailsSome, IsOfCheck, WhereKnown}
use Rattle.clr_commands.proofs.Faults.{check_plain, each_plain, passed, taking_up_plain}
use Rattle.clr_commands.proofs.VerifiedFiles.{checked_from, uncopied, unplaced_from}
use Rattle.clr_commands.proofs.verify.verify_from.Goals as goal

pub check_from-requires : goal.check_from-requires
check_from-requires g c =
    let register : c.of-began.result.book.register ≡ c.in_ok-copied.copied.register = ap (λ (b : Shelved). b.register) c.of-began.ensures.book in
    λ _. ((refl, tt), subst (λ (R : Register). IsGood R) (sym register) c.in_ok-copied.ensures.good)

-- the journal was checked
pub returns-clause-visit : goal.returns-clause-visit
returns-clause-visit g c =
    let same : c.as_slice-parts.result.now ≡ c.args.args.now.parts.items = search rules in
    let register : c.of-began.result.book.register ≡ c.in_ok-copied.copied.register = ap (λ (b : Shelved). b.register) c.of-began.ensures.book in
    checked_from _ c.args.args.now _ _ _ _ _ _ (c.in_ok-copied.copied, c.in_ok-copied.from) (c.in_ok-book.book, c.in_ok-book.place) c.in_ok-copied.ensures.read c.in_ok-book.ensures.read
    (subst
    (λ (R : Register). WhereKnown (g.O.Opens.bytes_at c.args.paths.now c.args.args.now.journal.now)
    (all_known (map (λ (path : Bor (List ℕ)). g.O.Opens.bytes_at c.args.paths.now path.now) c.args.args.now.parts.items))
    (λ one parts. ChecksFrom R c.in_ok-copied.from one parts c.in_ok-book.place c.in_ok-book.book.register c.check_from.result))
    register
    (subst
    (λ (l : List (Bor (List ℕ))). WhereKnown (g.O.Opens.bytes_at c.args.paths.now c.args.args.now.journal.now) (all_known (map (λ (path : Bor (List ℕ)). g.O.Opens.bytes_at c.args.paths.now path.now) l))
    (λ one parts. ChecksFrom c.of-began.result.book.register c.in_ok-copied.from one parts c.in_ok-book.place c.in_ok-book.book.register c.check_from.result))
    same c.check_from.ensures.checked))
    (subst (λ (l : List (Bor (List ℕ))). IfErr c.check_from.result (FailsSome
    (at_paths g.O.File.Read.remaining g.O.File.CountedRead.failure_count (g.O.Opens.bytes_at c.args.paths.now)) c.args.args.now.journal l)) same c.check_from.ensures.unread)

pub returns-clause-faults : goal.returns-clause-faults
returns-clause-faults g c = each_plain c.check_from.result (λ fault. IsOfCheck fault) check_plain c.check_from.ensures.fault

-- there is no copy
pub returns-in_err-copied-clause-visit : goal.returns-in_err-copied-clause-visit
returns-in_err-copied-clause-visit g c = uncopied _ c.args.args.now _ _ _ _ _ _ _ c.in_err-copied.ensures.read refl c.from_residual.ensures.1

pub returns-in_err-copied-clause-faults : goal.returns-in_err-copied-clause-faults
returns-in_err-copied-clause-faults g c = passed _ _ c.from_residual.ensures.1 (taking_up_plain _ c.in_err-copied.ensures.faults)

-- the register was not read
pub returns-in_err-book-clause-visit : goal.returns-in_err-book-clause-visit
returns-in_err-book-clause-visit g c =
    unplaced_from _ c.args.args.now _ _ _ _ _ _ (c.in_ok-copied.copied, c.in_ok-copied.from) _ c.in_ok-copied.ensures.read c.in_err-book.ensures.read c.from_residual-in_err-book.ensures.1

pub returns-in_err-book-clause-faults : goal.returns-in_err-book-clause-faults
returns-in_err-book-clause-faults g c = passed _ _ c.from_residual-in_err-book.ensures.1 (taking_up_plain _ c.in_err-book.ensures.faults)
