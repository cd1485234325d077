use Rattle.std.proofs.Common.{◌≡◌, List, map, refl, rules, subst, ℕ}
use Rattle.std.specs.Borrow.{Bor}
use Rattle.std.specs.Prelude.{IfErr}
use Rattle.clr_rules.proofs.keeps.EveryKind.{reached_are_good}
use Rattle.clr_commands.specs.First.{files_of}
use Rattle.clr_commands.specs.Import.{contents_of}
use Rattle.clr_keeping.specs.Journal.{all_known}
use Rattle.clr_edge.specs.Paths.{at_paths}
use Rattle.clr_commands.specs.Verify.{Checks, FailsSome, IsOfCheck, WhereKnown}
use Rattle.clr_commands.proofs.Faults.{any_file_plain, check_plain, each_plain, passed, taking_up_plain}
use Rattle.clr_commands.proofs.VerifiedFiles.{checked, unmade, unplaced, unread}
use Rattle.clr_commands.proofs.verify.verify.Goals as goal

pub check_over-requires : goal.check_over-requires
check_over-requires g c = λ _. ((refl, tt), reached_are_good _ c.in_ok-began.ensures.reached)

-- the journal was checked
pub returns-clause-visit : goal.returns-clause-visit
returns-clause-visit g c =
    let same : c.as_slice-parts.result.now ≡ c.args.args.now.parts.items = search rules in
    checked _ c.args.args.now _ _ _ _ c.in_ok-rows.rows c.in_ok-rows.texts c.in_ok-rows.ensures.rows c.in_ok-rows.ensures.texts c.in_ok-rows.ensures.known
    c.in_ok-began.began.book.register (c.in_ok-book.book, c.in_ok-book.place) c.in_ok-began.ensures.opens c.in_ok-book.ensures.read
    (subst
    (λ (l : List (Bor (List ℕ))). WhereKnown (g.O.Opens.bytes_at c.args.paths.now c.args.args.now.journal.now) (all_known (map (λ (path : Bor (List ℕ)). g.O.Opens.bytes_at c.args.paths.now path.now) l))
    (λ one parts. Checks (files_of (contents_of c.in_ok-rows.texts)) c.in_ok-began.began.book.register one parts c.in_ok-book.place c.in_ok-book.book.register c.check_over.result))
    same c.check_over.ensures.checked)
    (subst (λ (l : List (Bor (List ℕ))). IfErr c.check_over.result (FailsSome
    (at_paths g.O.File.Read.remaining g.O.File.CountedRead.failure_count (g.O.Opens.bytes_at c.args.paths.now)) c.args.args.now.journal l)) same c.check_over.ensures.unread)

pub returns-clause-faults : goal.returns-clause-faults
returns-clause-faults g c = each_plain c.check_over.result (λ fault. IsOfCheck fault) check_plain c.check_over.ensures.fault

-- the files have a fault
pub returns-in_err-rows-clause-visit : goal.returns-in_err-rows-clause-visit
returns-in_err-rows-clause-visit g c = unread _ c.args.args.now _ _ _ _ _ c.in_err-rows.ensures.rows c.from_residual.ensures.1 refl

pub returns-in_err-rows-clause-faults : goal.returns-in_err-rows-clause-faults
returns-in_err-rows-clause-faults g c = passed _ _ c.from_residual.ensures.1 (any_file_plain _ c.in_err-rows.ensures.fault)

-- they are no network and no staff
pub returns-in_err-began-clause-visit : goal.returns-in_err-began-clause-visit
returns-in_err-began-clause-visit g c =
    unmade _ c.args.args.now _ _ _ _ c.in_ok-rows.rows c.in_ok-rows.texts c.in_ok-rows.ensures.rows c.in_ok-rows.ensures.texts c.in_ok-rows.ensures.known _
    c.from_residual-in_err-began.ensures.1 c.in_err-began.ensures.fault refl

pub returns-in_err-began-clause-faults : goal.returns-in_err-began-clause-faults
returns-in_err-began-clause-faults g c = passed _ _ c.from_residual-in_err-began.ensures.1 c.in_err-began.ensures.faults

-- the register was not read
pub returns-in_err-book-clause-visit : goal.returns-in_err-book-clause-visit
returns-in_err-book-clause-visit g c =
    unplaced _ c.args.args.now _ _ _ _ c.in_ok-rows.rows c.in_ok-rows.texts c.in_ok-rows.ensures.rows c.in_ok-rows.ensures.texts c.in_ok-rows.ensures.known
    c.in_ok-began.began.book.register _ c.in_ok-began.ensures.opens c.in_err-book.ensures.read c.from_residual-in_err-book.ensures.1

pub returns-in_err-book-clause-faults : goal.returns-in_err-book-clause-faults
returns-in_err-book-clause-faults g c = passed _ _ c.from_residual-in_err-book.ensures.1 (taking_up_plain _ c.in_err-book.ensures.faults)
