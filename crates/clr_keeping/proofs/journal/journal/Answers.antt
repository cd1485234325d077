use Rattle.std.proofs.Common.{◌≡◌, ◌∙◌, ap, inl, inr, refl, subst, sym, List, [], map, ℕ, Err}
use Rattle.std.specs.Borrow.{Bor}
use Rattle.std.specs.Prelude.{None}
use Rattle.clr_edge.specs.Visit.{Done}
use Rattle.clr_edge.specs.declared.fault.Fault.TheVariants.{NoSuch}
use Rattle.clr_keeping.specs.Journal.{IsOfJournal, PrintsParts, all_known}
use Rattle.clr_keeping.specs.Parts.{left_in}
use Rattle.clr_edge.specs.Paths.{at_paths}
use Rattle.clr_keeping.specs.Printing.{HasPrinted, PrintsMore}
use Rattle.clr_keeping.specs.declared.journal.Printing.{Printing}
use Rattle.clr_keeping.proofs.PartLines.{later-part, passed_as, passed_on}
use Rattle.clr_keeping.proofs.PrintedJournal.{any_of, begun_with, first_failed, more_failed, more_of, no_such, printed_all, within_failed}
use Rattle.clr_keeping.proofs.journal.journal.Goals as goal

-- all was printed
pub returns-clause-printed : goal.returns-clause-printed
returns-clause-printed g c =
    let at = at_paths g.O.File.Read.remaining g.O.File.CountedRead.failure_count (g.O.Opens.bytes_at c.args.paths.now) in
    let args = c.args.args.now in
    let old = g.W.CountedWrite.stream c.args.output.now in
    let it : Printing = record { walk = c.from.result; text = c.new.result; kind = c.of.result; bad = None } in
    let begun : HasPrinted args old [] it old = begun_with args old it c.in_ok-wanted.wanted (sym c.in_ok-wanted.ensures.wanted) c.new.ensures.bytes c.of.ensures refl in
    let middle = g.W.CountedWrite.stream c.print_part.new.output in
    let after = g.W.CountedWrite.stream c.print_parts.new.output in
    let same : c.as_slice.result.now ≡ args.parts.items = c.as_slice.ensures.value in
    let new = g.W.CountedWrite.stream c.end.new.output in
    printed_all at args old c.in_ok-part.first (left_in g.O.File.Read.remaining c.in_ok-part.part) it c.in_ok-part.ensures.first c.from.ensures.id c.from.ensures.end begun
    c.in_ok-printing.printing middle c.in_ok-printing.ensures.printed c.in_ok-printing-2.printing after new c.end.result
    (subst
    (λ (l : List (Bor (List ℕ))). PrintsMore (all_known (map (λ (path : Bor (List ℕ)). g.O.Opens.bytes_at c.args.paths.now path.now) l)) c.in_ok-printing.printing middle
    c.in_ok-printing-2.printing after)
    same c.in_ok-printing-2.ensures.printed)
    c.end.ensures.printed

-- the word names no clearance
pub returns-in_err-wanted-clause-printed : goal.returns-in_err-wanted-clause-printed
returns-in_err-wanted-clause-printed g c =
    let at = at_paths g.O.File.Read.remaining g.O.File.CountedRead.failure_count (g.O.Opens.bytes_at c.args.paths.now) in
    let args = c.args.args.now in
    let old = g.W.CountedWrite.stream c.args.output.now in
    no_such at args old c.from_residual.result (sym c.in_err-wanted.ensures.wanted ∙ ap Err c.in_err-wanted.ensures.fault)
    (passed_as c.from_residual.result _ NoSuch c.from_residual.ensures.1 c.in_err-wanted.ensures.fault)

pub returns-in_err-wanted-clause-fault : goal.returns-in_err-wanted-clause-fault
returns-in_err-wanted-clause-fault g c = passed_on c.from_residual.result _ IsOfJournal c.from_residual.ensures.1 (inl c.in_err-wanted.ensures.fault)

-- the first part was not opened
pub returns-in_err-part-clause-printed : goal.returns-in_err-part-clause-printed
returns-in_err-part-clause-printed g c =
    let at = at_paths g.O.File.Read.remaining g.O.File.CountedRead.failure_count (g.O.Opens.bytes_at c.args.paths.now) in
    let args = c.args.args.now in
    let old = g.W.CountedWrite.stream c.args.output.now in
    first_failed at args old c.from_residual-in_err-part.result _ (passed_as c.from_residual-in_err-part.result _ _ c.from_residual-in_err-part.ensures.1 refl)
    c.in_err-part.ensures.fault c.in_err-part.ensures.refused c.in_err-part.ensures.unread

pub returns-in_err-part-clause-fault : goal.returns-in_err-part-clause-fault
returns-in_err-part-clause-fault g c =
    passed_on c.from_residual-in_err-part.result _ IsOfJournal c.from_residual-in_err-part.ensures.1 (inr (inr c.in_err-part.ensures.fault))

-- or not printed
pub returns-in_err-printing-clause-printed : goal.returns-in_err-printing-clause-printed
returns-in_err-printing-clause-printed g c =
    let at = at_paths g.O.File.Read.remaining g.O.File.CountedRead.failure_count (g.O.Opens.bytes_at c.args.paths.now) in
    let args = c.args.args.now in
    let old = g.W.CountedWrite.stream c.args.output.now in
    let it : Printing = record { walk = c.from.result; text = c.new.result; kind = c.of.result; bad = None } in
    let begun : HasPrinted args old [] it old = begun_with args old it c.in_ok-wanted.wanted (sym c.in_ok-wanted.ensures.wanted) c.new.ensures.bytes c.of.ensures refl in
    let middle = g.W.CountedWrite.stream c.print_part.new.output in
    subst (λ (r : Done). PrintsParts at args old middle r) (sym (passed_as c.from_residual-in_err-printing.result _ _ c.from_residual-in_err-printing.ensures.1 refl))
    (within_failed at args old c.in_ok-part.first (left_in g.O.File.Read.remaining c.in_ok-part.part) it c.in_ok-part.ensures.first c.from.ensures.id c.from.ensures.end begun
    _ middle
    (later-part g.O.File.Read.remaining g.O.File.CountedRead.failure_count _ c.in_ok-part.part.source _ c.in_ok-part.ensures.opened c.in_err-printing.ensures.unread)
    c.in_err-printing.ensures.failed)

pub returns-in_err-printing-clause-fault : goal.returns-in_err-printing-clause-fault
returns-in_err-printing-clause-fault g c =
    passed_on c.from_residual-in_err-printing.result _ IsOfJournal c.from_residual-in_err-printing.ensures.1 (inr c.in_err-printing.ensures.fault)

-- a further one was not
pub returns-in_err-printing-2-clause-printed : goal.returns-in_err-printing-2-clause-printed
returns-in_err-printing-2-clause-printed g c =
    let at = at_paths g.O.File.Read.remaining g.O.File.CountedRead.failure_count (g.O.Opens.bytes_at c.args.paths.now) in
    let args = c.args.args.now in
    let old = g.W.CountedWrite.stream c.args.output.now in
    let it : Printing = record { walk = c.from.result; text = c.new.result; kind = c.of.result; bad = None } in
    let begun : HasPrinted args old [] it old = begun_with args old it c.in_ok-wanted.wanted (sym c.in_ok-wanted.ensures.wanted) c.new.ensures.bytes c.of.ensures refl in
    let middle = g.W.CountedWrite.stream c.print_part.new.output in
    let after = g.W.CountedWrite.stream c.print_parts.new.output in
    let same : c.as_slice.result.now ≡ args.parts.items = c.as_slice.ensures.value in
    subst (λ (r : Done). PrintsParts at args old after r) (sym (passed_as c.from_residual-in_err-printing-2.result _ _ c.from_residual-in_err-printing-2.ensures.1 refl))
    (more_failed at args old c.in_ok-part.first (left_in g.O.File.Read.remaining c.in_ok-part.part) it c.in_ok-part.ensures.first c.from.ensures.id c.from.ensures.end begun
    c.in_ok-printing.printing middle c.in_ok-printing.ensures.printed _ after c.in_err-printing-2.ensures.fault
    (any_of at c.as_slice.result.now args.parts.items _ same c.in_err-printing-2.ensures.unread)
    (more_of (g.O.Opens.bytes_at c.args.paths.now) c.as_slice.result.now args.parts.items c.in_ok-printing.printing middle after _ same c.in_err-printing-2.ensures.failed))

pub returns-in_err-printing-2-clause-fault : goal.returns-in_err-printing-2-clause-fault
returns-in_err-printing-2-clause-fault g c =
    passed_on c.from_residual-in_err-printing-2.result _ IsOfJournal c.from_residual-in_err-printing-2.ensures.1 (inr c.in_err-printing-2.ensures.fault)
