use Rattle.std.proofs.Common.{◌∙◌, inl, inr, refl, sym, Err, Ok}
use Rattle.std.specs.Prelude.{string_bytes}
use Rattle.clr_edge.specs.declared.fault.Fault.TheVariants.{Journal, Memory, Output}
use Rattle.clr_edge.specs.declared.fault.JournalFault.TheVariants.{BadLine}
use Rattle.clr_keeping.specs.Journal.{IsOfJournal}
use Rattle.clr_keeping.proofs.KindSteps.{all_cut, all_none, all_out, text_cut, text_out}
use Rattle.clr_keeping.proofs.PartLines.{passed_as, passed_on, told_as}
use Rattle.clr_keeping.proofs.StepTexts.{ends_badly, ends_well}
use Rattle.clr_keeping.proofs.journal.Printing.end.Goals as goal

-- all went out, and a line did not hold its sum
pub returns-in-Some-clause-printed : goal.returns-in-Some-clause-printed
returns-in-Some-clause-printed g c = λ args began steps is.
    let old = g.W.CountedWrite.stream c.args.output.now in
    let new = g.W.CountedWrite.stream c.write_out.new.writer in
    all_out c.args.self (string_bytes c.end.new.out) args began old new steps (Err (Journal (BadLine c.in-Some.number))) c.in_ok-end.ensures
    (text_out old new c.as_str.result.now (string_bytes c.end.new.out) c.as_str.ensures.value c.in_ok-write_out.ensures.whole)
    (λ same. ends_badly steps c.in-Some.number (sym c.in-Some.is ∙ same)) is

pub returns-in-Some-clause-fault : goal.returns-in-Some-clause-fault
returns-in-Some-clause-fault g c = inr (inr (inr (inr (inr (inr (inl (c.in-Some.number, refl)))))))

-- each held its sum
pub returns-clause-printed : goal.returns-clause-printed
returns-clause-printed g c = λ args began steps is.
    let old = g.W.CountedWrite.stream c.args.output.now in
    let new = g.W.CountedWrite.stream c.write_out.new.writer in
    all_out c.args.self (string_bytes c.end.new.out) args began old new steps (Ok tt) c.in_ok-end.ensures
    (text_out old new c.as_str.result.now (string_bytes c.end.new.out) c.as_str.ensures.value c.in_ok-write_out.ensures.whole)
    (λ same. ends_well steps (sym c.in-None.is ∙ same)) is

-- memory ran out
pub returns-in_err-end-clause-printed : goal.returns-in_err-end-clause-printed
returns-in_err-end-clause-printed g c = λ args began steps is.
    all_none c.args.self args began (g.W.CountedWrite.stream c.args.output.now) steps c.from_residual.result (told_as c.from_residual.result Memory c.from_residual.ensures.1) is

pub returns-in_err-end-clause-fault : goal.returns-in_err-end-clause-fault
returns-in_err-end-clause-fault g c = passed_on c.from_residual.result Memory IsOfJournal c.from_residual.ensures.1 (inr (inr (inl refl)))

-- a front went out
pub returns-in_err-write_out-clause-printed : goal.returns-in_err-write_out-clause-printed
returns-in_err-write_out-clause-printed g c = λ args began steps is.
    let old = g.W.CountedWrite.stream c.args.output.now in
    let new = g.W.CountedWrite.stream c.write_out.new.writer in
    let result = c.from_residual-in_err-write_out.result in
    all_cut c.args.self (string_bytes c.end.new.out) args began old new steps result c.in_ok-end.ensures
    (text_cut old new c.as_str.result.now (string_bytes c.end.new.out) c.as_str.ensures.value c.in_err-write_out.ensures.cut)
    (passed_as result _ Output c.from_residual-in_err-write_out.ensures.1 c.in_err-write_out.ensures.fault) is

pub returns-in_err-write_out-clause-fault : goal.returns-in_err-write_out-clause-fault
returns-in_err-write_out-clause-fault g c =
    passed_on c.from_residual-in_err-write_out.result _ IsOfJournal c.from_residual-in_err-write_out.ensures.1 (inr (inl c.in_err-write_out.ensures.fault))
