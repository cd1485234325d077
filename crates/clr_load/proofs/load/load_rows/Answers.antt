use Rattle.std.proofs.Common.{◌≡◌, ◌∙◌, Err, FitsSigned, Global, Ok, Vec, of_z, rules, sym, to_z, to_z-of_z, w64}
use Rattle.clr_rules.specs.declared.hold.Hold.{Hold}
use Rattle.clr_rules.specs.declared.record.Record.{Record}
use Rattle.clr_rules.specs.declared.step_row.StepRow.{StepRow}
use Rattle.clr_load.specs.RowsRead.{rows_read}
use Rattle.clr_load.specs.Filling.{IsLoaded}
use Rattle.clr_load.proofs.AllGiven.{gives_rows}
use Rattle.clr_load.proofs.Inside.{told_as}
use Rattle.clr_load.proofs.load.load_rows.Goals as goal

pub returns-in_err-loaded-clause-rows : goal.returns-in_err-loaded-clause-rows
returns-in_err-loaded-clause-rows g c clean t has =
    let told : c.from_residual.result ≡ Err c.in_err-loaded.field-0.0 = told_as _ _ c.from_residual.ensures.1 in
    rw told (gives_rows (IsLoaded (λ (list : Vec Record Global) rows. list.items ≡ rows) (λ (list : Vec StepRow Global) rows. list.items ≡ rows) (λ (list : Vec Hold Global) rows. list.items ≡ rows))
    (rows_read t) c.in_err-loaded.field-0.0 (c.in_err-loaded.ensures.rows clean t has))

pub returns-in_err-loaded-clause-cause : goal.returns-in_err-loaded-clause-cause
returns-in_err-loaded-clause-cause g c out clean t has =
    let told : c.from_residual.result ≡ Err c.in_err-loaded.field-0.0 = told_as _ _ c.from_residual.ensures.1 in
    rw told (c.in_err-loaded.ensures.cause out clean t has)

pub returns-clause-rows : goal.returns-clause-rows
returns-clause-rows g c clean t has =
    let it = c.in_ok-loaded.ensures.rows clean t has in
    let is = it.2 in
    let fits : FitsSigned w64 c.in_ok-loaded.loaded.version = search rules in
    let same : it.0 ≡ record {
      version = to_z w64 (of_z w64 c.in_ok-loaded.loaded.version);
      sections = c.in_ok-loaded.loaded.sections.items;
      points = c.in_ok-loaded.loaded.points.items;
      states = c.in_ok-loaded.loaded.states.items;
      staff = c.in_ok-loaded.loaded.staff.items;
      records = c.in_ok-loaded.loaded.records.items;
      steps = c.in_ok-loaded.loaded.steps.items;
      holds = c.in_ok-loaded.loaded.holds.items;
    } = λ i. record {
      version = (sym is.version ∙ sym (to_z-of_z fits)) i;
      sections = sym is.sections i;
      points = sym is.points i;
      states = sym is.states i;
      staff = sym is.staff i;
      records = sym is.records_are i;
      steps = sym is.steps_are i;
      holds = sym is.holds_are i;
    } in
    it.1 ∙ (λ i. Ok (same i))
