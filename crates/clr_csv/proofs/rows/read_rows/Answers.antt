use Rattle.std.proofs.Common.{◌≡◌, ◌∙◌, ap, sym, Err}
use Rattle.std.proofs.lemmas.Result.{err_from_is_err_and}
use Rattle.clr_csv.specs.declared.fault.CsvFault.TheVariants.{ReadFailed}
use Rattle.clr_csv.proofs.RowLemmas.{one_fault, rows_in-no_failure}
use Rattle.clr_csv.proofs.rows.read_rows.Goals as goal

-- rows in memory are no failure of the reader
pub returns-in_err-rows-clause-cause : goal.returns-in_err-rows-clause-cause
returns-in_err-rows-clause-cause g c =
    let p = err_from_is_err_and c.from_residual-in_err-rows.result c.from_residual-in_err-rows.ensures.1 in
    λ failed.
    let same : c.in_err-rows.field-0.0 ≡ ReadFailed = sym p.2 ∙ one_fault c.from_residual-in_err-rows.result p.0 ReadFailed p.1 failed in
    absurd (rows_in-no_failure g.T.FileRow.header g.T.FileRow.columns _ (c.in_err-rows.ensures (λ want. cc (sym same ∙ want)) ∙ ap Err same))
