use Rattle.std.proofs.Common.{◌∙◌, ap, sym, Err}
use Rattle.std.proofs.lemmas.Result.{err_from_is_err_and}
use Rattle.clr_csv.proofs.RowLemmas.{under_header-without_text}
use Rattle.clr_csv.proofs.rows.read_header.Goals as goal

-- a first record that is not text
pub returns-in_err-found : goal.returns-in_err-found
returns-in_err-found c =
    let p = err_from_is_err_and c.from_residual.result c.from_residual.ensures.1 in
    rw (p.1, p.2) (λ want.
    let t = c.in_err-found.ensures want in
    under_header-without_text _ c.args.table.now c.requires t.1 ∙ ap Err (sym t.0))
