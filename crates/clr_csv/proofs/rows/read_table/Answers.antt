use Rattle.std.proofs.Common.{◌∙◌, ap, sym, Err, arith}
use Rattle.std.proofs.lemmas.Result.{err_from_is_err_and}
use Rattle.csv.specs.Records.{fields_of}
use Rattle.clr_csv.specs.Rows.{row_of}
use Rattle.clr_csv.proofs.RowLemmas.{length-taken, rows_from-fault, rows_from-nil, rows_from-read, rows_from-without_text}
use Rattle.clr_csv.proofs.rows.read_table.Goals as goal

-- a row that is not text
pub returns-in_err-next : goal.returns-in_err-next
returns-in_err-next g c =
    let p = err_from_is_err_and c.from_residual.result c.from_residual.ensures.1 in
    rw (p.1, p.2) (λ want.
    let t = c.in_err-next.ensures want in
    c.loop-rows.invariant.told
    ∙ rows_from-without_text g.T.FileRow.header g.T.FileRow.columns c.loop-rows.row c.loop-rows.table c.loop-rows.rows.items t.1
    ∙ ap Err (sym t.0))

-- a row with another fault
pub returns-in_err-read_row : goal.returns-in_err-read_row
returns-in_err-read_row g c =
    let p = err_from_is_err_and c.from_residual-in_err-read_row.result c.from_residual-in_err-read_row.ensures.1 in
    let taken = rw c.if-branch.true at c.in_ok-next.ensures in
    rw (p.1, p.2) (λ want.
    c.loop-rows.invariant.told
    ∙ rows_from-fault (row_of g.T.FileRow.header g.T.FileRow.columns) c.loop-rows.row (fields_of c.next.new.fields) c.loop-rows.table c.next.new.self c.loop-rows.rows.items _
    taken.0 (sym c.read_row.ensures ∙ c.in_err-read_row.was))

-- one row more
pub loop-rows-preserved : goal.loop-rows-preserved
loop-rows-preserved g c =
    let taken = rw c.if-branch.true at c.in_ok-next.ensures in
    record {
      told =
          rw c.in_ok-push.ensures.items (
          c.loop-rows.invariant.told
          ∙ rows_from-read (row_of g.T.FileRow.header g.T.FileRow.columns) c.loop-rows.row (fields_of c.next.new.fields) c.loop-rows.table c.next.new.self c.loop-rows.rows.items _
          taken.0 (sym c.read_row.ensures ∙ c.in_ok-read_row.was));
      fits = omega (arith, length-taken _ _ _ taken.0, c.loop-rows.invariant.fits);
    }

-- no row is left
pub returns : goal.returns
returns g c =
    c.loop-rows.invariant.told
    ∙ rows_from-nil (row_of g.T.FileRow.header g.T.FileRow.columns) c.loop-rows.row c.loop-rows.table c.loop-rows.rows.items (rw c.if-branch.false at c.in_ok-next.ensures)
