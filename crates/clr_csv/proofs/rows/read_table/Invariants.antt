use Rattle.std.proofs.Common.{◌≡◌, ◌+◌, ◌<◌, ◌^◌, length}
use Rattle.clr_csv.specs.Rows.{row_of, rows_from}
use Rattle.clr_csv.proofs.RowLemmas.{rows_after}
use Rattle.clr_csv.proofs.rows.read_table.Given as goal

-- the rows so far, and those that the rest reads as
abbrev pub invariant-loop-rows : goal.invariant-loop-rows
invariant-loop-rows g l = record {
  told : rows_from (row_of g.T.FileRow.header g.T.FileRow.columns) 1 l.fn.table
      ≡ rows_after l.rows.items (rows_from (row_of g.T.FileRow.header g.T.FileRow.columns) l.row l.table);
  fits : l.row + length l.table < 2 ^ 64;
}

-- how many records are left
abbrev pub decreases-loop-rows : goal.decreases-loop-rows
decreases-loop-rows g l = length l.table
