use Rattle.std.proofs.Common.{◌≡◌, take, Ok}
use Rattle.clr_load.specs.RowsRead.{all_read}
use Rattle.clr_load.proofs.table_row.all_read.Given as goal

-- the rows before this one are read
abbrev pub invariant-loop-row : goal.invariant-loop-row
invariant-loop-row g l = record { so_far : all_read g.T.TableRow.values (take l.row-index l.rows) ≡ Ok l.items.items }
