use Rattle.std.proofs.Common.{◌≡◌}
use Rattle.clr_load.proofs.Streaming.{HasReadInto}
use Rattle.clr_load.proofs.table.read_table.Given as goal

-- the same connection is read from, and the rows so far were read
abbrev pub invariant-rows : goal.invariant-rows
invariant-rows g l = record {
  same : l.rows.conn.ghost_name ≡ l.initial.rows.conn.ghost_name;
  read : HasReadInto g.S.Store l.fn.table g.T.TableRow.values g.F.Fill.has l.fn.conn l.rows.conn.now l.into;
}
