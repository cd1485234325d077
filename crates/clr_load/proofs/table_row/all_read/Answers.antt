use Rattle.std.proofs.Common.{◌∙◌, arith, rules, sym}
use Rattle.clr_load.proofs.AllRead.{read_fails, read_more, read_none, read_whole}
use Rattle.clr_load.proofs.table_row.all_read.Goals as goal

pub loop-row-init : goal.loop-row-init
loop-row-init g c = record { so_far = rw c.new-items.ensures.items (read_none g.T.TableRow.values) }

pub loop-row-preserved : goal.loop-row-preserved
loop-row-preserved g c = record {
  so_far =
      rw c.in_ok-push.ensures.items
      (read_more g.T.TableRow.values c.args.rows.now c.loop-row.row-index c.row-item.result c.loop-row.items.items c.in_ok-item.item c.loop-row-test.true c.row-item.is
      (sym c.read.ensures ∙ c.in_ok-item.was) c.loop-row.invariant.so_far);
}

pub returns-in_err-item : goal.returns-in_err-item
returns-in_err-item g c =
    let fails = read_fails g.T.TableRow.values c.args.rows.now c.loop-row.row-index c.row-item.result c.loop-row.items.items c.in_err-item.field-0.0 c.loop-row-test.true
    c.row-item.is (sym c.read.ensures ∙ c.in_err-item.was) c.loop-row.invariant.so_far in
    search rules

pub returns : goal.returns
returns g c =
    read_whole g.T.TableRow.values c.args.rows.now c.loop-row.row-index c.loop-row.items.items (omega arith) c.loop-row.invariant.so_far
