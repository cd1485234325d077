use Rattle.sqlite.specs.Held.{state}
use Rattle.sqlite.specs.Values.{bound}
use Rattle.clr_store.proofs.Inside.{then_puts}
use Rattle.clr_store.proofs.Replacing.{was_put}
use Rattle.clr_store.proofs.edits.put_row.Goals as goal

pub returns-then-branch-eq0 : goal.returns-then-branch-eq0
returns-then-branch-eq0 g c =
    then_puts g.S.Store c.args.tx.now c.replace_row.new.tx c.insert_row.new.tx c.args.table (bound c.args.row.now) c.in_ok-replace_row.field-0 c.insert_row.result c.if-branch-eq0.true c.requires.there
    c.in_ok-replace_row.ensures c.insert_row.ensures

pub returns-else-branch-eq0 : goal.returns-else-branch-eq0
returns-else-branch-eq0 g c = record {
  same_reference = c.in_ok-replace_row.ensures.same_reference;
  step = λ clean inside.
      was_put (state g.S.Store c.args.tx.now.conn.now) (state g.S.Store c.replace_row.new.tx.conn.now) c.args.table (bound c.args.row.now) c.in_ok-replace_row.field-0 c.if-branch-eq0.false
      (c.in_ok-replace_row.ensures.step clean inside);
  fault = tt;
  survives = c.in_ok-replace_row.ensures.survives;
}
