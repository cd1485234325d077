use Rattle.sqlite.specs.Held.{state}
use Rattle.sqlite.specs.Values.{bound}
use Rattle.clr_store.proofs.Inserting.{then_put, was_new}
use Rattle.clr_store.proofs.edits.put_new.Goals as goal

pub returns-then-branch : goal.returns-then-branch
returns-then-branch g c = record {
  same_reference = c.in_ok-insert_new.ensures.same_reference;
  step = λ clean inside.
      was_new (state g.S.Store c.args.tx.now.conn.now) (state g.S.Store c.insert_new.new.tx.conn.now) c.args.table (bound c.args.row.now) c.in_ok-insert_new.field-0 c.if-branch.true
      (c.in_ok-insert_new.ensures.step clean inside);
  fault = tt;
  survives = c.in_ok-insert_new.ensures.survives;
}

pub returns-else-branch : goal.returns-else-branch
returns-else-branch g c =
    then_put g.S.Store c.args.tx.now c.insert_new.new.tx c.put_row.new.tx c.args.table (bound c.args.row.now) _ c.in_ok-insert_new.field-0 c.put_row.result c.if-branch.false
    c.in_ok-insert_new.ensures c.put_row.ensures
