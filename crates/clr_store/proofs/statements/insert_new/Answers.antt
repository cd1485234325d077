use Rattle.std.proofs.Common.{take}
use Rattle.sqlite.specs.Held.{state}
use Rattle.sqlite.specs.Values.{bound}
use Rattle.clr_load.specs.Schema.{keys_in}
use Rattle.clr_load.proofs.Columns.{key_parts}
use Rattle.clr_store.proofs.Inserting.{not_put, puts_new, refused_unchanged}
use Rattle.clr_store.proofs.statements.insert_new.Goals as goal

pub returns-in-Ok : goal.returns-in-Ok
returns-in-Ok g c = record {
  same_reference = c.execute.ensures.same_reference;
  step = λ clean inside.
      let parts = key_parts (keys_in c.args.table) (take (keys_in c.args.table) (bound c.args.row.now)) c.requires.keyed in
      puts_new c.args.table (bound c.args.row.now) c.requires.fits parts.0 parts.1 (state g.S.Store c.args.tx.now.conn.now) (state g.S.Store c.execute.new.self.conn.now) c.in-Ok.field-0 c.requires.there
      (rw c.insert_sql.ensures at (c.in-Ok.ensures.runs clean inside));
  fault = tt;
  survives = c.execute.ensures.survives;
}

pub returns-in-Err-SqliteFailure-ConstraintViolation : goal.returns-in-Err-SqliteFailure-ConstraintViolation
returns-in-Err-SqliteFailure-ConstraintViolation g c =
    let on = c.in-Err-SqliteFailure-ConstraintViolation in
    record {
      same_reference = c.execute.ensures.same_reference;
      step = λ clean inside.
          not_put (state g.S.Store c.args.tx.now.conn.now) (state g.S.Store c.execute.new.self.conn.now) c.args.table (bound c.args.row.now) inside
          (refused_unchanged _ _ (state g.S.Store c.args.tx.now.conn.now) (state g.S.Store c.execute.new.self.conn.now) on.field-0-0-0 (rw (on.field-0-is, on.field-0-0-is) at (on.ensures.runs clean inside)));
      fault = tt;
      survives = c.execute.ensures.survives;
    }
