use Rattle.std.proofs.Common.{◌≡◌, Err, refl, rules}
use Rattle.sqlite.specs.Held.{state}
use Rattle.clr_load.specs.declared.table_name.TableName.TheVariants.{Journal}
use Rattle.clr_load.specs.declared.layout.Layout.TheVariants.{AsMadeLogged}
use Rattle.clr_load.specs.Cause.{fault_of}
use Rattle.clr_store.proofs.Beginning.{adds_table}
use Rattle.clr_store.proofs.Inside.{statement_fails}
use Rattle.clr_store.proofs.Creating.{makes_journal, makes_table}
use Rattle.clr_store.proofs.place.make_journal.Goals as goal

pub returns-clause-empty : goal.returns-clause-empty
returns-clause-empty g c = record {
  same_reference = c.execute.ensures.same_reference;
  step = λ clean inside.
      makes_journal (state g.S.Store c.args.tx.now.conn.now) (state g.S.Store c.execute.new.self.conn.now)
      (makes_table AsMadeLogged (state g.S.Store c.args.tx.now.conn.now) (state g.S.Store c.execute.new.self.conn.now) Journal c.in_ok-execute.field-0 refl
      (rw c.create_sql.ensures at (c.in_ok-execute.ensures.runs clean inside)));
  fault = tt;
  survives = c.execute.ensures.survives;
}

pub returns-clause-beside : goal.returns-clause-beside
returns-clause-beside g c = record {
  same_reference = c.execute.ensures.same_reference;
  step = λ clean inside.
      adds_table (state g.S.Store c.args.tx.now.conn.now) (state g.S.Store c.execute.new.self.conn.now) c.in_ok-execute.field-0
      (rw c.create_sql.ensures at (c.in_ok-execute.ensures.runs clean inside));
  fault = tt;
  survives = c.execute.ensures.survives;
}

pub returns-in_err-execute-clause-empty : goal.returns-in_err-execute-clause-empty
returns-in_err-execute-clause-empty g c =
    let told : c.from_residual.result ≡ Err (fault_of c.in_err-execute.field-0.0) = search rules in
    statement_fails g.S.Store c.args.tx.now c.execute.new.self _ _ c.in_err-execute.field-0.0 _ _ c.execute.ensures.same_reference c.in_err-execute.ensures.runs c.execute.ensures.survives told

pub returns-in_err-execute-clause-beside : goal.returns-in_err-execute-clause-beside
returns-in_err-execute-clause-beside g c =
    let told : c.from_residual.result ≡ Err (fault_of c.in_err-execute.field-0.0) = search rules in
    statement_fails g.S.Store c.args.tx.now c.execute.new.self _ _ c.in_err-execute.field-0.0 _ _ c.execute.ensures.same_reference c.in_err-execute.ensures.runs c.execute.ensures.survives told
