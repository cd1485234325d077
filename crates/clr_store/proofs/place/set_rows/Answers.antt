use Rattle.std.proofs.Common.{◌≡◌, Err, rules}
use Rattle.sqlite.specs.Held.{state}
use Rattle.sqlite.specs.Values.{bound}
use Rattle.clr_load.specs.Cause.{fault_of}
use Rattle.clr_store.proofs.Inside.{statement_fails}
use Rattle.clr_store.proofs.Setting.{sets_rows}
use Rattle.clr_store.proofs.place.set_rows.Goals as goal

pub returns : goal.returns
returns g c = record {
  same_reference = c.execute.ensures.same_reference;
  step = λ clean inside.
      sets_rows (bound c.args.row.now) c.requires.fits (state g.S.Store c.args.tx.now.conn.now) (state g.S.Store c.execute.new.self.conn.now) c.in_ok-execute.field-0
      (c.in_ok-execute.ensures.runs clean inside);
  fault = tt;
  survives = c.execute.ensures.survives;
}

pub returns-in_err-execute : goal.returns-in_err-execute
returns-in_err-execute g c =
    let told : c.from_residual.result ≡ Err (fault_of c.in_err-execute.field-0.0) = search rules in
    statement_fails g.S.Store c.args.tx.now c.execute.new.self _ _ c.in_err-execute.field-0.0 _ _ c.execute.ensures.same_reference c.in_err-execute.ensures.runs c.execute.ensures.survives told
