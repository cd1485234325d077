use Rattle.std.proofs.Common.{◌≡◌, Err, refl, rules, subst, sym}
use Rattle.sqlite.specs.Held.{state}
use Rattle.clr_load.specs.Cause.{SqlHasCause, fault_of}
use Rattle.clr_load.specs.Fault.{IsOfDatabase}
use Rattle.clr_load.specs.Found.{Lists}
use Rattle.clr_load.specs.Layout.{has_rows}
use Rattle.clr_load.specs.Stored.{rows_in}
use Rattle.clr_load.specs.declared.fault.StoreFault.{StoreFault}
use Rattle.clr_load.proofs.Causes.{list_cause, meta_cause, told_of_database}
use Rattle.clr_load.proofs.Loading.{in_layout, listed, query_keeps}
use Rattle.clr_load.proofs.Inside.{told_as}
use Rattle.clr_load.proofs.listing.list_rows.Goals as goal

pub returns-in_err-rows-clause-lists : goal.returns-in_err-rows-clause-lists
returns-in_err-rows-clause-lists g c =
    let old = state g.S.Store c.args.tx.now.conn.now in
    let new = state g.S.Store c.query_all.new.self.conn.now in
    let fault = fault_of c.in_err-rows.field-0.0 in
    let told : c.from_residual.result ≡ Err fault = told_as _ _ c.from_residual.ensures.1 in
    subst (λ r. Lists g.S.Store c.args.tx.now c.query_all.new.self IsOfDatabase (λ l. has_rows l c.args.table) (λ l t. rows_in l c.args.table t) (λ rows. rows.items) r) (sym told)
    (record {
      same_reference = c.query_all.ensures.same_reference;
      step = λ clean inside.
          let failed = rw c.select_sql.ensures at (c.in_err-rows.ensures.err clean) in
          record {
            kept = query_keeps _ _ old new _ failed;
            cause = λ l there t has ordered. list_cause l c.args.table (in_layout l c.args.table there) old new _ fault has.schema inside refl failed;
          };
      fault = told_of_database c.in_err-rows.field-0.0 fault refl;
      survives = c.query_all.ensures.survives;
    })

pub returns-in_err-rows-clause-cause : goal.returns-in_err-rows-clause-cause
returns-in_err-rows-clause-cause g c clean inside table meta has =
    let old = state g.S.Store c.args.tx.now.conn.now in
    let new = state g.S.Store c.query_all.new.self.conn.now in
    let failed = rw table at (rw c.select_sql.ensures at (c.in_err-rows.ensures.err clean)) in
    let caused : (fault : StoreFault) → fault ≡ fault_of c.in_err-rows.field-0.0 → SqlHasCause old new fault = λ fault is.
    meta_cause has.others old new _ fault has.schema inside is failed in
    search rules

pub returns-clause-lists : goal.returns-clause-lists
returns-clause-lists g c = record {
  same_reference = c.query_all.ensures.same_reference;
  step = λ clean inside.
      listed (state g.S.Store c.args.tx.now.conn.now) (state g.S.Store c.query_all.new.self.conn.now) c.args.table _ inside
      (rw c.select_sql.ensures at (c.in_ok-rows.ensures.ok clean));
  fault = tt;
  survives = c.query_all.ensures.survives;
}

pub returns-clause-shown : goal.returns-clause-shown
returns-clause-shown g c clean = rw c.select_sql.ensures at (c.in_ok-rows.ensures.ok clean)
