use Rattle.std.proofs.Common.{◌≡◌, Err, refl, subst, sym}
use Rattle.std.specs.Prelude.{IfErr, MatchResult}
use Rattle.sqlite.specs.Held.{state}
use Rattle.sqlite.specs.State.{IsUnchanged}
use Rattle.clr_load.specs.Cause.{SqlHasCause, fault_of}
use Rattle.clr_load.specs.Fault.{IsOfDatabase}
use Rattle.clr_load.specs.Loads.{Stays}
use Rattle.clr_load.proofs.Causes.{read_cause, told_of_database}
use Rattle.clr_load.proofs.Selecting.{failed_rests, shown_rests, survives_listed}
use Rattle.clr_load.proofs.Inside.{told_as}
use Rattle.clr_load.proofs.expected.list_table.Goals as goal

pub returns-in_err-rows-clause-survives : goal.returns-in_err-rows-clause-survives
returns-in_err-rows-clause-survives g c =
    survives_listed c.args.table (state g.S.Store c.args.conn.now) (state g.S.Store c.query_all.new.self) (rw c.select_sql.ensures at c.query_all.ensures.survives)

pub returns-in_err-rows-clause-unchanged : goal.returns-in_err-rows-clause-unchanged
returns-in_err-rows-clause-unchanged g c clean =
    let told : c.from_residual.result ≡ Err (fault_of c.in_err-rows.field-0.0) = told_as _ _ c.from_residual.ensures.1 in
    let stays = failed_rests c.args.table (state g.S.Store c.args.conn.now) (state g.S.Store c.query_all.new.self) _ (rw c.select_sql.ensures at (c.in_err-rows.ensures.err clean)) in
    subst (λ r. MatchResult r (λ _. IsUnchanged (state g.S.Store c.args.conn.now) (state g.S.Store c.query_all.new.self)) (λ _. Stays (state g.S.Store c.args.conn.now) (state g.S.Store c.query_all.new.self))) (sym told) stays

pub returns-in_err-rows-clause-fault : goal.returns-in_err-rows-clause-fault
returns-in_err-rows-clause-fault g c =
    let told : c.from_residual.result ≡ Err (fault_of c.in_err-rows.field-0.0) = told_as _ _ c.from_residual.ensures.1 in
    subst (λ r. IfErr r IsOfDatabase) (sym told) (told_of_database c.in_err-rows.field-0.0 _ refl)

pub returns-in_err-rows-clause-cause : goal.returns-in_err-rows-clause-cause
returns-in_err-rows-clause-cause g c clean l there has =
    let told : c.from_residual.result ≡ Err (fault_of c.in_err-rows.field-0.0) = told_as _ _ c.from_residual.ensures.1 in
    let caused = read_cause l c.args.table there (state g.S.Store c.args.conn.now) (state g.S.Store c.query_all.new.self) _ _ has refl (rw c.select_sql.ensures at (c.in_err-rows.ensures.err clean)) in
    subst (λ r. IfErr r (SqlHasCause (state g.S.Store c.args.conn.now) (state g.S.Store c.query_all.new.self))) (sym told) caused

pub returns-clause-survives : goal.returns-clause-survives
returns-clause-survives g c =
    survives_listed c.args.table (state g.S.Store c.args.conn.now) (state g.S.Store c.query_all.new.self) (rw c.select_sql.ensures at c.query_all.ensures.survives)

pub returns-clause-unchanged : goal.returns-clause-unchanged
returns-clause-unchanged g c clean =
    shown_rests c.args.table (state g.S.Store c.args.conn.now) (state g.S.Store c.query_all.new.self) _ (rw c.select_sql.ensures at (c.in_ok-rows.ensures.ok clean))

pub returns-clause-shown : goal.returns-clause-shown
returns-clause-shown g c clean = rw c.select_sql.ensures at (c.in_ok-rows.ensures.ok clean)
