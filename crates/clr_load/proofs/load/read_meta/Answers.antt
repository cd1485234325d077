use Rattle.std.proofs.Common.{◌≡◌, Err, Ok, inl, refl, subst, sym}
use Rattle.sqlite.specs.Held.{state}
use Rattle.clr_load.specs.declared.table_name.TableName.TheVariants.{Meta}
use Rattle.clr_load.specs.Cause.{fault_of}
use Rattle.clr_load.specs.Layout.{has_rows}
use Rattle.clr_load.specs.Loads.{Loads}
use Rattle.clr_load.proofs.Causes.{read_cause, told_of_database}
use Rattle.clr_load.proofs.Loading.{lists}
use Rattle.clr_load.proofs.Selecting.{failed_rests, shown_rests, survives_listed}
use Rattle.clr_load.proofs.Staying.{stops}
use Rattle.clr_load.proofs.Inside.{told_as}
use Rattle.clr_load.proofs.load.read_meta.Goals as goal

pub returns-in_err-rows : goal.returns-in_err-rows
returns-in_err-rows g c =
    let old = state g.S.Store c.args.conn.now in
    let new = state g.S.Store c.query_all.new.self in
    let fault = fault_of c.in_err-rows.field-0.0 in
    let told : c.from_residual.result ≡ Err fault = told_as _ _ c.from_residual.ensures.1 in
    subst (λ r. Loads g.S.Store c.args.conn.now c.query_all.new.self (λ l. has_rows l Meta) (λ l t. Ok t.meta) (λ rows meta. rows.items ≡ meta) r) (sym told)
    (stops g.S.Store c.args.conn.now c.query_all.new.self _ _ _ fault c.query_all.ensures.mode (survives_listed Meta old new (rw c.select_sql.ensures at c.query_all.ensures.survives))
    (λ clean. failed_rests Meta old new _ (rw c.select_sql.ensures at (c.in_err-rows.ensures.err clean))) (told_of_database c.in_err-rows.field-0.0 fault refl)
    (λ clean l there t has. read_cause l Meta there old new _ fault has.holds.schema refl (rw c.select_sql.ensures at (c.in_err-rows.ensures.err clean))))

pub returns : goal.returns
returns g c =
    let old = state g.S.Store c.args.conn.now in
    let new = state g.S.Store c.query_all.new.self in
    record {
      mode = c.query_all.ensures.mode;
      survives = survives_listed Meta old new (rw c.select_sql.ensures at c.query_all.ensures.survives);
      unchanged = λ clean. shown_rests Meta old new _ (rw c.select_sql.ensures at (c.in_ok-rows.ensures.ok clean));
      was_open = λ clean. inl (shown_rests Meta old new _ (rw c.select_sql.ensures at (c.in_ok-rows.ensures.ok clean))).0.was_open;
      gives = λ clean l there t has. (
        (t.meta, refl, lists l old new Meta t _ there has.holds has.in_order (rw c.select_sql.ensures at (c.in_ok-rows.ensures.ok clean))),
        tt,
      );
    }
