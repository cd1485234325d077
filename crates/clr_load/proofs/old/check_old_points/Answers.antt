use Rattle.std.proofs.Common.{◌≡◌, ◌∙◌, Err, ap, inl, rules, subst, sym}
use Rattle.std.specs.Prelude.{is_ok, true}
use Rattle.sqlite.specs.Held.{state}
use Rattle.clr_load.specs.RowsRead.{all_read}
use Rattle.clr_load.specs.declared.table_name.TableName.TheVariants.{Point}
use Rattle.clr_load.specs.Contract.{RefusesPoints, old_points}
use Rattle.clr_load.specs.Fault.{IsOfDatabase, IsOfPoints}
use Rattle.clr_load.specs.Found.{Lists}
use Rattle.clr_load.specs.Layout.{has_rows, is_one}
use Rattle.clr_load.specs.Reading.{old_values}
use Rattle.clr_load.proofs.Inside.{fails_so, told_as}
use Rattle.clr_load.proofs.Loading.{lists_in}
use Rattle.clr_load.proofs.OldPoints.{early_blame, old_blame, old_fails, old_read, old_refused, one_has_points, refused_early}
use Rattle.clr_load.proofs.old.check_old_points.Goals as goal

pub returns-in_err-_points-clause-refused : goal.returns-in_err-_points-clause-refused
returns-in_err-_points-clause-refused g c clean inside t has =
    let old = state g.S.Store c.args.tx.now.conn.now in
    let new = state g.S.Store c.list_rows.new.tx.conn.now in
    let rows = c.in_ok-rows.ensures.lists.step clean inside in
    let refused : RefusesPoints (old_points t) c.in_err-_points.field-0.0 = old_refused old new c.in_ok-rows.rows.items _ c.deref.ensures.value rows c.in_err-_points.field-0.0 c.in_err-_points.ensures t has.holds has.in_order in
    search rules

pub returns-in_err-rows-clause-refused : goal.returns-in_err-rows-clause-refused
returns-in_err-rows-clause-refused g c clean inside t has =
    let refused : RefusesPoints (old_points t) c.in_err-rows.field-0.0 = refused_early t c.in_err-rows.field-0.0 c.in_err-rows.ensures.lists.fault in
    search rules

pub returns-clause-was_open : goal.returns-clause-was_open
returns-clause-was_open g c clean inside = inl (c.in_ok-rows.ensures.lists.step clean inside).was_open

pub returns-in_err-_points-clause-was_open : goal.returns-in_err-_points-clause-was_open
returns-in_err-_points-clause-was_open g c clean inside = inl (c.in_ok-rows.ensures.lists.step clean inside).was_open

pub returns-clause-lists : goal.returns-clause-lists
returns-clause-lists g c =
    let tx = c.args.tx.now in
    let new = c.list_rows.new.tx in
    record {
      same_reference = c.in_ok-rows.ensures.lists.same_reference;
      step = λ clean inside.
          old_read _ _ c.in_ok-rows.rows.items _ (c.in_ok-rows.ensures.lists.step clean inside) (ap (all_read old_values) (sym c.deref.ensures.value) ∙ c.in_ok-_points.ensures);
      fault = tt;
      survives = c.in_ok-rows.ensures.lists.survives;
    }

-- a row that does not read stops the call
pub returns-in_err-_points-clause-lists : goal.returns-in_err-_points-clause-lists
returns-in_err-_points-clause-lists g c =
    let old = state g.S.Store c.args.tx.now.conn.now in
    let new = state g.S.Store c.list_rows.new.tx.conn.now in
    let fault = c.in_err-_points.field-0.0 in
    let told : c.from_residual-in_err-_points.result ≡ Err fault = told_as _ _ c.from_residual-in_err-_points.ensures.1 in
    subst (λ r. Lists g.S.Store c.args.tx.now c.list_rows.new.tx IsOfPoints is_one (λ l t. is_ok (old_points t)) (λ _. true) r) (sym told)
    (record {
      same_reference = c.in_ok-rows.ensures.lists.same_reference;
      step = λ clean inside. old_fails old new c.in_ok-rows.rows.items _ c.deref.ensures.value (c.in_ok-rows.ensures.lists.step clean inside) fault c.in_err-_points.ensures;
      fault = old_blame _ fault c.in_err-_points.ensures;
      survives = c.in_ok-rows.ensures.lists.survives;
    })

pub returns-in_err-rows-clause-lists : goal.returns-in_err-rows-clause-lists
returns-in_err-rows-clause-lists g c =
    let fault = c.in_err-rows.field-0.0 in
    let told : c.from_residual.result ≡ Err fault = told_as _ _ c.from_residual.ensures.1 in
    subst (λ r. Lists g.S.Store c.args.tx.now c.list_rows.new.tx IsOfPoints is_one (λ l t. is_ok (old_points t)) (λ _. true) r) (sym told)
    (fails_so g.S.Store c.args.tx.now c.list_rows.new.tx IsOfDatabase IsOfPoints _ _ _ _ fault
    (lists_in g.S.Store c.args.tx.now c.list_rows.new.tx IsOfDatabase (λ l. has_rows l Point) is_one one_has_points _ _ _ c.in_err-rows.ensures.lists) (λ stops. stops) (early_blame fault))
