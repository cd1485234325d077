use Rattle.std.proofs.Common.{◌≡◌, ◌∙◌, Err, false, rules, sym, subst, true}
use Rattle.std.specs.Prelude.{IfErr, Option}
use Rattle.sqlite.specs.Held.{state}
use Rattle.clr_rules.specs.declared.place.Place.{Place}
use Rattle.clr_load.specs.RowsRead.{place_read}
use Rattle.clr_load.specs.declared.table_name.TableName.TheVariants.{Journal}
use Rattle.clr_load.specs.Cause.{SqlHasCause}
use Rattle.clr_load.specs.Contract.{Gives}
use Rattle.clr_load.specs.Layout.{has_table}
use Rattle.clr_load.proofs.Versioned.{no_place_read, place_cause, place_fails, place_given}
use Rattle.clr_load.proofs.Inside.{told_as}
use Rattle.clr_load.proofs.place.read_place.Goals as goal

pub returns-then-not-is_logged-clause-place : goal.returns-then-not-is_logged-clause-place
returns-then-not-is_logged-clause-place g c clean l schema row has =
    let said = c.is_logged.ensures l in
    let none : has_table l Journal ≡ false = search rules in
    no_place_read l (state g.S.Store c.args.conn.now).now.trees row none has

pub returns-in_err-place-clause-place : goal.returns-in_err-place-clause-place
returns-in_err-place-clause-place g c clean l schema row has =
    let said = c.is_logged.ensures l in
    let there : has_table l Journal ≡ true = search rules in
    let fault = c.in_err-place.field-0.0 in
    let told : c.from_residual-in_err-place.result ≡ Err fault = told_as _ _ c.from_residual-in_err-place.ensures.1 in
    subst (Gives {X = Option Place} (λ place. place) (place_read row)) (sym told)
    (place_fails l (state g.S.Store c.args.conn.now) (state g.S.Store c.list_table.new.conn) c.in_ok-rows.rows.items there schema (c.in_ok-rows.ensures.shown clean) row fault has
    (λ one is. c.in_err-place.ensures one (c.deref.ensures.value ∙ is)))

pub returns-clause-place : goal.returns-clause-place
returns-clause-place g c clean l schema row has =
    let said = c.is_logged.ensures l in
    let there : has_table l Journal ≡ true = search rules in
    place_given l (state g.S.Store c.args.conn.now) (state g.S.Store c.list_table.new.conn) c.in_ok-rows.rows.items there schema (c.in_ok-rows.ensures.shown clean) row _ has
    (λ one is. c.in_ok-place.ensures one (c.deref.ensures.value ∙ is))

-- ---- `Sql` has a cause
pub returns-in_err-place-clause-cause : goal.returns-in_err-place-clause-cause
returns-in_err-place-clause-cause g c out clean l schema placed =
    let said = c.is_logged.ensures l in
    let there : has_table l Journal ≡ true = search rules in
    let told : c.from_residual-in_err-place.result ≡ Err c.in_err-place.field-0.0 = told_as _ _ c.from_residual-in_err-place.ensures.1 in
    subst (λ r. IfErr r (SqlHasCause (state g.S.Store c.args.conn.now) (state g.S.Store c.list_table.new.conn))) (sym told)
    (place_cause l (state g.S.Store c.args.conn.now) (state g.S.Store c.list_table.new.conn) c.in_ok-rows.rows.items there schema (c.in_ok-rows.ensures.shown clean) (state g.S.Store c.args.conn.now) (state g.S.Store c.list_table.new.conn) c.in_err-place.field-0.0 placed
    (λ one is. c.in_err-place.ensures one (c.deref.ensures.value ∙ is)))
