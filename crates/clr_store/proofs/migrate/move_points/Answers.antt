use Rattle.std.proofs.Common.{◌≡◌, [], Err, arith, inl, refl, rules, subst, sym, true}
use Rattle.sqlite.specs.Held.{state}
use Rattle.sqlite.specs.State.{HasCleanDisk}
use Rattle.clr_load.specs.Cause.{SqlHasCause}
use Rattle.clr_load.specs.Contract.{RefusesPoints, old_points}
use Rattle.clr_load.specs.Fault.{IsOfDatabase, IsOfPoints}
use Rattle.clr_load.specs.declared.layout.Layout.TheVariants.{OfOne}
use Rattle.clr_load.specs.Stored.{HasOldTables}
use Rattle.clr_load.proofs.Inside.{fails_so}
use Rattle.clr_store.specs.Moving.{IsMoving, Moves, moved_points}
use Rattle.clr_store.proofs.Moving.{never_unread, on_ok, points_read_are, reads_move, then_moves, then_stops}
use Rattle.clr_store.proofs.Versions.{database_of_points, database_stops, last_of_points, last_stops}
use Rattle.clr_store.proofs.migrate.move_points.Goals as goal

pub returns-clause-moves : goal.returns-clause-moves
returns-clause-moves g c =
    let G = g.S.Store in
    let tx = c.args.tx.now in
    let a = c.check_old_points.new.tx in
    let b = c.make_points.new.tx in
    let d = c.copy_points.new.tx in
    let read = reads_move G tx a IsOfPoints IsOfPoints (λ _. true) _ refl c.in_ok-check_old_points.ensures.lists in
    let made = then_moves G tx a b IsOfPoints IsOfDatabase IsOfPoints _ _ _ _ _ read c.in_ok-make_points.ensures (λ _. tt) in
    let copied = then_moves G tx b d IsOfPoints IsOfDatabase IsOfPoints _ _ _ _ _ made c.in_ok-copy_points.ensures (λ _. tt) in
    then_moves G tx d c.empty_points.new.tx IsOfPoints IsOfDatabase IsOfPoints _ _ _ _ c.empty_points.result copied c.empty_points.ensures (last_of_points c.empty_points.result)

pub returns-in_err-check_old_points-clause-moves : goal.returns-in_err-check_old_points-clause-moves
returns-in_err-check_old_points-clause-moves g c =
    let fault = c.in_err-check_old_points.field-0.0 in
    let told : c.from_residual.result ≡ Err fault = search rules in
    subst (λ r. Moves g.S.Store c.args.tx.now c.check_old_points.new.tx IsOfPoints (λ t db. HasOldTables db t) (λ t. IsMoving [] (moved_points t.points) t) r) (sym told)
    (fails_so g.S.Store c.args.tx.now c.check_old_points.new.tx IsOfPoints IsOfPoints _ _ _ _ fault c.in_err-check_old_points.ensures.lists (λ failed. failed.kept) (λ same. same))

pub returns-in_err-make_points-clause-moves : goal.returns-in_err-make_points-clause-moves
returns-in_err-make_points-clause-moves g c =
    let G = g.S.Store in
    let tx = c.args.tx.now in
    let a = c.check_old_points.new.tx in
    let fault = c.in_err-make_points.field-0.0 in
    let read = reads_move G tx a IsOfPoints IsOfPoints (λ _. true) _ refl c.in_ok-check_old_points.ensures.lists in
    let told : c.from_residual-in_err-make_points.result ≡ Err fault = search rules in
    subst (λ r. Moves G tx c.make_points.new.tx IsOfPoints (λ t db. HasOldTables db t) (λ t. IsMoving [] (moved_points t.points) t) r) (sym told)
    (then_stops G tx a c.make_points.new.tx IsOfPoints IsOfDatabase IsOfPoints _ _ _ _ _ fault read c.in_err-make_points.ensures (database_of_points fault))

pub returns-in_err-copy_points-clause-moves : goal.returns-in_err-copy_points-clause-moves
returns-in_err-copy_points-clause-moves g c =
    let G = g.S.Store in
    let tx = c.args.tx.now in
    let a = c.check_old_points.new.tx in
    let b = c.make_points.new.tx in
    let fault = c.in_err-copy_points.field-0.0 in
    let read = reads_move G tx a IsOfPoints IsOfPoints (λ _. true) _ refl c.in_ok-check_old_points.ensures.lists in
    let made = then_moves G tx a b IsOfPoints IsOfDatabase IsOfPoints _ _ _ _ _ read c.in_ok-make_points.ensures (λ _. tt) in
    let told : c.from_residual-in_err-copy_points.result ≡ Err fault = search rules in
    subst (λ r. Moves G tx c.copy_points.new.tx IsOfPoints (λ t db. HasOldTables db t) (λ t. IsMoving [] (moved_points t.points) t) r) (sym told)
    (then_stops G tx b c.copy_points.new.tx IsOfPoints IsOfDatabase IsOfPoints _ _ _ _ _ fault made c.in_err-copy_points.ensures (database_of_points fault))

pub returns-clause-read : goal.returns-clause-read
returns-clause-read g c clean inside t has =
    let old = state g.S.Store c.args.tx.now.conn.now in
    let read = state g.S.Store c.check_old_points.new.tx.conn.now in
    let clean_three : HasCleanDisk (state g.S.Store c.copy_points.new.tx.conn.now) = omega (arith, c.empty_points.ensures.survives.clean) in
    let clean_two : HasCleanDisk (state g.S.Store c.make_points.new.tx.conn.now) = omega (arith, c.copy_points.ensures.survives.clean) in
    let clean_one : HasCleanDisk read = omega (arith, c.make_points.ensures.survives.clean) in
    on_ok c.empty_points.result _ (points_read_are old read t (c.in_ok-check_old_points.ensures.lists.step clean_one inside) has)

-- with points that do not read nothing comes after the reading
pub returns-clause-cause : goal.returns-clause-cause
returns-clause-cause g c clean inside t has unread =
    let old = state g.S.Store c.args.tx.now.conn.now in
    let read = state g.S.Store c.check_old_points.new.tx.conn.now in
    let clean_three : HasCleanDisk (state g.S.Store c.copy_points.new.tx.conn.now) = omega (arith, c.empty_points.ensures.survives.clean) in
    let clean_two : HasCleanDisk (state g.S.Store c.make_points.new.tx.conn.now) = omega (arith, c.copy_points.ensures.survives.clean) in
    let clean_one : HasCleanDisk read = omega (arith, c.make_points.ensures.survives.clean) in
    never_unread t (points_read_are old read t (c.in_ok-check_old_points.ensures.lists.step clean_one inside) has) unread

pub returns-in_err-check_old_points-clause-cause : goal.returns-in_err-check_old_points-clause-cause
returns-in_err-check_old_points-clause-cause g c clean inside t has unread =
    let failed = c.in_err-check_old_points.ensures.lists.step clean inside in
    let caused : SqlHasCause (state g.S.Store c.args.tx.now.conn.now) (state g.S.Store c.check_old_points.new.tx.conn.now) c.in_err-check_old_points.field-0.0 =
    failed.cause OfOne refl t has.holds has.in_order in
    search rules

pub returns-in_err-make_points-clause-cause : goal.returns-in_err-make_points-clause-cause
returns-in_err-make_points-clause-cause g c clean inside t has unread =
    let old = state g.S.Store c.args.tx.now.conn.now in
    let read = state g.S.Store c.check_old_points.new.tx.conn.now in
    let early : HasCleanDisk read = omega (arith, c.make_points.ensures.survives.clean) in
    never_unread t (points_read_are old read t (c.in_ok-check_old_points.ensures.lists.step early inside) has) unread

pub returns-in_err-copy_points-clause-cause : goal.returns-in_err-copy_points-clause-cause
returns-in_err-copy_points-clause-cause g c clean inside t has unread =
    let old = state g.S.Store c.args.tx.now.conn.now in
    let read = state g.S.Store c.check_old_points.new.tx.conn.now in
    let later : HasCleanDisk (state g.S.Store c.make_points.new.tx.conn.now) = omega (arith, c.copy_points.ensures.survives.clean) in
    let early : HasCleanDisk read = omega (arith, c.make_points.ensures.survives.clean) in
    never_unread t (points_read_are old read t (c.in_ok-check_old_points.ensures.lists.step early inside) has) unread

pub returns-clause-refused : goal.returns-clause-refused
returns-clause-refused g c clean inside t has = last_stops t c.empty_points.result c.empty_points.ensures.fault

pub returns-in_err-make_points-clause-refused : goal.returns-in_err-make_points-clause-refused
returns-in_err-make_points-clause-refused g c clean inside t has =
    let told = database_stops t c.in_err-make_points.field-0.0 c.in_err-make_points.ensures.fault in
    search rules

pub returns-in_err-copy_points-clause-refused : goal.returns-in_err-copy_points-clause-refused
returns-in_err-copy_points-clause-refused g c clean inside t has =
    let told = database_stops t c.in_err-copy_points.field-0.0 c.in_err-copy_points.ensures.fault in
    search rules

pub returns-clause-was_open : goal.returns-clause-was_open
returns-clause-was_open g c clean inside =
    let clean_three : HasCleanDisk (state g.S.Store c.copy_points.new.tx.conn.now) = omega (arith, c.empty_points.ensures.survives.clean) in
    let clean_two : HasCleanDisk (state g.S.Store c.make_points.new.tx.conn.now) = omega (arith, c.copy_points.ensures.survives.clean) in
    let clean_one : HasCleanDisk (state g.S.Store c.check_old_points.new.tx.conn.now) = omega (arith, c.make_points.ensures.survives.clean) in
    inl (c.in_ok-check_old_points.ensures.lists.step clean_one inside).was_open

pub returns-in_err-check_old_points-clause-refused : goal.returns-in_err-check_old_points-clause-refused
returns-in_err-check_old_points-clause-refused g c clean inside t has =
    let told : RefusesPoints (old_points t) c.in_err-check_old_points.field-0.0 = c.in_err-check_old_points.ensures.refused clean inside t has in
    search rules
