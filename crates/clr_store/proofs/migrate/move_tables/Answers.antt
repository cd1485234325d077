use Rattle.std.proofs.Common.{◌≡◌, IsTrue, arith, inl, rules, refl, subst, sym}
use Rattle.sqlite.specs.Effect.{Database}
use Rattle.sqlite.specs.Held.{state}
use Rattle.sqlite.specs.State.{HasCleanDisk, Survives}
use Rattle.clr_load.specs.TableEdits.{tables_moved}
use Rattle.clr_store.specs.Moving.{AreMoved}
use Rattle.clr_load.specs.Cause.{SqlHasCause}
use Rattle.clr_load.specs.Contract.{RefusesPoints, old_points}
use Rattle.clr_load.specs.Stored.{HasTables}
use Rattle.clr_load.proofs.Causes.{begun_cause, cause_later}
use Rattle.clr_load.proofs.Loading.{then_kept}
use Rattle.clr_store.proofs.Creating.{no_tables}
use Rattle.clr_store.proofs.Moving.{move_crash, never_unread, surely_open, told_anew}
use Rattle.clr_store.proofs.Versions.{database_of_points, database_stops, points_of_error}
use Rattle.clr_store.proofs.migrate.move_tables.Goals as goal

pub returns-clause-moved : goal.returns-clause-moved
returns-clause-moved g c clean t has =
    let old = c.args.conn.now in
    let first = c.move_points.new.tx.conn.now in
    let mid = c.set_version.new.tx.conn.now in
    let end = c.commit.new.self.0 in
    let begun = c.transaction-tx.ensures.begun in
    let same : end ≡ c.conn-2-1.given.0 = search rules in
    let late : HasCleanDisk (state g.S.Store end) = search rules in
    let middle : HasCleanDisk (state g.S.Store mid) = omega (arith, c.commit.ensures.survives.clean) in
    let early : HasCleanDisk (state g.S.Store first) = omega (arith, c.set_version.ensures.survives.clean) in
    let made = rw begun at (c.in_ok-move_points.ensures.moves.step early (rw begun refl) t) in
    let read = rw begun at (c.in_ok-move_points.ensures.read early (rw begun refl)) in
    let told = told_anew (state g.S.Store old).now (state g.S.Store first) (state g.S.Store mid) t has (made.makes has) (c.in_ok-set_version.ensures.step middle made.inside) in
    let moved = subst (λ (d : Database). HasTables d (tables_moved t)) (sym (c.in_ok-commit.ensures.ok late).1.now_is) told in
    (read t has, subst (λ h. HasTables (state g.S.Store h).now (tables_moved t)) same moved)

pub returns-clause-crash : goal.returns-clause-crash
returns-clause-crash g c =
    let old = c.args.conn.now in
    let first = c.move_points.new.tx.conn.now in
    let mid = c.set_version.new.tx.conn.now in
    let end = c.commit.new.self.0 in
    let begun = c.transaction-tx.ensures.begun in
    let same : end ≡ c.conn-2-1.given.0 = search rules in
    subst (λ h. Survives (state g.S.Store old) (state g.S.Store h) (λ trees. IsTrue (state g.S.Store old).is_open × AreMoved (state g.S.Store old).now trees)) same
    (move_crash g.S.Store old first mid end (rw begun at c.move_points.ensures.moves.survives) c.set_version.ensures.survives c.commit.ensures.survives
    (λ clean.
    let early : HasCleanDisk (state g.S.Store first) = omega (arith, c.set_version.ensures.survives.clean) in
    let here : IsTrue (state g.S.Store old).is_open = surely_open (rw begun at (c.in_ok-move_points.ensures.was_open early (rw begun refl))) in (
      here,
      λ t has.
          let made = rw begun at (c.in_ok-move_points.ensures.moves.step early (rw begun refl) t) in
          let read = rw begun at (c.in_ok-move_points.ensures.read early (rw begun refl)) in (
            read t has,
            told_anew (state g.S.Store old).now (state g.S.Store first) (state g.S.Store mid) t has (made.makes has) (c.in_ok-set_version.ensures.step clean made.inside),
          ),
    )))

pub returns-in_err-commit-clause-crash : goal.returns-in_err-commit-clause-crash
returns-in_err-commit-clause-crash g c =
    let old = c.args.conn.now in
    let first = c.move_points.new.tx.conn.now in
    let mid = c.set_version.new.tx.conn.now in
    let end = c.commit.new.self.0 in
    let begun = c.transaction-tx.ensures.begun in
    let same : end ≡ c.conn-2-1.given.0 = search rules in
    subst (λ h. Survives (state g.S.Store old) (state g.S.Store h) (λ trees. IsTrue (state g.S.Store old).is_open × AreMoved (state g.S.Store old).now trees)) same
    (move_crash g.S.Store old first mid end (rw begun at c.move_points.ensures.moves.survives) c.set_version.ensures.survives c.commit.ensures.survives
    (λ clean.
    let early : HasCleanDisk (state g.S.Store first) = omega (arith, c.set_version.ensures.survives.clean) in
    let here : IsTrue (state g.S.Store old).is_open = surely_open (rw begun at (c.in_ok-move_points.ensures.was_open early (rw begun refl))) in (
      here,
      λ t has.
          let made = rw begun at (c.in_ok-move_points.ensures.moves.step early (rw begun refl) t) in
          let read = rw begun at (c.in_ok-move_points.ensures.read early (rw begun refl)) in (
            read t has,
            told_anew (state g.S.Store old).now (state g.S.Store first) (state g.S.Store mid) t has (made.makes has) (c.in_ok-set_version.ensures.step clean made.inside),
          ),
    )))

pub returns-in_err-commit-clause-fault : goal.returns-in_err-commit-clause-fault
returns-in_err-commit-clause-fault g c =
    let told = points_of_error c.in_err-commit.field-0.0 in
    search rules

pub returns-in_err-set_version-clause-fault : goal.returns-in_err-set_version-clause-fault
returns-in_err-set_version-clause-fault g c =
    let told = database_of_points c.in_err-set_version.field-0.0 c.in_err-set_version.ensures.fault in
    search rules

pub returns-in_err-set_version-clause-refused : goal.returns-in_err-set_version-clause-refused
returns-in_err-set_version-clause-refused g c clean t has =
    let told = database_stops t c.in_err-set_version.field-0.0 c.in_err-set_version.ensures.fault in
    search rules

pub returns-clause-was_open : goal.returns-clause-was_open
returns-clause-was_open g c clean =
    let begun = c.transaction-tx.ensures.begun in
    let late : HasCleanDisk (state g.S.Store c.commit.new.self.0) = search rules in
    let middle : HasCleanDisk (state g.S.Store c.set_version.new.tx.conn.now) = omega (arith, c.commit.ensures.survives.clean) in
    let early : HasCleanDisk (state g.S.Store c.move_points.new.tx.conn.now) = omega (arith, c.set_version.ensures.survives.clean) in
    inl (surely_open (rw begun at (c.in_ok-move_points.ensures.was_open early (rw begun refl))))

pub returns-in_err-move_points-clause-refused : goal.returns-in_err-move_points-clause-refused
returns-in_err-move_points-clause-refused g c clean t has =
    let begun = c.transaction-tx.ensures.begun in
    let late : HasCleanDisk (state g.S.Store c.drop-tx.new.self.0) = search rules in
    let early : HasCleanDisk (state g.S.Store c.move_points.new.tx.conn.now) = omega (arith, c.drop-tx.ensures.survives.clean) in
    let refused = rw begun at (c.in_err-move_points.ensures.refused early (rw begun refl)) in
    let told : RefusesPoints (old_points t) c.in_err-move_points.field-0.0 = refused t has in
    search rules

pub returns-in_err-move_points-clause-none : goal.returns-in_err-move_points-clause-none
returns-in_err-move_points-clause-none g c clean is_open =
    let begun = c.transaction-tx.ensures.begun in
    let late : HasCleanDisk (state g.S.Store c.drop-tx.new.self.0) = search rules in
    let early : HasCleanDisk (state g.S.Store c.move_points.new.tx.conn.now) = omega (arith, c.drop-tx.ensures.survives.clean) in
    let kept = c.in_err-move_points.ensures.moves.step early (rw begun refl) in
    search rules

pub returns-in_err-set_version-clause-none : goal.returns-in_err-set_version-clause-none
returns-in_err-set_version-clause-none g c clean is_open =
    let tx = state g.S.Store c.transaction-tx.result.conn.now in
    let first = state g.S.Store c.move_points.new.tx.conn.now in
    let mid = state g.S.Store c.set_version.new.tx.conn.now in
    let begun = c.transaction-tx.ensures.begun in
    let late : HasCleanDisk (state g.S.Store c.drop-tx-in_err-set_version.new.self.0) = search rules in
    let middle : HasCleanDisk mid = omega (arith, c.drop-tx-in_err-set_version.ensures.survives.clean) in
    let early : HasCleanDisk first = omega (arith, c.set_version.ensures.survives.clean) in
    let made = c.in_ok-move_points.ensures.moves.step early (rw begun refl) no_tables in
    let kept = then_kept tx first mid made.kept (c.in_err-set_version.ensures.step middle made.inside) in
    search rules

pub returns-in_err-commit-clause-none : goal.returns-in_err-commit-clause-none
returns-in_err-commit-clause-none g c clean is_open =
    let tx = state g.S.Store c.transaction-tx.result.conn.now in
    let first = state g.S.Store c.move_points.new.tx.conn.now in
    let mid = state g.S.Store c.set_version.new.tx.conn.now in
    let begun = c.transaction-tx.ensures.begun in
    let late : HasCleanDisk (state g.S.Store c.commit.new.self.0) = search rules in
    let middle : HasCleanDisk mid = omega (arith, c.commit.ensures.survives.clean) in
    let early : HasCleanDisk first = omega (arith, c.set_version.ensures.survives.clean) in
    let made = c.in_ok-move_points.ensures.moves.step early (rw begun refl) no_tables in
    let kept = then_kept tx first mid made.kept (c.in_ok-set_version.ensures.step middle made.inside).kept in
    search rules

pub returns-in_err-move_points-clause-open_before : goal.returns-in_err-move_points-clause-open_before
returns-in_err-move_points-clause-open_before g c clean is_open =
    let begun = c.transaction-tx.ensures.begun in
    let late : HasCleanDisk (state g.S.Store c.drop-tx.new.self.0) = search rules in
    let early : HasCleanDisk (state g.S.Store c.move_points.new.tx.conn.now) = omega (arith, c.drop-tx.ensures.survives.clean) in
    let kept = c.in_err-move_points.ensures.moves.step early (rw begun refl) in
    search rules

pub returns-in_err-set_version-clause-open_before : goal.returns-in_err-set_version-clause-open_before
returns-in_err-set_version-clause-open_before g c clean is_open =
    let tx = state g.S.Store c.transaction-tx.result.conn.now in
    let first = state g.S.Store c.move_points.new.tx.conn.now in
    let mid = state g.S.Store c.set_version.new.tx.conn.now in
    let begun = c.transaction-tx.ensures.begun in
    let late : HasCleanDisk (state g.S.Store c.drop-tx-in_err-set_version.new.self.0) = search rules in
    let middle : HasCleanDisk mid = omega (arith, c.drop-tx-in_err-set_version.ensures.survives.clean) in
    let early : HasCleanDisk first = omega (arith, c.set_version.ensures.survives.clean) in
    let made = c.in_ok-move_points.ensures.moves.step early (rw begun refl) no_tables in
    let kept = then_kept tx first mid made.kept (c.in_err-set_version.ensures.step middle made.inside) in
    search rules

pub returns-in_err-commit-clause-open_before : goal.returns-in_err-commit-clause-open_before
returns-in_err-commit-clause-open_before g c clean is_open =
    let tx = state g.S.Store c.transaction-tx.result.conn.now in
    let first = state g.S.Store c.move_points.new.tx.conn.now in
    let mid = state g.S.Store c.set_version.new.tx.conn.now in
    let begun = c.transaction-tx.ensures.begun in
    let late : HasCleanDisk (state g.S.Store c.commit.new.self.0) = search rules in
    let middle : HasCleanDisk mid = omega (arith, c.commit.ensures.survives.clean) in
    let early : HasCleanDisk first = omega (arith, c.set_version.ensures.survives.clean) in
    let made = c.in_ok-move_points.ensures.moves.step early (rw begun refl) no_tables in
    let kept = then_kept tx first mid made.kept (c.in_ok-set_version.ensures.step middle made.inside).kept in
    search rules

pub returns-clause-open_before : goal.returns-clause-open_before
returns-clause-open_before g c clean is_open = surely_open (returns-clause-was_open g c clean)

-- ---- with a point that does not read
pub returns-in_err-move_points-clause-cause : goal.returns-in_err-move_points-clause-cause
returns-in_err-move_points-clause-cause g c out clean t has unread =
    let old = c.args.conn.now in
    let mid = c.move_points.new.tx.conn.now in
    let end = c.drop-tx.new.self.0 in
    let begun = c.transaction-tx.ensures.begun in
    let late : HasCleanDisk (state g.S.Store end) = search rules in
    let early : HasCleanDisk (state g.S.Store mid) = omega (arith, c.drop-tx.ensures.survives.clean) in
    let failed = rw begun at (c.in_err-move_points.ensures.cause early (rw begun refl)) in
    let caused : SqlHasCause (state g.S.Store old) (state g.S.Store end) c.in_err-move_points.field-0.0 =
    cause_later _ (state g.S.Store mid) _ _ _ c.drop-tx.ensures.survives (begun_cause g.S.Store old (state g.S.Store mid) _ (failed t has unread)) in
    search rules

pub returns-in_err-set_version-clause-cause : goal.returns-in_err-set_version-clause-cause
returns-in_err-set_version-clause-cause g c out clean t has unread =
    let begun = c.transaction-tx.ensures.begun in
    let late : HasCleanDisk (state g.S.Store c.drop-tx-in_err-set_version.new.self.0) = search rules in
    let middle : HasCleanDisk (state g.S.Store c.set_version.new.tx.conn.now) = omega (arith, c.drop-tx-in_err-set_version.ensures.survives.clean) in
    let early : HasCleanDisk (state g.S.Store c.move_points.new.tx.conn.now) = omega (arith, c.set_version.ensures.survives.clean) in
    let read = rw begun at (c.in_ok-move_points.ensures.read early (rw begun refl)) in
    never_unread t (read t has) unread

pub returns-in_err-commit-clause-cause : goal.returns-in_err-commit-clause-cause
returns-in_err-commit-clause-cause g c out clean t has unread =
    let begun = c.transaction-tx.ensures.begun in
    let late : HasCleanDisk (state g.S.Store c.commit.new.self.0) = search rules in
    let middle : HasCleanDisk (state g.S.Store c.set_version.new.tx.conn.now) = omega (arith, c.commit.ensures.survives.clean) in
    let early : HasCleanDisk (state g.S.Store c.move_points.new.tx.conn.now) = omega (arith, c.set_version.ensures.survives.clean) in
    let read = rw begun at (c.in_ok-move_points.ensures.read early (rw begun refl)) in
    never_unread t (read t has) unread

-- ---- what is committed stays as it is
pub returns-in_err-move_points-clause-committed : goal.returns-in_err-move_points-clause-committed
returns-in_err-move_points-clause-committed g c clean is_open =
    let begun = c.transaction-tx.ensures.begun in
    let late : HasCleanDisk (state g.S.Store c.drop-tx.new.self.0) = search rules in
    let early : HasCleanDisk (state g.S.Store c.move_points.new.tx.conn.now) = omega (arith, c.drop-tx.ensures.survives.clean) in
    let kept = c.in_err-move_points.ensures.moves.step early (rw begun refl) in
    search rules

pub returns-in_err-set_version-clause-committed : goal.returns-in_err-set_version-clause-committed
returns-in_err-set_version-clause-committed g c clean is_open =
    let tx = state g.S.Store c.transaction-tx.result.conn.now in
    let first = state g.S.Store c.move_points.new.tx.conn.now in
    let mid = state g.S.Store c.set_version.new.tx.conn.now in
    let begun = c.transaction-tx.ensures.begun in
    let late : HasCleanDisk (state g.S.Store c.drop-tx-in_err-set_version.new.self.0) = search rules in
    let middle : HasCleanDisk mid = omega (arith, c.drop-tx-in_err-set_version.ensures.survives.clean) in
    let early : HasCleanDisk first = omega (arith, c.set_version.ensures.survives.clean) in
    let made = c.in_ok-move_points.ensures.moves.step early (rw begun refl) no_tables in
    let kept = then_kept tx first mid made.kept (c.in_err-set_version.ensures.step middle made.inside) in
    search rules

pub returns-in_err-commit-clause-committed : goal.returns-in_err-commit-clause-committed
returns-in_err-commit-clause-committed g c clean is_open =
    let tx = state g.S.Store c.transaction-tx.result.conn.now in
    let first = state g.S.Store c.move_points.new.tx.conn.now in
    let mid = state g.S.Store c.set_version.new.tx.conn.now in
    let begun = c.transaction-tx.ensures.begun in
    let late : HasCleanDisk (state g.S.Store c.commit.new.self.0) = search rules in
    let middle : HasCleanDisk mid = omega (arith, c.commit.ensures.survives.clean) in
    let early : HasCleanDisk first = omega (arith, c.set_version.ensures.survives.clean) in
    let made = c.in_ok-move_points.ensures.moves.step early (rw begun refl) no_tables in
    let kept = then_kept tx first mid made.kept (c.in_ok-set_version.ensures.step middle made.inside).kept in
    search rules
