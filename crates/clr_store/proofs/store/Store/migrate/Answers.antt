use Rattle.std.proofs.Common.{◌≡◌, ◌∙◌, IsTrue, Ok, ap, arith, inl, inr, pos, rules, subst, sym}
use Rattle.sqlite.specs.Effect.{Database}
use Rattle.sqlite.specs.Held.{state}
use Rattle.sqlite.specs.State.{HasCleanDisk}
use Rattle.sqlite.proofs.StateLemmas.{survives_weaker}
use Rattle.clr_load.proofs.Moved.{tables_are_moved}
use Rattle.clr_load.specs.RowsRead.{read_version}
use Rattle.clr_load.specs.Tables.{tables_by, version_one}
use Rattle.clr_load.specs.declared.layout.Layout.TheVariants.{OfOne}
use Rattle.clr_load.specs.Stored.{HasOldTables, HasTables}
use Rattle.clr_load.proofs.Loading.{has_meta}
use Rattle.clr_store.proofs.Moving.{leaves_moved, opened_cause, surely_open}
use Rattle.clr_store.proofs.There.{version_there}
use Rattle.clr_store.proofs.Versions.{expected_moves, move_unread, never_inside, old_failed, outside, points_move, points_unread, one_has, old_stopped, old_unread, one_is_told, points_not_other}
use Rattle.clr_store.proofs.store.Store.migrate.Given.{Over}
use Rattle.clr_store.proofs.store.Store.migrate.Goals as goal

-- the version that was read
moved_one : (g : Over) (c : goal.In-Ok-move_tables g) → c.in-Ok.version ≡ pos 1
moved_one g c = search rules

stopped_one : (g : Over) (c : goal.In-Err-move_tables g) → c.in-Ok.version ≡ pos 1
stopped_one g c = search rules

is_two : (g : Over) (c : goal.In-2 g) → c.in-Ok.version ≡ pos 2
is_two g c = search rules

pub returns-in-Err-clause-cause : goal.returns-in-Err-clause-cause
returns-in-Err-clause-cause g c clean out meta has differs = c.in-Err.ensures.cause out clean meta has

pub returns-in-Err-clause-points_cause : goal.returns-in-Err-clause-points_cause
returns-in-Err-clause-points_cause g c clean out t has unread = c.in-Err.ensures.cause out clean t.meta (has_meta OfOne _ t has)

pub returns-in-Err-move_tables-clause-points_cause : goal.returns-in-Err-move_tables-clause-points_cause
returns-in-Err-move_tables-clause-points_cause g c clean out t has unread =
    let old = state g.S.Store c.args.connection in
    let read = state g.S.Store c.expect_version.new.conn in
    let early : HasCleanDisk read = omega (arith, c.move_tables.ensures.crash.clean) in
    opened_cause old read (state g.S.Store c.move_tables.new.conn) c.in-Err-move_tables.fault c.expect_version.ensures.survives c.move_tables.ensures.crash clean (λ still.
    c.in-Err-move_tables.ensures.cause (c.expect_version.ensures.mode out) clean t (subst (λ (d : Database). HasOldTables d t) (sym (c.in-Ok.ensures.same early still)) has) unread)

pub returns-in-Err-clause-unread : goal.returns-in-Err-clause-unread
returns-in-Err-clause-unread g c clean meta has = move_unread (read_version meta) c.in-Err.fault c.in-Err.ensures.fault (c.in-Err.ensures.version clean meta has)

pub returns-in-Err-clause-refused : goal.returns-in-Err-clause-refused
returns-in-Err-clause-refused g c clean t has = old_unread t c.in-Err.fault c.in-Err.ensures.fault (λ is told. c.in-Err.ensures.other clean is 1 (one_has _ t has told)) (c.in-Err.ensures.version clean t.meta (has_meta OfOne _ t has))

pub returns-in-Ok-move_tables-clause-moved : goal.returns-in-Ok-move_tables-clause-moved
returns-in-Ok-move_tables-clause-moved g c clean t has one =
    let read = state g.S.Store c.expect_version.new.conn in
    let early : HasCleanDisk read = omega (arith, c.move_tables.ensures.crash.clean) in
    let here : IsTrue read.is_open = surely_open (c.in-Ok-move_tables.ensures.was_open clean) in
    let same = c.in-Ok.ensures.same early here in
    let moved = c.in-Ok-move_tables.ensures.moved clean t (subst (λ (d : Database). HasOldTables d t) (sym same) has) in
    (moved.0, c.in-Ok-move_tables.ensures.saved clean, moved.1)

pub returns-in-Ok-move_tables-clause-register : goal.returns-in-Ok-move_tables-clause-register
returns-in-Ok-move_tables-clause-register g c clean R none has =
    let read = state g.S.Store c.expect_version.new.conn in
    let old = tables_by version_one R in
    let early : HasCleanDisk read = omega (arith, c.move_tables.ensures.crash.clean) in
    let here : IsTrue read.is_open = surely_open (c.in-Ok-move_tables.ensures.was_open clean) in
    let same = c.in-Ok.ensures.same early here in
    let moved = c.in-Ok-move_tables.ensures.moved clean old (subst (λ (d : Database). HasOldTables d old) (sym same) has) in
    subst (HasTables (state g.S.Store c.move_tables.new.conn).now) (tables_are_moved R none) moved.1

pub returns-in-Ok-move_tables-clause-crash_moved : goal.returns-in-Ok-move_tables-clause-crash_moved
returns-in-Ok-move_tables-clause-crash_moved g c =
    leaves_moved (state g.S.Store c.args.connection) (state g.S.Store c.expect_version.new.conn) (state g.S.Store c.move_tables.new.conn) c.expect_version.ensures.survives c.move_tables.ensures.crash
    c.in-Ok.ensures.same (λ early meta has.
    c.in-Ok.ensures.version early meta has ∙ ap Ok (moved_one g c))

pub returns-in-Err-move_tables-clause-crash_none : goal.returns-in-Err-move_tables-clause-crash_none
returns-in-Err-move_tables-clause-crash_none g c =
    leaves_moved (state g.S.Store c.args.connection) (state g.S.Store c.expect_version.new.conn) (state g.S.Store c.move_tables.new.conn) c.expect_version.ensures.survives c.move_tables.ensures.crash
    c.in-Ok.ensures.same (λ early meta has.
    c.in-Ok.ensures.version early meta has ∙ ap Ok (stopped_one g c))

pub returns-in-Err-move_tables-clause-none : goal.returns-in-Err-move_tables-clause-none
returns-in-Err-move_tables-clause-none g c clean is_open =
    let early : HasCleanDisk (state g.S.Store c.expect_version.new.conn) = omega (arith, c.move_tables.ensures.crash.clean) in
    c.in-Err-move_tables.ensures.none clean is_open ∙ c.in-Ok.ensures.same early (c.in-Err-move_tables.ensures.open_before clean is_open)

pub returns-in-Err-move_tables-clause-refused : goal.returns-in-Err-move_tables-clause-refused
returns-in-Err-move_tables-clause-refused g c clean t has =
    let read = state g.S.Store c.expect_version.new.conn in
    let fault = c.in-Err-move_tables.fault in
    let early : HasCleanDisk read = omega (arith, c.move_tables.ensures.crash.clean) in
    let one = c.in-Ok.ensures.version early t.meta (has_meta OfOne _ t has) ∙ ap Ok (stopped_one g c) in
    elim (c.in-Err-move_tables.ensures.was_open clean) [
      | inl here ↦ old_stopped t fault c.in-Err-move_tables.ensures.fault one
          (c.in-Err-move_tables.ensures.refused clean t (subst (λ (d : Database). HasOldTables d t) (sym (c.in-Ok.ensures.same early here)) has))
      | inr failed ↦ old_failed t fault failed
    ]

pub returns-in-2-clause-moved : goal.returns-in-2-clause-moved
returns-in-2-clause-moved g c clean t has one =
    let told = c.in-Ok.ensures.version clean t.meta (has_meta OfOne _ t has) in
    absurd (let e = sym one ∙ told ∙ ap Ok (is_two g c) in cc)

pub returns-in-2-clause-register : goal.returns-in-2-clause-register
returns-in-2-clause-register g c clean R none has =
    let told = c.in-Ok.ensures.version clean (tables_by version_one R).meta (has_meta OfOne _ (tables_by version_one R) has) in
    absurd (let e = sym one_is_told ∙ told ∙ ap Ok (is_two g c) in cc)

pub returns-in_default-clause-refused : goal.returns-in_default-clause-refused
returns-in_default-clause-refused g c clean t has =
    let told = c.in-Ok.ensures.version clean t.meta (has_meta OfOne _ t has) in
    search rules

pub returns-in-Ok-move_tables-clause-laid_out : goal.returns-in-Ok-move_tables-clause-laid_out
returns-in-Ok-move_tables-clause-laid_out g c clean =
    let early : HasCleanDisk (state g.S.Store c.expect_version.new.conn) = omega (arith, c.move_tables.ensures.crash.clean) in
    inl (c.in-Ok.ensures.laid_out early 1 (moved_one g c) (omega arith) (omega arith) (omega arith))

pub returns-in-2-clause-laid_out : goal.returns-in-2-clause-laid_out
returns-in-2-clause-laid_out g c clean = inr (c.in-Ok.ensures.laid_out clean 2 (is_two g c) (omega arith) (omega arith) (omega arith))

pub returns-in-Err-clause-other : goal.returns-in-Err-clause-other
returns-in-Err-clause-other g c clean is n has = c.in-Err.ensures.other clean is n has

pub returns-in-Err-move_tables-clause-other : goal.returns-in-Err-move_tables-clause-other
returns-in-Err-move_tables-clause-other g c clean is n has = points_not_other c.in-Err-move_tables.fault c.in-Err-move_tables.ensures.fault is

pub returns-in-Err-move_tables-clause-committed : goal.returns-in-Err-move_tables-clause-committed
returns-in-Err-move_tables-clause-committed g c clean is_open =
    let early : HasCleanDisk (state g.S.Store c.expect_version.new.conn) = omega (arith, c.move_tables.ensures.crash.clean) in
    c.in-Err-move_tables.ensures.committed clean is_open ∙ c.in-Ok.ensures.committed early (c.in-Err-move_tables.ensures.open_before clean is_open)

pub returns-in-Ok-move_tables-clause-alone : goal.returns-in-Ok-move_tables-clause-alone
returns-in-Ok-move_tables-clause-alone g c clean meta has =
    let early : HasCleanDisk (state g.S.Store c.expect_version.new.conn) = omega (arith, c.move_tables.ensures.crash.clean) in
    c.in-Ok.ensures.alone early 1 (moved_one g c) (omega arith) (omega arith) (omega arith) meta has

pub returns-in-2-clause-alone : goal.returns-in-2-clause-alone
returns-in-2-clause-alone g c clean meta has = c.in-Ok.ensures.alone clean 2 (is_two g c) (omega arith) (omega arith) (omega arith) meta has

-- ---- there is the version
pub returns-in-Ok-move_tables-clause-there : goal.returns-in-Ok-move_tables-clause-there
returns-in-Ok-move_tables-clause-there g c clean whole =
    let early : HasCleanDisk (state g.S.Store c.expect_version.new.conn) = omega (arith, c.move_tables.ensures.crash.clean) in
    let is_open = c.in-Ok.ensures.was_open early in
    let laid = c.in-Ok.ensures.laid_out early 1 (moved_one g c) (omega arith) (omega arith) (omega arith) in
    inl (version_there 1 (state g.S.Store c.args.connection).now laid (c.expect_version.ensures.live is_open).0 whole (λ meta has.
    (c.in-Ok.ensures.alone early 1 (moved_one g c) (omega arith) (omega arith) (omega arith) meta has, c.in-Ok.ensures.version early meta has ∙ ap Ok (moved_one g c))))

pub returns-in-2-clause-there : goal.returns-in-2-clause-there
returns-in-2-clause-there g c clean whole =
    let is_open = c.in-Ok.ensures.was_open clean in
    let laid = c.in-Ok.ensures.laid_out clean 2 (is_two g c) (omega arith) (omega arith) (omega arith) in
    inr (version_there 2 (state g.S.Store c.args.connection).now laid (c.expect_version.ensures.live is_open).0 whole (λ meta has.
    (c.in-Ok.ensures.alone clean 2 (is_two g c) (omega arith) (omega arith) (omega arith) meta has, c.in-Ok.ensures.version clean meta has ∙ ap Ok (is_two g c))))

pub returns-in-Ok-move_tables-clause-was_open : goal.returns-in-Ok-move_tables-clause-was_open
returns-in-Ok-move_tables-clause-was_open g c clean =
    let early : HasCleanDisk (state g.S.Store c.expect_version.new.conn) = omega (arith, c.move_tables.ensures.crash.clean) in
    c.in-Ok.ensures.was_open early

-- ---- the rest of each clause
pub returns-in-Err-clause-inside : goal.returns-in-Err-clause-inside
returns-in-Err-clause-inside g c inside = absurd (never_inside _ c.if-not-is_autocommit.ensures.value inside)

pub returns-in-Err-clause-mode : goal.returns-in-Err-clause-mode
returns-in-Err-clause-mode g c = c.expect_version.ensures.mode (outside _ c.if-not-is_autocommit.ensures.value) ∙ sym (outside _ c.if-not-is_autocommit.ensures.value)

pub returns-in-Err-clause-bare : goal.returns-in-Err-clause-bare
returns-in-Err-clause-bare g c lacks = let e = c.in-Err.ensures.bare lacks in cc

pub returns-in-Ok-move_tables-clause-inside : goal.returns-in-Ok-move_tables-clause-inside
returns-in-Ok-move_tables-clause-inside g c inside = absurd (never_inside _ c.if-not-is_autocommit.ensures.value inside)

pub returns-in-Ok-move_tables-clause-mode : goal.returns-in-Ok-move_tables-clause-mode
returns-in-Ok-move_tables-clause-mode g c = c.move_tables.ensures.mode (c.expect_version.ensures.mode (outside _ c.if-not-is_autocommit.ensures.value)) ∙ sym (outside _ c.if-not-is_autocommit.ensures.value)

pub returns-in-Ok-move_tables-clause-bare : goal.returns-in-Ok-move_tables-clause-bare
returns-in-Ok-move_tables-clause-bare g c lacks = absurd (let e = c.in-Ok.ensures.bare lacks in cc)

pub returns-in-Err-move_tables-clause-inside : goal.returns-in-Err-move_tables-clause-inside
returns-in-Err-move_tables-clause-inside g c inside = absurd (never_inside _ c.if-not-is_autocommit.ensures.value inside)

pub returns-in-Err-move_tables-clause-mode : goal.returns-in-Err-move_tables-clause-mode
returns-in-Err-move_tables-clause-mode g c = c.move_tables.ensures.mode (c.expect_version.ensures.mode (outside _ c.if-not-is_autocommit.ensures.value)) ∙ sym (outside _ c.if-not-is_autocommit.ensures.value)

pub returns-in-Err-move_tables-clause-bare : goal.returns-in-Err-move_tables-clause-bare
returns-in-Err-move_tables-clause-bare g c lacks = absurd (let e = c.in-Ok.ensures.bare lacks in cc)

pub returns-in-2-clause-inside : goal.returns-in-2-clause-inside
returns-in-2-clause-inside g c inside = absurd (never_inside _ c.if-not-is_autocommit.ensures.value inside)

pub returns-in-2-clause-mode : goal.returns-in-2-clause-mode
returns-in-2-clause-mode g c = c.expect_version.ensures.mode (outside _ c.if-not-is_autocommit.ensures.value) ∙ sym (outside _ c.if-not-is_autocommit.ensures.value)

pub returns-in-2-clause-bare : goal.returns-in-2-clause-bare
returns-in-2-clause-bare g c lacks = absurd (let e = c.in-Ok.ensures.bare lacks in cc)

pub returns-in_default-clause-inside : goal.returns-in_default-clause-inside
returns-in_default-clause-inside g c inside = absurd (never_inside _ c.if-not-is_autocommit.ensures.value inside)

pub returns-in_default-clause-mode : goal.returns-in_default-clause-mode
returns-in_default-clause-mode g c = c.expect_version.ensures.mode (outside _ c.if-not-is_autocommit.ensures.value) ∙ sym (outside _ c.if-not-is_autocommit.ensures.value)

pub returns-in_default-clause-bare : goal.returns-in_default-clause-bare
returns-in_default-clause-bare g c lacks = absurd (let e = c.in-Ok.ensures.bare lacks in cc)

pub returns-in-Err-clause-fault : goal.returns-in-Err-clause-fault
returns-in-Err-clause-fault g c = expected_moves c.in-Err.fault c.in-Err.ensures.fault

pub returns-in-Err-clause-none : goal.returns-in-Err-clause-none
returns-in-Err-clause-none g c = c.expect_version.ensures.same

pub returns-in-Err-clause-committed : goal.returns-in-Err-clause-committed
returns-in-Err-clause-committed g c = c.expect_version.ensures.committed

pub returns-in-Err-clause-crash_none : goal.returns-in-Err-clause-crash_none
returns-in-Err-clause-crash_none g c = survives_weaker _ _ _ _ (λ _ _ none. absurd none) c.expect_version.ensures.survives

pub returns-in_default-clause-none : goal.returns-in_default-clause-none
returns-in_default-clause-none g c = c.expect_version.ensures.same

pub returns-in_default-clause-committed : goal.returns-in_default-clause-committed
returns-in_default-clause-committed g c = c.expect_version.ensures.committed

pub returns-in_default-clause-crash_none : goal.returns-in_default-clause-crash_none
returns-in_default-clause-crash_none g c = survives_weaker _ _ _ _ (λ _ _ none. absurd none) c.expect_version.ensures.survives

pub returns-in-Ok-move_tables-clause-opened : goal.returns-in-Ok-move_tables-clause-opened
returns-in-Ok-move_tables-clause-opened g c clean is_open meta has two =
    let early : HasCleanDisk (state g.S.Store c.expect_version.new.conn) = omega (arith, c.move_tables.ensures.crash.clean) in
    let one = c.in-Ok.ensures.version early meta has ∙ ap Ok (moved_one g c) in
    absurd (let e = sym one ∙ two in cc)

pub returns-in-Ok-move_tables-clause-kept : goal.returns-in-Ok-move_tables-clause-kept
returns-in-Ok-move_tables-clause-kept g c clean is_open meta has two =
    let early : HasCleanDisk (state g.S.Store c.expect_version.new.conn) = omega (arith, c.move_tables.ensures.crash.clean) in
    let one = c.in-Ok.ensures.version early meta has ∙ ap Ok (moved_one g c) in
    absurd (let e = sym one ∙ two in cc)

pub returns-in-Ok-move_tables-clause-version : goal.returns-in-Ok-move_tables-clause-version
returns-in-Ok-move_tables-clause-version g c clean meta has =
    let early : HasCleanDisk (state g.S.Store c.expect_version.new.conn) = omega (arith, c.move_tables.ensures.crash.clean) in
    inl (c.in-Ok.ensures.version early meta has ∙ ap Ok (moved_one g c))

pub returns-in-Err-move_tables-clause-fault : goal.returns-in-Err-move_tables-clause-fault
returns-in-Err-move_tables-clause-fault g c = points_move c.in-Err-move_tables.fault c.in-Err-move_tables.ensures.fault

pub returns-in-Err-move_tables-clause-cause : goal.returns-in-Err-move_tables-clause-cause
returns-in-Err-move_tables-clause-cause g c clean out meta has differs =
    let early : HasCleanDisk (state g.S.Store c.expect_version.new.conn) = omega (arith, c.move_tables.ensures.crash.clean) in
    absurd (differs (c.in-Ok.ensures.version early meta has ∙ ap Ok (stopped_one g c)))

pub returns-in-Err-move_tables-clause-unread : goal.returns-in-Err-move_tables-clause-unread
returns-in-Err-move_tables-clause-unread g c clean meta has =
    let early : HasCleanDisk (state g.S.Store c.expect_version.new.conn) = omega (arith, c.move_tables.ensures.crash.clean) in
    points_unread (read_version meta) c.in-Err-move_tables.fault c.in-Err-move_tables.ensures.fault (c.in-Ok.ensures.version early meta has ∙ ap Ok (stopped_one g c))

pub returns-in-2-clause-opened : goal.returns-in-2-clause-opened
returns-in-2-clause-opened g c clean is_open meta has two = c.expect_version.ensures.same clean is_open

pub returns-in-2-clause-kept : goal.returns-in-2-clause-kept
returns-in-2-clause-kept g c clean is_open meta has two = c.expect_version.ensures.committed clean is_open

pub returns-in-2-clause-version : goal.returns-in-2-clause-version
returns-in-2-clause-version g c clean meta has = inr (c.in-Ok.ensures.version clean meta has ∙ ap Ok (is_two g c))

pub returns-in-2-clause-was_open : goal.returns-in-2-clause-was_open
returns-in-2-clause-was_open g c = c.in-Ok.ensures.was_open

pub returns-in-2-clause-crash_moved : goal.returns-in-2-clause-crash_moved
returns-in-2-clause-crash_moved g c = survives_weaker _ _ _ _ (λ _ _ none. absurd none) c.expect_version.ensures.survives

pub returns-in_default-clause-other : goal.returns-in_default-clause-other
returns-in_default-clause-other g c clean is n has = absurd (let e = is in cc)

pub returns-in_default-clause-cause : goal.returns-in_default-clause-cause
returns-in_default-clause-cause g c clean out meta has differs = tt

pub returns-in_default-clause-points_cause : goal.returns-in_default-clause-points_cause
returns-in_default-clause-points_cause g c clean out t has unread = tt

pub returns-in_default-clause-unread : goal.returns-in_default-clause-unread
returns-in_default-clause-unread g c clean meta has =
    let told = c.in-Ok.ensures.version clean meta has in
    search rules
