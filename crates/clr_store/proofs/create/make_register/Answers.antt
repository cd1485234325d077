use Rattle.std.proofs.Common.{◌≡◌, true, arith, rules, refl, sym, subst}
use Rattle.sqlite.specs.Effect.{Database}
use Rattle.sqlite.specs.Held.{state}
use Rattle.sqlite.specs.State.{HasCleanDisk, Survives}
use Rattle.sqlite.specs.Tree.{Trees}
use Rattle.sqlite.proofs.StateLemmas.{survives_then}
use Rattle.clr_rules.specs.Register.{opening}
use Rattle.clr_load.specs.Tables.{tables_of}
use Rattle.clr_load.specs.Schema.{no_schema}
use Rattle.clr_load.specs.Stored.{AreTables, HasTables}
use Rattle.clr_load.proofs.Reopened.{left_of}
use Rattle.clr_store.proofs.Creating.{whole}
use Rattle.clr_store.proofs.Inside.{crash_leaves}
use Rattle.clr_load.proofs.Causes.{told_of_database}
use Rattle.clr_store.proofs.create.make_register.Goals as goal

pub returns-clause-made : goal.returns-clause-made
returns-clause-made g c clean =
    let old = c.args.conn.now in
    let first = c.make_tables.new.tx.conn.now in
    let mid = c.fill.new.tx.conn.now in
    let end = c.commit.new.self.0 in
    let begun = c.transaction-tx.ensures.begun in
    let bare : old.schema ≡ no_schema = search rules in
    let opens = tables_of (opening c.args.network.now c.args.staff.now) in
    let ran : HasCleanDisk (state g.S.Store mid) → HasTables (state g.S.Store mid).now opens = λ clean.
    let early : HasCleanDisk (state g.S.Store first) = omega (arith, c.fill.ensures.survives.clean) in
    let one = rw begun at (c.in_ok-make_tables.ensures.step early (rw begun refl)) in
    let two = rw (c.sections-sections.ensures.rows, c.points.ensures.rows, c.rows-employees.ensures.rows) at (c.in_ok-fill.ensures.step clean one.inside) in
    whole (state g.S.Store (record old { in_transaction = true })) (state g.S.Store first) (state g.S.Store mid) c.args.network.now c.args.staff.now
    c.sections-sections.ensures.network c.rows-employees.ensures.staff bare one two in
    let same : end ≡ c.conn-2-1.given.0 = search rules in
    let late : HasCleanDisk (state g.S.Store end) = search rules in
    subst (λ h. HasTables (state g.S.Store h).now opens) same
    (subst (λ (d : Database). HasTables d opens) (sym (c.in_ok-commit.ensures.ok late).1.now_is) (ran (omega (arith, c.commit.ensures.survives.clean))))

pub returns-clause-crash : goal.returns-clause-crash
returns-clause-crash g c =
    let old = c.args.conn.now in
    let first = c.make_tables.new.tx.conn.now in
    let mid = c.fill.new.tx.conn.now in
    let end = c.commit.new.self.0 in
    let begun = c.transaction-tx.ensures.begun in
    let bare : old.schema ≡ no_schema = search rules in
    let opens = tables_of (opening c.args.network.now c.args.staff.now) in
    let ran : HasCleanDisk (state g.S.Store mid) → HasTables (state g.S.Store mid).now opens = λ clean.
    let early : HasCleanDisk (state g.S.Store first) = omega (arith, c.fill.ensures.survives.clean) in
    let one = rw begun at (c.in_ok-make_tables.ensures.step early (rw begun refl)) in
    let two = rw (c.sections-sections.ensures.rows, c.points.ensures.rows, c.rows-employees.ensures.rows) at (c.in_ok-fill.ensures.step clean one.inside) in
    whole (state g.S.Store (record old { in_transaction = true })) (state g.S.Store first) (state g.S.Store mid) c.args.network.now c.args.staff.now
    c.sections-sections.ensures.network c.rows-employees.ensures.staff bare one two in
    let same : end ≡ c.conn-2-1.given.0 = search rules in
    let inside = survives_then (state g.S.Store (record old { in_transaction = true })) (state g.S.Store first) (state g.S.Store mid) (λ _. ⊥) (λ _. ⊥) (λ _. ⊥) (λ _ _ none. none) (λ _ _ none. none)
    (rw begun at c.make_tables.ensures.survives) c.fill.ensures.survives in
    let P = λ (trees : Trees). AreTables trees opens in
    subst (λ h. Survives (state g.S.Store old) (state g.S.Store h) P) same
    (crash_leaves g.S.Store old mid end P inside c.commit.ensures.survives (λ clean. left_of (state g.S.Store mid).now opens (ran clean)))

pub returns-in_err-commit-clause-crash : goal.returns-in_err-commit-clause-crash
returns-in_err-commit-clause-crash g c =
    let old = c.args.conn.now in
    let first = c.make_tables.new.tx.conn.now in
    let mid = c.fill.new.tx.conn.now in
    let end = c.commit.new.self.0 in
    let begun = c.transaction-tx.ensures.begun in
    let bare : old.schema ≡ no_schema = search rules in
    let opens = tables_of (opening c.args.network.now c.args.staff.now) in
    let ran : HasCleanDisk (state g.S.Store mid) → HasTables (state g.S.Store mid).now opens = λ clean.
    let early : HasCleanDisk (state g.S.Store first) = omega (arith, c.fill.ensures.survives.clean) in
    let one = rw begun at (c.in_ok-make_tables.ensures.step early (rw begun refl)) in
    let two = rw (c.sections-sections.ensures.rows, c.points.ensures.rows, c.rows-employees.ensures.rows) at (c.in_ok-fill.ensures.step clean one.inside) in
    whole (state g.S.Store (record old { in_transaction = true })) (state g.S.Store first) (state g.S.Store mid) c.args.network.now c.args.staff.now
    c.sections-sections.ensures.network c.rows-employees.ensures.staff bare one two in
    let same : end ≡ c.conn-2-1.given.0 = search rules in
    let inside = survives_then (state g.S.Store (record old { in_transaction = true })) (state g.S.Store first) (state g.S.Store mid) (λ _. ⊥) (λ _. ⊥) (λ _. ⊥) (λ _ _ none. none) (λ _ _ none. none)
    (rw begun at c.make_tables.ensures.survives) c.fill.ensures.survives in
    let P = λ (trees : Trees). AreTables trees opens in
    subst (λ h. Survives (state g.S.Store old) (state g.S.Store h) P) same
    (crash_leaves g.S.Store old mid end P inside c.commit.ensures.survives (λ clean. left_of (state g.S.Store mid).now opens (ran clean)))

pub returns-in_err-commit-clause-fault : goal.returns-in_err-commit-clause-fault
returns-in_err-commit-clause-fault g c =
    let told = told_of_database c.in_err-commit.field-0.0 in
    search rules
