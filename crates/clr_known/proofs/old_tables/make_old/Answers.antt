use Rattle.std.proofs.Common.{◌≡◌, true, arith, refl, rules, sym, subst}
use Rattle.sqlite.specs.Effect.{Database}
use Rattle.sqlite.specs.Held.{state}
use Rattle.sqlite.specs.State.{HasCleanDisk}
use Rattle.clr_load.specs.Schema.{no_schema}
use Rattle.clr_known.specs.OldTables.{HasOldJones}
use Rattle.clr_known.proofs.OldTables.{made_whole}
use Rattle.clr_known.proofs.old_tables.make_old.Goals as goal

pub returns-clause-made : goal.returns-clause-made
returns-clause-made g c clean =
    let old = c.args.conn.now in
    let first = c.make_tables.new.tx.conn.now in
    let mid = c.fill.new.tx.conn.now in
    let end = c.commit.new.self.0 in
    let begun = c.transaction-tx.ensures.begun in
    let bare : old.schema ≡ no_schema = search rules in
    let ran : HasCleanDisk (state g.S.Store mid) → HasOldJones (state g.S.Store mid).now = λ clean.
    let early : HasCleanDisk (state g.S.Store first) = omega (arith, c.fill.ensures.survives.clean) in
    let one = rw begun at (c.in_ok-make_tables.ensures.step early (rw begun refl)) in
    let two = c.in_ok-fill.ensures.step clean one.inside in
    made_whole (state g.S.Store (record old { in_transaction = true })) (state g.S.Store first) (state g.S.Store mid) bare one two in
    let same : end ≡ c.conn-2-1.given.0 = search rules in
    let late : HasCleanDisk (state g.S.Store end) = search rules in
    subst (λ h. HasOldJones (state g.S.Store h).now) same
    (subst (λ (d : Database). HasOldJones d) (sym (c.in_ok-commit.ensures.ok late).1.now_is) (ran (omega (arith, c.commit.ensures.survives.clean))))
