use Rattle.std.proofs.Common.{◌≡◌, List, option_copied, refl, rules, subst}
use Rattle.sqlite.specs.Held.{state}
use Rattle.clr_rules.specs.declared.change.Edit.{Edit}
use Rattle.clr_load.specs.TableEdits.{tables_edited}
use Rattle.clr_store.specs.Change.{CanSet}
use Rattle.clr_store.specs.Transaction.{FailsAs, PlacesAs, Transacts}
use Rattle.clr_store.proofs.Turned.{can_fit, edits_land, transacts_with}
use Rattle.clr_store.proofs.store.commit_change.Goals as goal

pub make_with-done-requires : goal.make_with-done-requires
make_with-done-requires g c =
    let can : CanSet c.args.conn.now.schema (option_copied c.args.place) = search rules in
    can_fit c.args.conn.now.schema (option_copied c.args.place) can

pub returns-clause-transacts : goal.returns-clause-transacts
returns-clause-transacts g c =
    let old = c.args.conn.now in
    let place = option_copied c.args.place in
    let edits = c.as_slice.result.now in
    let can : CanSet old.schema place = search rules in
    let same : c.conclude-ended.new.tx.0 ≡ c.conn-1.given.0 = search rules in
    subst (λ (edits : List Edit). Transacts (PlacesAs place) (FailsAs place) (state g.S.Store old) (state g.S.Store c.settle.new.conn) (tables_edited edits) c.settle.result) c.as_slice.ensures.value
    (c.settle.ensures.settles old _
    (transacts_with (tables_edited edits) (tables_edited edits) (edits_land edits) g.S.Store old c.transaction-tx.result c.make_with-done.new.tx c.conclude-ended.new.tx.0 c.conn-1.given.0 place
    c.make_with-done.result c.conclude-ended.result c.transaction-tx.ensures.begun (c.if-not-is_autocommit.ensures.settled refl) c.make_with-done.ensures can same c.conclude-ended.ensures))
