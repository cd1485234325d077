use Rattle.std.proofs.Common.{◌≡◌, option_copied, refl, rules}
use Rattle.clr_store.specs.Change.{CanSet}
use Rattle.clr_store.specs.StepsTaken.{without_steps}
use Rattle.clr_store.proofs.TakenSteps.{steps_land}
use Rattle.clr_store.proofs.Turned.{can_fit, transacts_with}
use Rattle.clr_store.proofs.steps.take_steps.Goals as goal

pub take_all-done-requires : goal.take_all-done-requires
take_all-done-requires g c =
    let can : CanSet c.args.conn.now.schema (option_copied c.args.place) = search rules in
    can_fit c.args.conn.now.schema (option_copied c.args.place) can

pub returns-clause-transacts : goal.returns-clause-transacts
returns-clause-transacts g c =
    let old = c.args.conn.now in
    let place = option_copied c.args.place in
    let turned = without_steps c.args.keys.now in
    let can : CanSet old.schema place = search rules in
    let same : c.conclude-ended.new.tx.0 ≡ c.conn-1.given.0 = search rules in
    c.settle.ensures.settles old _
    (transacts_with turned turned (steps_land c.args.keys.now) g.S.Store old c.transaction-tx.result c.take_all-done.new.tx c.conclude-ended.new.tx.0 c.conn-1.given.0 place
    c.take_all-done.result c.conclude-ended.result c.transaction-tx.ensures.begun (c.if-not-is_autocommit.ensures.settled refl) c.take_all-done.ensures can same c.conclude-ended.ensures)
