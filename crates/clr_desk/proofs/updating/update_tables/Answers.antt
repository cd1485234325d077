use Rattle.std.proofs.Common.{◌≡◌, ◌∙◌, Err, List, ap, rules, subst, sym}
use Rattle.clr_changes.specs.Outcome.{IsOutcome}
use Rattle.clr_changes.specs.Report.{IsReport}
use Rattle.clr_changes.specs.Shown.{as_update}
use Rattle.clr_changes.specs.declared.outcome.Outcome.{Outcome}
use Rattle.clr_changes.specs.declared.report.Report.TheVariants.{Changes}
use Rattle.clr_net.specs.Grid.{Grid}
use Rattle.clr_rules.specs.declared.point_state.PointState.{PointState}
use Rattle.clr_load.specs.Tables.{tables_of}
use Rattle.clr_store.specs.Renewed.{AreStatesOf, tables_renewed}
use Rattle.clr_update.specs.Update.{updated}
use Rattle.clr_desk.specs.Faults.{of_store}
use Rattle.clr_desk.proofs.Updated.{fails_to_update, obstructs, states_given, tables_after, updates}
use Rattle.clr_desk.proofs.updating.update_tables.Goals as goal

pub update-requires : goal.update-requires
update-requires g c =
    let R = c.args.book.now.register in
    let u = as_update c.args.update in
    let after = c.in-Accepted.after in
    let is = subst (λ (o : Outcome). IsOutcome R u o) c.in-Accepted.is c.in_ok-outcome.ensures in
    subst (λ (states : List PointState). AreStatesOf (Grid.points after.network) states) (sym c.deref.ensures.value)
    (states_given R u after c.is_read.ensures is.0 is.1)

-- something is in the way
pub returns-in-InTheWay : goal.returns-in-InTheWay
returns-in-InTheWay g c =
    obstructs g.S.Store c.args.book.now.register (as_update c.args.update) c.args.store.now c.in-InTheWay.obstacle
    (subst (λ (o : Outcome). IsOutcome c.args.book.now.register (as_update c.args.update) o) c.in-InTheWay.is c.in_ok-outcome.ensures)

-- nothing is
pub returns-in_ok-update-in-Accepted : goal.returns-in_ok-update-in-Accepted
returns-in_ok-update-in-Accepted g c =
    let R = c.args.book.now.register in
    let u = as_update c.args.update in
    let after = c.in-Accepted.after in
    let is = subst (λ (o : Outcome). IsOutcome R u o) c.in-Accepted.is c.in_ok-outcome.ensures in
    let turned = tables_renewed after.network after.staff c.deref.result.now in
    let same : turned (tables_of R) ≡ tables_of (updated R u) =
    ap (λ (states : List PointState). tables_renewed after.network after.staff states (tables_of R)) c.deref.ensures.value ∙ tables_after R u after is.1 in
    let report : IsReport R u (Changes c.in_ok-lines-in-Accepted.lines) = search rules in
    updates g.S.Store R u c.args.store.now c.update.new.self turned is.0 same c.in_ok-lines-in-Accepted.lines report c.in_ok-update-in-Accepted.ensures

-- the database refused, or failed
pub returns-in_err-update-in-Accepted : goal.returns-in_err-update-in-Accepted
returns-in_err-update-in-Accepted g c =
    let R = c.args.book.now.register in
    let u = as_update c.args.update in
    let after = c.in-Accepted.after in
    let is = subst (λ (o : Outcome). IsOutcome R u o) c.in-Accepted.is c.in_ok-outcome.ensures in
    let turned = tables_renewed after.network after.staff c.deref.result.now in
    let same : turned (tables_of R) ≡ tables_of (updated R u) =
    ap (λ (states : List PointState). tables_renewed after.network after.staff states (tables_of R)) c.deref.ensures.value ∙ tables_after R u after is.1 in
    let reported : c.from_residual-in_err-update-in-Accepted.result ≡ Err (of_store c.in_err-update-in-Accepted.field-0.0) = search rules in
    rw reported (fails_to_update g.S.Store R u c.args.store.now c.update.new.self turned is.0 same c.in_err-update-in-Accepted.field-0.0 c.in_err-update-in-Accepted.ensures)
