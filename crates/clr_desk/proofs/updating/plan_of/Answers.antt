use Rattle.std.proofs.Common.{◌∙◌, List, ap, subst, sym}
use Rattle.clr_net.specs.Grid.{Grid}
use Rattle.clr_changes.specs.Lines.{change_lines}
use Rattle.clr_changes.specs.Outcome.{IsOutcome}
use Rattle.clr_changes.specs.Renewed.{renewed}
use Rattle.clr_changes.specs.Shown.{as_update}
use Rattle.clr_changes.specs.declared.outcome.Outcome.{Outcome}
use Rattle.clr_rules.specs.Register.{Register}
use Rattle.clr_rules.specs.declared.point_state.PointState.{PointState}
use Rattle.clr_store.specs.Renewed.{AreStatesOf}
use Rattle.clr_load.specs.TypedRows.{IsTyped}
use Rattle.clr_update.specs.Changes.{Changes}
use Rattle.clr_desk.proofs.Updated.{states_given}
use Rattle.clr_desk.proofs.updating.plan_of.Goals as goal

pub renewal_of-requires : goal.renewal_of-requires
renewal_of-requires c =
    let R = c.args.book.now.register in
    let u = as_update c.args.update in
    let is = subst (λ (o : Outcome). IsOutcome R u o) c.in-Accepted.is c.in_ok-outcome.ensures in
    states_given R u c.in-Accepted.after c.is_read.ensures is.0 is.1

pub returns-in-InTheWay : goal.returns-in-InTheWay
returns-in-InTheWay c =
    subst (λ (o : Outcome). IsOutcome c.args.book.now.register (as_update c.args.update) o) c.in-InTheWay.is c.in_ok-outcome.ensures

pub returns-in_ok-renewal-in-Accepted : goal.returns-in_ok-renewal-in-Accepted
returns-in_ok-renewal-in-Accepted c =
    let R = c.args.book.now.register in
    let u = as_update c.args.update in
    let after = c.in-Accepted.after in
    let is = subst (λ (o : Outcome). IsOutcome R u o) c.in-Accepted.is c.in_ok-outcome.ensures in
    let it = c.in_ok-renewal-in-Accepted.ensures in
    let own = states_given R u after c.is_read.ensures is.0 is.1 in
    let register = it.register ∙ is.1.register in
    let staff = ap (λ (S : Register). S.staff) it.register in
    record {
      free = is.0;
      lines = it.lines ∙ ap (λ (of : Changes). change_lines of) is.1.changes;
      register = register;
      renews = (λ i. renewed R (it.network i) (staff i) (it.states i)) ∙ is.1.register;
      own =
          subst (λ (g : Grid). AreStatesOf g.points c.in_ok-renewal-in-Accepted.renewal.states.items) (sym it.network)
          (subst (λ (states : List PointState). AreStatesOf (Grid.points after.network) states) (sym it.states) own);
      typed = subst IsTyped register it.typed;
    }
