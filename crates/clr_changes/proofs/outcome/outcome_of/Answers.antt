use Rattle.std.proofs.Common.{◌≡◌, ◌∙◌, ap, List, None, Option, Some, subst, sym}
use Rattle.clr_net.specs.declared.point.PointRow.{PointRow}
use Rattle.clr_update.specs.Update.{first_obstacle, jumpers}
use Rattle.clr_changes.specs.Outcome.{IsRenewal}
use Rattle.clr_changes.specs.Parts.{name_obstacles}
use Rattle.clr_changes.specs.Shown.{as_update}
use Rattle.clr_changes.specs.declared.outcome.After.{After}
use Rattle.clr_changes.proofs.InParts.{name_in_way, rows_in_way, too_large}
use Rattle.clr_changes.proofs.outcome.outcome_of.Goals as goal

pub renewal_of-requires : goal.renewal_of-requires
renewal_of-requires g c = c.deref-2.ensures.value ∙ c.in_ok-was.ensures

pub returns-in-Some : goal.returns-in-Some
returns-in-Some g c =
    let R = c.args.book.now.register in
    let u = as_update c.args.update in
    let was : c.deref.result.now ≡ jumpers R = c.deref.ensures.value ∙ c.in_ok-was.ensures in
    name_in_way R u c.in-Some.obstacle
    (ap (λ (rows : List PointRow). first_obstacle (name_obstacles u rows)) (sym was) ∙ sym c.name_obstacle-named.ensures ∙ c.in-Some.is)

pub returns-in_default-renewal : goal.returns-in_default-renewal
returns-in_default-renewal g c =
    let R = c.args.book.now.register in
    let u = as_update c.args.update in
    let was : c.deref.result.now ≡ jumpers R = c.deref.ensures.value ∙ c.in_ok-was.ensures in
    let none : first_obstacle (name_obstacles u (jumpers R)) ≡ None =
    ap (λ (rows : List PointRow). first_obstacle (name_obstacles u rows)) (sym was) ∙ sym c.name_obstacle-named.ensures ∙ c.in_default.is in
    too_large R u none (subst (λ (o : Option After). IsRenewal R u o) c.in_default-renewal.is c.in_ok-renewal.ensures)

pub returns-in-Some-found : goal.returns-in-Some-found
returns-in-Some-found g c =
    let R = c.args.book.now.register in
    let u = as_update c.args.update in
    let after = c.in-Some-renewal.after in
    let was : c.deref.result.now ≡ jumpers R = c.deref.ensures.value ∙ c.in_ok-was.ensures in
    let none : first_obstacle (name_obstacles u (jumpers R)) ≡ None =
    ap (λ (rows : List PointRow). first_obstacle (name_obstacles u rows)) (sym was) ∙ sym c.name_obstacle-named.ensures ∙ c.in_default.is in
    let renewed : IsRenewal R u (Some after) = subst (λ (o : Option After). IsRenewal R u o) c.in-Some-renewal.is c.in_ok-renewal.ensures in
    rows_in_way R u after none renewed.0 renewed.1 ∙ sym c.in_ok-found.ensures ∙ c.in-Some-found.is

pub returns : goal.returns
returns g c =
    let R = c.args.book.now.register in
    let u = as_update c.args.update in
    let after = c.in-Some-renewal.after in
    let was : c.deref.result.now ≡ jumpers R = c.deref.ensures.value ∙ c.in_ok-was.ensures in
    let none : first_obstacle (name_obstacles u (jumpers R)) ≡ None =
    ap (λ (rows : List PointRow). first_obstacle (name_obstacles u rows)) (sym was) ∙ sym c.name_obstacle-named.ensures ∙ c.in_default.is in
    let renewed : IsRenewal R u (Some after) = subst (λ (o : Option After). IsRenewal R u o) c.in-Some-renewal.is c.in_ok-renewal.ensures in
    (rows_in_way R u after none renewed.0 renewed.1 ∙ sym c.in_ok-found.ensures ∙ c.in-None.is, renewed.1)
