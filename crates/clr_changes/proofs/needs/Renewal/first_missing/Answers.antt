use Rattle.std.proofs.Common.{◌≡◌, ◌∙◌, ap, map, Bor, sym}
use Rattle.clr_rules.specs.Register.{Register}
use Rattle.clr_rules.specs.declared.hold.Hold.{Hold}
use Rattle.clr_rules.specs.declared.step_row.StepRow.{StepRow}
use Rattle.clr_update.specs.Update.{first_obstacle}
use Rattle.clr_changes.specs.Needs.{Renewal}
use Rattle.clr_changes.specs.Parts.{missing_roles, staff_obstacles}
use Rattle.clr_changes.proofs.needs.Renewal.first_missing.Goals as goal

pub returns : goal.returns
returns g c =
    let steps = ap (map (λ (row : Bor StepRow). row.now)) c.deref.ensures.value ∙ c.in_ok-steps.ensures ∙ sym (ap (λ (R : Register). R.steps) c.shelves.ensures) in
    let holds = ap (map (λ (h : Bor Hold). h.now)) c.deref-2.ensures.value ∙ c.in_ok-holds.ensures ∙ sym (ap (λ (R : Register). R.holds) c.shelves.ensures) in
    c.missing.ensures
    ∙ (λ i. first_obstacle (missing_roles (steps i) (holds i) (c.rows.ensures.rows i)))
    ∙ ap (λ (V : Renewal). first_obstacle (staff_obstacles V)) c.self.view_is
