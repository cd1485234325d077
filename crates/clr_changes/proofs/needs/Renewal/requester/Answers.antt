use Rattle.std.proofs.Common.{◌∙◌, [], ◌∷◌, ap, List}
use Rattle.clr_rules.specs.Checks.{employee, has_role, is_operator}
use Rattle.clr_staff.specs.declared.employee.StaffRow.{StaffRow}
use Rattle.clr_update.specs.Rows.{same_flag}
use Rattle.clr_update.specs.Update.{its_requester, unless}
use Rattle.clr_changes.specs.Needs.{Renewal}
use Rattle.clr_changes.specs.Touched.{first_of}
use Rattle.clr_changes.proofs.needs.Renewal.requester.Goals as goal

pub returns : goal.returns
returns g c =
    let name = c.args.clearance.now.id.requester in
    let now = has_role is_operator (employee c.self.inside.staff.now name) in
    c.its_requester.ensures
    ∙ ap (λ (was : List StaffRow). first_of (unless (same_flag (has_role is_operator (employee was name)) now) (name ∷ []))) c.staff.ensures
    ∙ ap (λ (V : Renewal). first_of (its_requester V.before V.after c.args.clearance.now)) c.self.view_is
