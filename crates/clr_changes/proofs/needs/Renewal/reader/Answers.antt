use Rattle.std.proofs.Common.{◌≡◌, ◌∙◌, ap, filter, map, not, Bor, List}
use Rattle.std.specs.List.{flat_map}
use Rattle.clr_rules.specs.Checks.{employee, has_role, is_field}
use Rattle.clr_rules.specs.Steps.{is_active, steps_of}
use Rattle.clr_rules.specs.declared.step_row.StepRow.{StepRow}
use Rattle.clr_update.specs.Update.{its_readers, names_in}
use Rattle.clr_changes.specs.Needs.{Renewal}
use Rattle.clr_changes.specs.Touched.{first_of}
use Rattle.clr_changes.proofs.needs.Renewal.reader.Goals as goal

pub returns : goal.returns
returns g c =
    let shows = λ (row : Bor StepRow). row.now in
    let gives = λ (rows : List StepRow).
    first_of (filter (λ name. not (has_role is_field (employee c.self.inside.staff.now name)))
    (flat_map (λ (row : StepRow). names_in row.step.reader) (filter (λ row. is_active row.step.state) rows))) in
    c.its_reader.ensures ∙ ap gives (ap (map shows) c.deref.ensures.value ∙ c.in_ok-steps.ensures)
    ∙ ap (λ (V : Renewal). first_of (its_readers V.before V.after c.args.clearance.now)) c.self.view_is
