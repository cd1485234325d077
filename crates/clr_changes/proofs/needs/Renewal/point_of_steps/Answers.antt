use Rattle.std.proofs.Common.{◌≡◌, ◌∙◌, ap, filter, map, Bor, List}
use Rattle.clr_net.specs.Grid.{point_names}
use Rattle.clr_net.specs.Names.{has_name}
use Rattle.clr_net.specs.declared.point.PointRow.{PointRow}
use Rattle.clr_rules.specs.Steps.{points_of, steps_of}
use Rattle.clr_rules.specs.declared.step_row.StepRow.{StepRow}
use Rattle.clr_changes.specs.Needs.{Renewal}
use Rattle.clr_changes.specs.Touched.{first_of}
use Rattle.clr_changes.proofs.needs.Renewal.point_of_steps.Goals as goal

pub returns : goal.returns
returns g c =
    let V = c.args.self.now in
    let id = c.args.clearance.now.id in
    let shows = λ (row : Bor StepRow). row.now in
    let rows : c.deref.result.now ≡ V.changes.points_go = c.deref.ensures.value ∙ ap (λ (V : Renewal). V.changes.points_go) c.self.view_is in
    let steps : map shows c.deref-2.result.now ≡ steps_of V.before.steps id =
    ap (map shows) c.deref-2.ensures.value ∙ c.in_ok-steps.ensures ∙ ap (λ (V : Renewal). steps_of V.before.steps id) c.self.view_is in
    c.first_at_steps.ensures
    ∙ ap (λ (points : List PointRow). first_of (point_names (filter (λ p. has_name (points_of (map shows c.deref-2.result.now)) p.name) points))) rows
    ∙ ap (λ (steps : List StepRow). first_of (point_names (filter (λ p. has_name (points_of steps) p.name) V.changes.points_go))) steps
