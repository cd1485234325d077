use Rattle.std.proofs.Common.{◌≡◌, ◌∙◌, List, ap, map, filter, rules, flat_map, Bor, ℕ}
use Rattle.clr_order.specs.Step.{task}
use Rattle.clr_rules.specs.Holds.{first_of_each, has_hold, held_among, held_at}
use Rattle.clr_rules.specs.Steps.{points_of, steps_in, steps_of}
use Rattle.clr_rules.specs.declared.hold_kind.HoldKind.TheVariants.{HeldOpen}
use Rattle.clr_rules.specs.declared.step_row.StepRow.{StepRow}
use Rattle.clr_wayback.proofs.Found.{points_lent, steps_undoing}
use Rattle.clr_wayback.specs.Undoing.{leaving}
use Rattle.clr_wayback.proofs.rows.Rows.undoing_steps.Goals as goal

pub returns : goal.returns
unfolding held_among
returns g c =
    let holds = c.args.self.now.holds in
    let steps = c.args.self.now.steps in
    let id = c.args.id in
    let among = λ (points : List (List ℕ)). map (held_at holds id) (filter (has_hold holds id HeldOpen) points) in
    let lent : map (λ (row : Bor StepRow). row.now) c.deref.result.now ≡ steps_of steps id = search rules in
    let points : c.deref-2.result.now ≡ points_of (steps_in steps id 1) =
    c.deref-2.ensures.value ∙ c.in_ok-points.ensures ∙ points_lent c.deref.result.now steps id lent in
    let each : c.deref-3.result.now ≡ first_of_each (points_of (steps_in steps id 1)) =
    c.deref-3.ensures.value ∙ c.in_ok-points-2.ensures ∙ ap first_of_each points in
    let held : c.deref-4.result.now ≡ held_among holds id (points_of (steps_in steps id 1)) =
    c.deref-4.ensures.value ∙ c.in_ok-held.ensures ∙ ap among each in
    ap (map task) (c.in_ok-steps.ensures ∙ ap (flat_map leaving) held)
    ∙ steps_undoing (held_among holds id (points_of (steps_in steps id 1)))
