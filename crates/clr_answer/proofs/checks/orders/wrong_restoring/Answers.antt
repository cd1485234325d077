use Rattle.std.proofs.Common.{◌≡◌, ◌∙◌, ℕ, ap, filter, map, List}
use Rattle.clr_order.specs.Restoring.{restoring_fault}
use Rattle.clr_order.specs.Step.{task}
use Rattle.clr_order.specs.declared.held.Held.{Held}
use Rattle.clr_rules.specs.Holds.{has_hold, held_among, held_at, first_of_each}
use Rattle.clr_rules.specs.Refusals.{order_refusal}
use Rattle.clr_rules.specs.Steps.{points_of, steps_in}
use Rattle.clr_rules.specs.declared.hold_kind.HoldKind.TheVariants.{HeldOpen}
use Rattle.clr_answer.specs.Orders.{refusal_of}
use Rattle.clr_answer.proofs.OrderPositions.{refusal_of_answer}
use Rattle.clr_answer.proofs.checks.orders.wrong_restoring.Goals as goal

pub returns : goal.returns
unfolding held_among
returns c =
    let id = c.args.id in
    let holds = c.args.near.now.rows.holds in
    let tasks = map task c.args.steps.now in
    let places : c.deref-2.result.now ≡ first_of_each (points_of (steps_in c.args.near.now.rows.steps id 1)) =
    c.deref-2.ensures.value ∙ c.in_ok-places.ensures ∙ ap first_of_each (c.deref.ensures.value ∙ c.in_ok-points.ensures) in
    let held : c.deref-3.result.now ≡ held_among holds id (points_of (steps_in c.args.near.now.rows.steps id 1)) =
    c.deref-3.ensures.value ∙ c.in_ok-held.ensures ∙ ap (λ (points : List (List ℕ)). map (held_at holds id) (filter (has_hold holds id HeldOpen) points)) places in
    c.refusal_of.ensures ∙ ap refusal_of c.check_restoring.ensures.first ∙ refusal_of_answer (restoring_fault c.deref-3.result.now tasks)
    ∙ ap (λ (places : List Held). order_refusal (restoring_fault places tasks)) held
