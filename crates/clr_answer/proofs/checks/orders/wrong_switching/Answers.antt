use Rattle.std.proofs.Common.{◌≡◌, ◌∙◌, ℕ, ap, map, sym, Bor, List}
use Rattle.clr_net.specs.Grid.{point_names}
use Rattle.clr_net.specs.declared.point.PointRow.{PointRow}
use Rattle.clr_order.specs.Step.{task}
use Rattle.clr_order.specs.Switching.{switching_fault}
use Rattle.clr_rules.specs.Near.{Near}
use Rattle.clr_rules.specs.Refusals.{order_refusal}
use Rattle.clr_rules.proofs.good.Opening.{unplaced_names}
use Rattle.clr_answer.specs.Orders.{refusal_of}
use Rattle.clr_answer.proofs.OrderPositions.{refusal_of_answer, unplaced_shown}
use Rattle.clr_answer.proofs.checks.orders.wrong_switching.Goals as goal

pub returns : goal.returns
returns c =
    let tasks = map task c.args.steps.now in
    let rows = c.near.inside.points.items in
    let names : point_names (map (λ (row : Bor PointRow). row.now) c.deref.result.now) ≡ point_names c.args.near.now.rows.net.points =
    ap (λ (items : List (Bor PointRow)). point_names (map (λ row. row.now) items)) c.deref.ensures.value
    ∙ sym (unplaced_names (map (λ (row : Bor PointRow). row.now) rows))
    ∙ ap point_names (sym (unplaced_shown (λ (row : Bor PointRow). row.now) rows) ∙ ap (λ (n : Near). n.rows.net.points) c.near.view_is) in
    c.refusal_of.ensures ∙ ap refusal_of c.check_switching.ensures.first
    ∙ refusal_of_answer (switching_fault (point_names (map (λ (row : Bor PointRow). row.now) c.deref.result.now)) tasks)
    ∙ ap (λ (found : List (List ℕ)). order_refusal (switching_fault found tasks)) names
