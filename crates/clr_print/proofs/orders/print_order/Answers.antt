use Rattle.std.proofs.Common.{◌≡◌, ◌∙◌, ap, List, ℤ, ◌==◌, Option, Some, Bor, map, FitsSigned, w16, to_z-of_z}
use Rattle.std.proofs.lemmas.Result.{IfOk-weaker}
use Rattle.clr_rules.proofs.Common.{steps_of}
use Rattle.clr_print.specs.Printed.{in_round, order_text, round_text}
use Rattle.clr_print.proofs.RowsLent.{now-filter}
use Rattle.clr_print.proofs.orders.print_order.Goals as goal
use Rattle.clr_rules.specs.declared.record.Record.{Record}
use Rattle.clr_rules.specs.declared.step_row.StepRow.{StepRow}

pub returns : goal.returns
returns g c =
    let fits : FitsSigned w16 c.args.offset = c.ranges.offset in
    let clock : c.new-clock.result ≡ c.args.offset = simp to_z-of_z at c.new-clock.ensures in
    let steps : map (λ (row : Bor StepRow). row.now) c.as_slice.result.now ≡ steps_of c.args.book.now.register.steps c.args.id.now =
    ap (map (λ (row : Bor StepRow). row.now)) c.as_slice.ensures.value ∙ c.in_ok-steps.ensures in
    let rows : map (λ (row : Bor StepRow). row.now) c.as_slice-2.result.now ≡ in_round c.args.round (steps_of c.args.book.now.register.steps c.args.id.now) =
    ap (map (λ (row : Bor StepRow). row.now)) (c.as_slice-2.ensures.value ∙ c.in_ok-rows.ensures)
    ∙ now-filter (λ (row : StepRow). row.round == c.args.round) c.as_slice.result.now ∙ ap (in_round c.args.round) steps in
    IfOk-weaker c.round_text.result _ _ (λ text e. e
    ∙ ap (λ (rows : List StepRow). round_text c.in-Some.record.now rows c.args.round c.new-clock.result) rows
    ∙ ap (λ (o : ℤ). order_text (Some c.in-Some.record.now) (steps_of c.args.book.now.register.steps c.args.id.now) c.args.round o) clock
    ∙ ap (λ (r : Option Record). order_text r (steps_of c.args.book.now.register.steps c.args.id.now) c.args.round c.args.offset) c.in-Some.ensures) c.round_text.ensures
