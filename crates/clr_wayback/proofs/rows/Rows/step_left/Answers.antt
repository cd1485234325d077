use Rattle.std.proofs.Common.{◌≡◌, ◌∙◌, ◌&&◌, Bor, rules, ap, map, find, not, option_copied}
use Rattle.clr_order.proofs.Finds.{find_behind}
use Rattle.clr_rules.specs.Steps.{is_done, is_of_round, steps_of}
use Rattle.clr_rules.specs.declared.step_row.StepRow.{StepRow}
use Rattle.clr_wayback.proofs.Found.{find-filter, round_of}
use Rattle.clr_wayback.proofs.rows.Rows.step_left.Goals as goal

pub returns : goal.returns
returns g c =
    let p = λ (row : StepRow). not (is_done row.step.state) in
    let q = is_of_round c.args.id 2 in
    let lent : map (λ (row : Bor StepRow). row.now) c.deref.result.now ≡ steps_of c.args.self.now.steps c.args.id = search rules in
    ap option_copied c.first_left.ensures ∙ find_behind (λ row. q row && p row) c.deref.result.now
    ∙ ap (find (λ row. q row && p row)) lent
    ∙ find-filter p q (steps_of c.args.self.now.steps c.args.id)
    ∙ ap (find p) (round_of c.args.self.now.steps c.args.id 2)
