use Rattle.std.proofs.Common.{◌≡◌, ◌∙◌, Bor, rules, ap, map, find, option_copied}
use Rattle.clr_order.proofs.Finds.{find_behind}
use Rattle.clr_rules.specs.Steps.{is_active, steps_of}
use Rattle.clr_rules.specs.declared.step_row.StepRow.{StepRow}
use Rattle.clr_wayback.proofs.rows.Rows.given_out.Goals as goal

pub returns : goal.returns
returns g c =
    let p = λ (row : StepRow). is_active row.step.state in
    let lent : map (λ (row : Bor StepRow). row.now) c.deref.result.now ≡ steps_of c.args.self.now.steps c.args.id = search rules in
    ap option_copied c.first_given_out.ensures ∙ find_behind p c.deref.result.now ∙ ap (find p) lent
