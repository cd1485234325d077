use Rattle.std.proofs.Common.{◌∙◌, ◌∷◌, [], ap}
use Rattle.clr_rules.specs.Answer.{first_refusal}
use Rattle.clr_rules.specs.Commands.{by_field}
use Rattle.clr_answer.specs.Begins.{phase_fits}
use Rattle.clr_answer.proofs.FirstChecks.{first_inside}
use Rattle.clr_answer.proofs.checks.begins.by_field.Goals as goal

pub returns : goal.returns
returns c =
    let R = c.args.near.now.rows in
    let a = c.args.asked.now in
    let fits = phase_fits c.args.phases in
    c.by_role.ensures ∙ ap (λ last. first_refusal (by_field R a.by a.at a.id fits (last ∷ []))) c.first_of-last.ensures
    ∙ first_inside (by_field R a.by a.at a.id fits []) c.args.own.now
