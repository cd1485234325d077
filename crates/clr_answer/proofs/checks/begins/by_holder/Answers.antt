use Rattle.std.proofs.Common.{◌∙◌, ◌∷◌, [], ap}
use Rattle.clr_rules.specs.Answer.{first_refusal}
use Rattle.clr_rules.specs.Commands.{by_holder}
use Rattle.clr_answer.specs.Begins.{phase_fits, role_fits}
use Rattle.clr_answer.proofs.FirstChecks.{first_inside}
use Rattle.clr_answer.proofs.checks.begins.by_holder.Goals as goal

pub returns : goal.returns
returns c =
    let R = c.args.near.now.rows in
    let a = c.args.asked.now in
    let roles = role_fits c.args.roles in
    let phases = phase_fits c.args.phases in
    c.by_the_holder.ensures ∙ ap (λ last. first_refusal (by_holder R a.by a.at a.id roles phases (last ∷ []))) c.first_of-last.ensures
    ∙ first_inside (by_holder R a.by a.at a.id roles phases []) c.args.own.now
