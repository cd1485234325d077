use Rattle.std.proofs.Common.{◌∙◌, ap}
use Rattle.clr_rules.specs.Answer.{answer_with}
use Rattle.clr_rules.specs.Near.{Near}
use Rattle.clr_rules.proofs.near.NewAnswers.{near_is_enough}
use Rattle.clr_answer.proofs.kinds.decide.Goals as goal

pub returns-clause-whole : goal.returns-clause-whole
returns-clause-whole c R good switch lent =
    near_is_enough R c.args.command.now good switch ∙ ap (λ (near : Near). answer_with near.known near.rows c.args.command.now) lent ∙ c.in_ok-decision.ensures.answer
