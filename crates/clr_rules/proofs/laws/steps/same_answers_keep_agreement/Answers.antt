use Rattle.clr_rules.proofs.isolation.OthersSteps.{same_answers_agree}
use Rattle.clr_rules.proofs.laws.steps.same_answers_keep_agreement.Goals as goal

pub returns : goal.returns
returns c = same_answers_agree
