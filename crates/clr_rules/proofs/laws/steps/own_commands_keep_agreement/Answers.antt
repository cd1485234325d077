use Rattle.clr_rules.proofs.isolation.OwnSteps.{own_step}
use Rattle.clr_rules.proofs.laws.steps.own_commands_keep_agreement.Goals as goal

pub returns : goal.returns
returns c = own_step
