use Rattle.clr_rules.proofs.isolation.OthersSteps.{others_step, lone_step}
use Rattle.clr_rules.proofs.laws.steps.others_commands_keep_agreement.Goals as goal

pub returns-clause-both : goal.returns-clause-both
returns-clause-both c = others_step

pub returns-clause-lone : goal.returns-clause-lone
returns-clause-lone c = lone_step
