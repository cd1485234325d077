use Rattle.clr_rules.proofs.isolation.OthersSteps.{others_edits}
use Rattle.clr_rules.proofs.laws.steps.others_edits_are_of_others.Goals as goal

pub returns : goal.returns
returns c = others_edits
