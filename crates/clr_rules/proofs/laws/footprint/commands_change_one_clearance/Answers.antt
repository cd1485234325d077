use Rattle.clr_rules.proofs.isolation.OthersEdits.{one_outlook_changes, others_keep_outlook}
use Rattle.clr_rules.proofs.laws.footprint.commands_change_one_clearance.Goals as goal

pub returns-clause-one : goal.returns-clause-one
returns-clause-one c = one_outlook_changes

pub returns-clause-others : goal.returns-clause-others
returns-clause-others c = others_keep_outlook
