use Rattle.clr_rules.proofs.staffed.Throughout.{commands_keep_staffed_throughout, commands_keep_throughout}
use Rattle.clr_rules.proofs.laws.throughout.commands_keep_throughout.Goals as goal

pub returns : goal.returns
returns c = record { good = commands_keep_throughout; staffed = commands_keep_staffed_throughout }
