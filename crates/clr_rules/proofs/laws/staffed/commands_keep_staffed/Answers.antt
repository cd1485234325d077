use Rattle.clr_rules.proofs.staffed.EveryKind.{commands_keep_staffed}
use Rattle.clr_rules.proofs.laws.staffed.commands_keep_staffed.Goals as goal

pub returns : goal.returns
returns c = commands_keep_staffed
