use Rattle.clr_rules.proofs.keeps.EveryKind.{commands_keep_good}
use Rattle.clr_rules.proofs.laws.keeps.commands_keep_good.Goals as goal

pub returns : goal.returns
returns c = commands_keep_good
