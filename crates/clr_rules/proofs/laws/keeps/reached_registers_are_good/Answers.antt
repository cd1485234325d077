use Rattle.clr_rules.proofs.keeps.EveryKind.{reached_are_good}
use Rattle.clr_rules.proofs.laws.keeps.reached_registers_are_good.Goals as goal

pub returns : goal.returns
returns c = reached_are_good
