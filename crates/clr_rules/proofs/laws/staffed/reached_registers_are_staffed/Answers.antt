use Rattle.clr_rules.proofs.staffed.EveryKind.{reached_are_staffed}
use Rattle.clr_rules.proofs.laws.staffed.reached_registers_are_staffed.Goals as goal

pub returns : goal.returns
returns c = reached_are_staffed
