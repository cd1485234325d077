use Rattle.clr_rules.proofs.staffed.Throughout.{reached_are_good_throughout, reached_are_staffed_throughout}
use Rattle.clr_rules.proofs.laws.throughout.reached_registers_are_throughout.Goals as goal

pub returns : goal.returns
returns c = record { good = reached_are_good_throughout; staffed = reached_are_staffed_throughout }
