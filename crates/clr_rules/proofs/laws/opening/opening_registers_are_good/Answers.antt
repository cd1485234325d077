use Rattle.clr_rules.proofs.good.Opening.{opening_is_good}
use Rattle.clr_rules.proofs.laws.opening.opening_registers_are_good.Goals as goal

pub returns : goal.returns
returns c = opening_is_good
