use Rattle.clr_rules.proofs.isolation.Agreement.{marks_alike}
use Rattle.clr_rules.proofs.laws.agreement.agreeing_registers_mark_alike.Goals as goal

pub returns : goal.returns
returns c = marks_alike
