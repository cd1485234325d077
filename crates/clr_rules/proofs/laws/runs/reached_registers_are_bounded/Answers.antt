use Rattle.clr_rules.proofs.good.Bounds.{reached_are_bounded}
use Rattle.clr_rules.proofs.laws.runs.reached_registers_are_bounded.Goals as goal

pub returns : goal.returns
returns _ = reached_are_bounded
