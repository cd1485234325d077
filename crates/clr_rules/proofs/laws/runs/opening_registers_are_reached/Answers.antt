use Rattle.clr_rules.proofs.edits.Runs.{opening_is_reached}
use Rattle.clr_rules.proofs.laws.runs.opening_registers_are_reached.Goals as goal

pub returns : goal.returns
returns _ = opening_is_reached
