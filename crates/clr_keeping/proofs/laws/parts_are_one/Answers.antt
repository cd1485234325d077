use Rattle.clr_keeping.proofs.PartsLevel.{parts_level}
use Rattle.clr_keeping.proofs.laws.parts_are_one.Goals as goal

pub returns : goal.returns
returns c = parts_level
