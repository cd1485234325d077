use Rattle.clr_level.proofs.Levels.{either_level}
use Rattle.clr_level.proofs.laws.either_is_level.Goals as goal

pub returns : goal.returns
returns c = either_level
