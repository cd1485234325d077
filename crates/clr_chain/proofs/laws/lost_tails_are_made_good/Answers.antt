use Rattle.clr_chain.proofs.LevelKept.{lost_tails}
use Rattle.clr_chain.proofs.laws.lost_tails_are_made_good.Goals as goal

pub returns : goal.returns
returns c = lost_tails
