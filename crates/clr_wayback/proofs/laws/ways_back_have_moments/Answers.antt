use Rattle.clr_wayback.proofs.Moments.{ways_back_have_moments}
use Rattle.clr_wayback.proofs.laws.ways_back_have_moments.Goals as goal

pub returns : goal.returns
returns c = ways_back_have_moments
