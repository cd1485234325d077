use Rattle.clr_net.proofs.Grown.{points_are_added}
use Rattle.clr_net.proofs.laws.points_are_added.Goals as goal

pub returns : goal.returns
returns c = points_are_added
