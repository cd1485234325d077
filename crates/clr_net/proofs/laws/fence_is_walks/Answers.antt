use Rattle.clr_net.proofs.Walks.{fence_is_walks}
use Rattle.clr_net.proofs.laws.fence_is_walks.Goals as goal

pub returns : goal.returns
returns c = fence_is_walks
