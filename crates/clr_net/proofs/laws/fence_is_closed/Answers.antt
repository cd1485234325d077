use Rattle.clr_net.proofs.Walks.{fence_is_closed}
use Rattle.clr_net.proofs.laws.fence_is_closed.Goals as goal

pub returns : goal.returns
returns c = fence_is_closed
