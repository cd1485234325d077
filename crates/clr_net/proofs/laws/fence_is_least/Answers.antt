use Rattle.clr_net.proofs.Walks.{fence_is_least}
use Rattle.clr_net.proofs.laws.fence_is_least.Goals as goal

pub returns : goal.returns
returns c = fence_is_least
