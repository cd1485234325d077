use Rattle.clr_net.proofs.Locality.{fences_are_local}
use Rattle.clr_net.proofs.laws.fences_are_local.Goals as goal

pub returns : goal.returns
returns c = fences_are_local
