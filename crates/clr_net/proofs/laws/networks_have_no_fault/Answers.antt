use Rattle.clr_net.proofs.BuildFacts.{network_has_no_fault}
use Rattle.clr_net.proofs.laws.networks_have_no_fault.Goals as goal

pub returns : goal.returns
returns c = network_has_no_fault
