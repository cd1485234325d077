use Rattle.clr_net.proofs.Grown.{sections_are_added}
use Rattle.clr_net.proofs.laws.sections_are_added.Goals as goal

pub returns : goal.returns
returns c = sections_are_added
