use Rattle.clr_chain.proofs.Walked.{walks}
use Rattle.clr_chain.proofs.laws.walks_read_on.Goals as goal

pub returns : goal.returns
returns c = walks
