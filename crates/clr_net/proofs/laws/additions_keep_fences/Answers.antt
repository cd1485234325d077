use Rattle.clr_net.proofs.Grown.{additions_keep_fences}
use Rattle.clr_net.proofs.laws.additions_keep_fences.Goals as goal

pub returns : goal.returns
returns c = additions_keep_fences
