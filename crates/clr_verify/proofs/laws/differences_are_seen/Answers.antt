use Rattle.clr_verify.proofs.Same.{differences_are_seen}
use Rattle.clr_verify.proofs.laws.differences_are_seen.Goals as goal

pub returns : goal.returns
returns c = differences_are_seen
