use Rattle.clr_chain.proofs.SameSums.{same_sum}
use Rattle.clr_chain.proofs.laws.same_sum_same_journal.Goals as goal

pub returns : goal.returns
returns c = same_sum
