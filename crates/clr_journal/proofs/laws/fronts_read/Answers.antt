use Rattle.clr_journal.proofs.FrontsRead.{fronts_read}
use Rattle.clr_journal.proofs.laws.fronts_read.Goals as goal

pub returns : goal.returns
returns c = fronts_read
