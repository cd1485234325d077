use Rattle.clr_journal.proofs.JournalsRead.{journals_read_back}
use Rattle.clr_journal.proofs.laws.journals_read_back.Goals as goal

pub returns : goal.returns
returns c = journals_read_back
