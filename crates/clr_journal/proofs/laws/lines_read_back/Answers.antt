use Rattle.clr_journal.proofs.Written.{lines_read_back}
use Rattle.clr_journal.proofs.laws.lines_read_back.Goals as goal

pub returns : goal.returns
returns c = lines_read_back
