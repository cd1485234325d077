use Rattle.clr_journal.proofs.JournalsRead.{lines_grow}
use Rattle.clr_journal.proofs.laws.lines_grow.Goals as goal

pub returns : goal.returns
returns c = lines_grow
