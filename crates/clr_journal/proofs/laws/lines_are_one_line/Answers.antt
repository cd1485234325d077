use Rattle.clr_journal.proofs.JournalsRead.{lines_are_one_line}
use Rattle.clr_journal.proofs.laws.lines_are_one_line.Goals as goal

pub returns : goal.returns
returns c = lines_are_one_line
