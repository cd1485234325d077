use Rattle.clr_checking.proofs.BriefTaken.{brief_lines_are_taken}
use Rattle.clr_checking.proofs.laws.brief_lines_are_taken.Goals as goal

pub returns : goal.returns
returns c = brief_lines_are_taken
