use Rattle.clr_text.proofs.PlainTexts.{one_line}
use Rattle.clr_text.proofs.laws.values_are_one_line.Goals as goal

pub returns : goal.returns
returns c = one_line
