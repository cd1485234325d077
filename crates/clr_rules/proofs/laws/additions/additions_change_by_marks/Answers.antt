use Rattle.clr_rules.proofs.isolation.Additions.{additions_change_by_marks}
use Rattle.clr_rules.proofs.laws.additions.additions_change_by_marks.Goals as goal

pub returns : goal.returns
returns c = additions_change_by_marks
