use Rattle.clr_rules.proofs.isolation.PartEdits.{others_change_by_marks}
use Rattle.clr_rules.proofs.laws.agreement.others_change_by_marks.Goals as goal

pub returns : goal.returns
returns c = others_change_by_marks
