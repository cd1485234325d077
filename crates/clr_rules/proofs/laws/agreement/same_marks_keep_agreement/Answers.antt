use Rattle.clr_rules.proofs.isolation.Agreement.{same_marks_agree}
use Rattle.clr_rules.proofs.laws.agreement.same_marks_keep_agreement.Goals as goal

pub returns : goal.returns
returns c = same_marks_agree
