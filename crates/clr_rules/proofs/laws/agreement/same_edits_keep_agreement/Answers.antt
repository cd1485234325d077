use Rattle.clr_rules.proofs.isolation.Agreement.{same_edits_agree}
use Rattle.clr_rules.proofs.laws.agreement.same_edits_keep_agreement.Goals as goal

pub returns : goal.returns
returns c = same_edits_agree
