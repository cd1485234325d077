use Rattle.clr_update.proofs.Agreeing.{same_changes_agree}
use Rattle.clr_update.proofs.laws.same_changes_agree.Goals as goal

pub returns : goal.returns
returns c = same_changes_agree
