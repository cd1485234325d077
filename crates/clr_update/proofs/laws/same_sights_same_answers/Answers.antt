use Rattle.clr_update.proofs.Entries.{same_sights_same_answers}
use Rattle.clr_update.proofs.laws.same_sights_same_answers.Goals as goal

pub returns : goal.returns
returns c = same_sights_same_answers
