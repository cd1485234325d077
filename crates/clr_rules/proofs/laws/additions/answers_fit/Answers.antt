use Rattle.clr_rules.proofs.edits.Growing.{answers_fit}
use Rattle.clr_rules.proofs.laws.additions.answers_fit.Goals as goal

pub returns : goal.returns
returns c = answers_fit
