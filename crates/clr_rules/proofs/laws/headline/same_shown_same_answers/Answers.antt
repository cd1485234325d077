use Rattle.clr_rules.proofs.isolation.Headline.{same_shown}
use Rattle.clr_rules.proofs.laws.headline.same_shown_same_answers.Goals as goal

pub returns : goal.returns
returns c = same_shown
