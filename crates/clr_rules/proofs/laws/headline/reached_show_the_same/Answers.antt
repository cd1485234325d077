use Rattle.clr_rules.proofs.isolation.Headline.{reached_show_the_same}
use Rattle.clr_rules.proofs.laws.headline.reached_show_the_same.Goals as goal

pub returns : goal.returns
returns c = reached_show_the_same
