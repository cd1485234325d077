use Rattle.clr_rules.proofs.lists.LeastCrossed.{least_crossed_is_named}
use Rattle.clr_rules.proofs.laws.additions.least_crossed_is_named.Goals as goal

pub returns : goal.returns
returns c = least_crossed_is_named
