use Rattle.clr_rules.proofs.lists.Greatest.{greatest_is_greatest}
use Rattle.clr_rules.proofs.laws.near.greatest_is_greatest.Goals as goal

pub returns : goal.returns
returns c = greatest_is_greatest
