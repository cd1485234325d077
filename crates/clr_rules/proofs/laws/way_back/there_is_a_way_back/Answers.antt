use Rattle.clr_rules.proofs.way_back.EachPhase.{there_is_a_way_back}
use Rattle.clr_rules.proofs.laws.way_back.there_is_a_way_back.Goals as goal

pub returns : goal.returns
returns c = there_is_a_way_back
