use Rattle.clr_rules.proofs.isolation.Headline.{own_alone}
use Rattle.clr_rules.proofs.laws.headline.own_commands_stand_alone.Goals as goal

pub returns : goal.returns
returns c = own_alone
