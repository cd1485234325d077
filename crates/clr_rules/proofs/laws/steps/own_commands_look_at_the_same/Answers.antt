use Rattle.clr_rules.proofs.isolation.LookAlike.{look_alike}
use Rattle.clr_rules.proofs.laws.steps.own_commands_look_at_the_same.Goals as goal

pub returns : goal.returns
returns c = look_alike
