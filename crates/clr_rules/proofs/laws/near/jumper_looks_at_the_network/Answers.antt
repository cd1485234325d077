use Rattle.clr_rules.proofs.near.NetworkNear.{jumper_near}
use Rattle.clr_rules.proofs.laws.near.jumper_looks_at_the_network.Goals as goal

pub returns : goal.returns
returns c = jumper_near
