use Rattle.clr_rules.proofs.near.NearParts.{switch_order_near}
use Rattle.clr_rules.proofs.laws.near.switch_order_has_its_points.Goals as goal

pub returns : goal.returns
returns c = switch_order_near
