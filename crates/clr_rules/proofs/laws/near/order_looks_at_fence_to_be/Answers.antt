use Rattle.clr_rules.proofs.near.NearParts.{order_near}
use Rattle.clr_rules.proofs.laws.near.order_looks_at_fence_to_be.Goals as goal

pub returns : goal.returns
returns c = order_near
