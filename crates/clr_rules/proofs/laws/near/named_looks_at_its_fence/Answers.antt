use Rattle.clr_rules.proofs.near.NearParts.{named_near}
use Rattle.clr_rules.proofs.laws.near.named_looks_at_its_fence.Goals as goal

pub returns : goal.returns
returns c = named_near
