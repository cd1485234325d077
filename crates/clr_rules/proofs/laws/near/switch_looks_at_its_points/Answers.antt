use Rattle.clr_rules.proofs.near.NearParts.{switch_near}
use Rattle.clr_rules.proofs.laws.near.switch_looks_at_its_points.Goals as goal

pub returns : goal.returns
returns c = switch_near
