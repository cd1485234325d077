use Rattle.clr_rules.proofs.near.NearParts.{request_near}
use Rattle.clr_rules.proofs.laws.near.request_looks_at_its_section.Goals as goal

pub returns : goal.returns
returns c = request_near
