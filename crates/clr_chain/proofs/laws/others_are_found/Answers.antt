use Rattle.clr_chain.proofs.OtherRules.{others_found}
use Rattle.clr_chain.proofs.laws.others_are_found.Goals as goal

pub returns : goal.returns
returns c = others_found
