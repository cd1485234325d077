use Rattle.clr_rules.proofs.good.GoodToPhases.{to_phases}
use Rattle.clr_rules.proofs.good.PhasesToGood.{from_phases}
use Rattle.clr_rules.proofs.laws.good.good_forms_are_one.Goals as goal

pub returns : goal.returns
returns c = λ R. (to_phases R, from_phases R)
