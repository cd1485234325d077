use Rattle.clr_chain.proofs.Firsts.{cuts_are_not_missed, fronts_are_found}
use Rattle.clr_chain.proofs.laws.cuts_are_not_missed.Goals as goal

pub returns-clause-other : goal.returns-clause-other
returns-clause-other c = cuts_are_not_missed

pub returns-clause-front : goal.returns-clause-front
returns-clause-front c = fronts_are_found
