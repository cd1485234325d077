use Rattle.clr_rules.proofs.isolation.Agreement.{agrees_back, agrees_on, agrees_with_itself}
use Rattle.clr_rules.proofs.laws.agreement.agreement_is_an_equivalence.Goals as goal

pub returns-clause-itself : goal.returns-clause-itself
returns-clause-itself c = agrees_with_itself

pub returns-clause-back : goal.returns-clause-back
returns-clause-back c = agrees_back

pub returns-clause-on : goal.returns-clause-on
returns-clause-on c = agrees_on
