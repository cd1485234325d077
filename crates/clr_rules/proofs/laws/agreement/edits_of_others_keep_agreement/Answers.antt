use Rattle.clr_rules.proofs.isolation.Agreement.{left_alone_agrees, one_left_alone_agrees}
use Rattle.clr_rules.proofs.laws.agreement.edits_of_others_keep_agreement.Goals as goal

pub returns-clause-one : goal.returns-clause-one
returns-clause-one c = one_left_alone_agrees

pub returns-clause-all : goal.returns-clause-all
returns-clause-all c = left_alone_agrees
