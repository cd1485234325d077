use Rattle.clr_http.proofs.OwnNames.{asked_in_own_name, foreign_is_refused, plain_checks_no_caller}
use Rattle.clr_http.proofs.service.requests_speak_for_themselves.Goals as goal

pub returns-clause-own : goal.returns-clause-own
returns-clause-own c = asked_in_own_name

pub returns-clause-foreign : goal.returns-clause-foreign
returns-clause-foreign c = foreign_is_refused

pub returns-clause-plain : goal.returns-clause-plain
returns-clause-plain c = plain_checks_no_caller
