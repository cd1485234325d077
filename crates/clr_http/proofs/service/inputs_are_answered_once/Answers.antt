use Rattle.clr_http.proofs.Exchanges.{answered_once}
use Rattle.clr_http.proofs.service.inputs_are_answered_once.Goals as goal

pub returns : goal.returns
returns c = answered_once
