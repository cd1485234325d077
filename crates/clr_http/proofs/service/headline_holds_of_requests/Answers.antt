use Rattle.clr_http.proofs.RequestRuns.{others_take_nothing, own_requests_alone, same_responses}
use Rattle.clr_http.proofs.service.headline_holds_of_requests.Goals as goal

pub returns-clause-same : goal.returns-clause-same
returns-clause-same c = same_responses c.same_shown_same_answers.ensures

pub returns-clause-nothing : goal.returns-clause-nothing
returns-clause-nothing c = others_take_nothing c.nothing_is_taken_away.ensures

pub returns-clause-alone : goal.returns-clause-alone
returns-clause-alone c = own_requests_alone c.own_commands_stand_alone.ensures
