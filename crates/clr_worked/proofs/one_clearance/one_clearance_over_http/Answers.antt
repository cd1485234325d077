use Rattle.clr_worked.proofs.OneClearance.{both_answered, same_responses}
use Rattle.clr_worked.proofs.First.{first}
use Rattle.clr_worked.proofs.Posted.{posted}
use Rattle.clr_worked.proofs.Shown.{shown}
use Rattle.clr_worked.proofs.one_clearance.one_clearance_over_http.Goals as goal

pub returns-clause-posted : goal.returns-clause-posted
returns-clause-posted c = posted

pub returns-clause-shown : goal.returns-clause-shown
returns-clause-shown c = shown

pub returns-clause-same : goal.returns-clause-same
returns-clause-same c = same_responses c.requests_are_runs.ensures.answers c.headline_holds_of_requests.ensures.same

pub returns-clause-answered : goal.returns-clause-answered
returns-clause-answered c = both_answered

pub returns-clause-first : goal.returns-clause-first
returns-clause-first c = first
