use Rattle.clr_http.proofs.respond.response_to.Goals as goal

pub returns-in-Clearance-clause-turn : goal.returns-in-Clearance-clause-turn
returns-in-Clearance-clause-turn g c = rw c.in-Clearance.is (c.view_response.ensures.turn c.args.body.now)

pub returns-in-Clearance-clause-put : goal.returns-in-Clearance-clause-put
returns-in-Clearance-clause-put g c = rw c.in-Clearance.is (c.view_response.ensures.put c.args.body.now)
