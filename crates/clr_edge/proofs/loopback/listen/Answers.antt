use Rattle.clr_edge.proofs.loopback.listen.Goals as goal

pub returns-in-Ok-clause-stands : goal.returns-in-Ok-clause-stands
returns-in-Ok-clause-stands g c = (c.local_address.result, c.local_address.ensures, c.in-Ok.ensures.stands)

pub returns-in-Err-clause-fault : goal.returns-in-Err-clause-fault
returns-in-Err-clause-fault g c =
    (c.local_address.result, _, c.local_address.ensures, c.listen_fault.ensures, c.in-Err.ensures.refuses)
