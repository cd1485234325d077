use Rattle.clr_keeping.proofs.taking_up.take_up.Goals as goal

-- a journal is named
pub returns-in-Ok-clause-up : goal.returns-in-Ok-clause-up
returns-in-Ok-clause-up g c = rw c.in-Some.is c.in-Ok.ensures.up

pub returns-in-Err-clause-none : goal.returns-in-Err-clause-none
returns-in-Err-clause-none g c = rw c.in-Some.is c.in-Err.ensures.none
