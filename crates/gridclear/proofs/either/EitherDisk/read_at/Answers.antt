use Rattle.gridclear.proofs.either.EitherDisk.read_at.Goals as goal

pub returns-in-First-clause-read : goal.returns-in-First-clause-read
returns-in-First-clause-read g c = rw c.in-First.is c.read_at.ensures.read

pub returns-in-Second-clause-read : goal.returns-in-Second-clause-read
returns-in-Second-clause-read g c = rw c.in-Second.is c.read_at-in-Second.ensures.read
