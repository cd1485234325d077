use Rattle.clr_journal.proofs.JournalsRead.{deeds_grow, withdrawn_is_left_out}
use Rattle.clr_journal.proofs.laws.deeds_grow.Goals as goal

pub returns-clause-accepted : goal.returns-clause-accepted
returns-clause-accepted c = deeds_grow

pub returns-clause-withdrawn : goal.returns-clause-withdrawn
returns-clause-withdrawn c = withdrawn_is_left_out
