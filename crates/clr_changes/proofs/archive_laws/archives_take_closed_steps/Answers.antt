use Rattle.clr_changes.proofs.Kept.{archives_take_closed_steps, no_step_is_lost}
use Rattle.clr_changes.proofs.archive_laws.archives_take_closed_steps.Goals as goal

pub returns-clause-own : goal.returns-clause-own
returns-clause-own c = archives_take_closed_steps

pub returns-clause-none_lost : goal.returns-clause-none_lost
returns-clause-none_lost c = no_step_is_lost
