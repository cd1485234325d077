use Rattle.clr_changes.proofs.Deeds.{commands_are_a_run, deeds_keep_good}
use Rattle.clr_changes.proofs.deed_laws.deeds_keep_good.Goals as goal

pub returns-clause-good : goal.returns-clause-good
returns-clause-good c = deeds_keep_good

pub returns-clause-commands : goal.returns-clause-commands
returns-clause-commands c = commands_are_a_run
