use Rattle.clr_changes.proofs.Crews.{crews_work_safely_over_deeds, safe_over_commands}
use Rattle.clr_changes.proofs.deed_laws.crews_work_safely_over_deeds.Goals as goal

pub returns-clause-deeds : goal.returns-clause-deeds
returns-clause-deeds c = crews_work_safely_over_deeds

pub returns-clause-commands : goal.returns-clause-commands
returns-clause-commands c = safe_over_commands
