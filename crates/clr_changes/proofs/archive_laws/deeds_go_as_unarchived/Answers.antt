use Rattle.clr_changes.proofs.Unarchived.{deeds_go_as_unarchived, without_updates_are_made}
use Rattle.clr_changes.proofs.archive_laws.deeds_go_as_unarchived.Goals as goal

pub returns-clause-answers : goal.returns-clause-answers
returns-clause-answers c = deeds_go_as_unarchived

pub returns-clause-commands : goal.returns-clause-commands
returns-clause-commands c = without_updates_are_made
