use Rattle.clr_changes.proofs.Unarchived.{only_shows_differ}
use Rattle.clr_changes.proofs.archive_laws.only_shows_differ.Goals as goal

pub returns : goal.returns
returns c = only_shows_differ
