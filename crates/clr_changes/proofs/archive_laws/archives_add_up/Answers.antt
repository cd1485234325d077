use Rattle.clr_changes.proofs.Agreeing.{archives_add_up}
use Rattle.clr_changes.proofs.archive_laws.archives_add_up.Goals as goal

pub returns : goal.returns
returns c = archives_add_up
