use Rattle.clr_changes.proofs.Kept.{archives_keep_good}
use Rattle.clr_changes.proofs.archive_laws.archives_keep_good.Goals as goal

pub returns : goal.returns
returns c = archives_keep_good
