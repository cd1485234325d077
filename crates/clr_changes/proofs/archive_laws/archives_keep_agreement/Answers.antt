use Rattle.clr_changes.proofs.Agreeing.{archives_keep_agreement}
use Rattle.clr_changes.proofs.archive_laws.archives_keep_agreement.Goals as goal

pub returns : goal.returns
returns c = archives_keep_agreement
