use Rattle.clr_update.proofs.Made.{changes_keep_good, made_changes_are_updates}
use Rattle.clr_update.proofs.laws.made_changes_are_updates.Goals as goal

pub returns-clause-updates : goal.returns-clause-updates
returns-clause-updates c = made_changes_are_updates

pub returns-clause-good : goal.returns-clause-good
returns-clause-good c = changes_keep_good
