use Rattle.clr_update.proofs.Entries.{entries_keep_good, no_entry_takes_away}
use Rattle.clr_update.proofs.laws.no_entry_takes_away.Goals as goal

pub returns-clause-nothing : goal.returns-clause-nothing
returns-clause-nothing c = no_entry_takes_away

pub returns-clause-good : goal.returns-clause-good
returns-clause-good c = entries_keep_good
