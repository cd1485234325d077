use Rattle.clr_update.proofs.Delta.{changes_say_all}
use Rattle.clr_update.proofs.laws.changes_say_all.Goals as goal

pub returns : goal.returns
returns c = changes_say_all
