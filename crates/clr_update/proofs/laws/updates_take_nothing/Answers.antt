use Rattle.clr_update.proofs.Left.{updates_take_nothing}
use Rattle.clr_update.proofs.laws.updates_take_nothing.Goals as goal

pub returns : goal.returns
returns c = updates_take_nothing
