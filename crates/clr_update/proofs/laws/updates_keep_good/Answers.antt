use Rattle.clr_update.proofs.Good.{points_keep_their_states, updates_keep_good}
use Rattle.clr_update.proofs.laws.updates_keep_good.Goals as goal

pub returns-clause-good : goal.returns-clause-good
returns-clause-good c = updates_keep_good

pub returns-clause-states : goal.returns-clause-states
returns-clause-states c = points_keep_their_states
