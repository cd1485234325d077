use Rattle.clr_update.proofs.Left.{updates_leave_a_way_back}
use Rattle.clr_update.proofs.laws.updates_leave_a_way_back.Goals as goal

pub returns : goal.returns
returns c = updates_leave_a_way_back
