use Rattle.clr_rules.proofs.good.DeadWork.{granted_points_bear_all_holds}
use Rattle.clr_rules.proofs.laws.work.granted_points_bear_all_holds.Goals as goal

pub returns : goal.returns
returns c = granted_points_bear_all_holds
