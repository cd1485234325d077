use Rattle.clr_rules.proofs.live.LiveSections.{closed_point_carries_on}
use Rattle.clr_rules.proofs.laws.live.closed_points_carry_on.Goals as goal

pub returns : goal.returns
returns c = λ g net states. closed_point_carries_on g states net
