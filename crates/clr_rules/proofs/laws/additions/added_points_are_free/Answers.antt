use Rattle.clr_rules.proofs.isolation.Additions.{added_points_are_free}
use Rattle.clr_rules.proofs.laws.additions.added_points_are_free.Goals as goal

pub returns : goal.returns
returns c = added_points_are_free
