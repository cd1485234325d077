use Rattle.clr_rules.proofs.near.NearOrder.{one_row}
use Rattle.clr_rules.proofs.laws.near.points_have_one_row.Goals as goal

pub returns : goal.returns
returns c = one_row
