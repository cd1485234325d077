use Rattle.clr_rules.proofs.near.NearOrder.{near_in_order}
use Rattle.clr_rules.proofs.near.NetworkNear.{no_other_rows}
use Rattle.clr_rules.proofs.laws.near.near_has_no_other_rows.Goals as goal

pub returns-clause-rows : goal.returns-clause-rows
returns-clause-rows c = no_other_rows

pub returns-clause-order : goal.returns-clause-order
returns-clause-order c = near_in_order
