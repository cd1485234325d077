use Rattle.clr_rules.proofs.edits.EditedLists.{edited_all-in_order, edited_all-network}
use Rattle.clr_rules.proofs.laws.edits.edits_keep_order.Goals as goal

pub returns-clause-order : goal.returns-clause-order
returns-clause-order c = edited_all-in_order

pub returns-clause-network : goal.returns-clause-network
returns-clause-network c = edited_all-network
