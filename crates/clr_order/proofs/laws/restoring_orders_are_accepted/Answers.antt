use Rattle.clr_order.proofs.OtherOrders.{no_fault_from_restoring, restoring_from_no_fault}
use Rattle.clr_order.proofs.laws.restoring_orders_are_accepted.Goals as goal

pub returns : goal.returns
returns c = λ held tasks. (restoring_from_no_fault held tasks, no_fault_from_restoring held tasks)
