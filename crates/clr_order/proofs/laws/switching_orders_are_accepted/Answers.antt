use Rattle.clr_order.proofs.OtherOrders.{no_fault_from_switching, switching_from_no_fault}
use Rattle.clr_order.proofs.laws.switching_orders_are_accepted.Goals as goal

pub returns : goal.returns
returns c = λ found tasks. (switching_from_no_fault found tasks, no_fault_from_switching found tasks)
