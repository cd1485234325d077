-- What the checks of orders report, as refusals.
use Rattle.std.specs.Prelude.{Option, None, Some, Result, Ok, Err}
use Rattle.clr_order.specs.declared.order_fault.OrderFault.{OrderFault}
use Rattle.clr_rules.specs.Refusals.{order_refusal}
use Rattle.clr_rules.specs.declared.refusal.Refusal.{Refusal}

-- the refusal that the check of an order reported, if it reported one
abbrev pub refusal_of : Result (Unit {0}) OrderFault → Option Refusal
refusal_of (Ok _) = None
refusal_of (Err fault) = order_refusal (Some fault)
