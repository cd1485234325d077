-- The refusals of orders, as refusals of commands.
use Rattle.std.specs.Prelude.{Option, None, Some}
use Rattle.clr_order.specs.declared.order_fault.OrderFault.{OrderFault}
use Rattle.clr_rules.specs.Prelude.{Refusal, EmptyOrder, LongOrder, PointTwice, SourceInside}
use Rattle.clr_rules.specs.Prelude.{NotOnFence, StepsWrong, UnknownPoint}
use Rattle.clr_order.specs.declared.order_fault.OrderFault.TheVariants as faults

-- the refusal of a command whose order has this fault; out of memory is no refusal, and no check of
-- an order names it
abbrev pub order_refusal : Option OrderFault → Option Refusal
order_refusal None = None
order_refusal (Some faults.EmptyOrder) = Some EmptyOrder
order_refusal (Some faults.LongOrder) = Some LongOrder
order_refusal (Some faults.PointTwice) = Some PointTwice
order_refusal (Some (faults.SourceInside section)) = Some (SourceInside section)
order_refusal (Some (faults.NotOnFence point)) = Some (NotOnFence point)
order_refusal (Some (faults.StepsWrong point)) = Some (StepsWrong point)
order_refusal (Some (faults.UnknownPoint point)) = Some (UnknownPoint point)
order_refusal (Some faults.NoMemory) = None
