-- An order that no check refuses has no fault.
use Rattle.std.proofs.Common.{◌≡◌, ℕ, Bool, true, false, List, Option, None, Some, refl, sym, true≢false}
use Rattle.clr_rules.proofs.Common.{none-some, order_refusal}
use Rattle.clr_order.specs.OrderFault.{fault_if, name_fault}
use Rattle.clr_order.specs.declared.order_fault.OrderFault.{OrderFault}
use Rattle.clr_order.specs.declared.order_fault.OrderFault.TheVariants.{EmptyOrder, LongOrder, PointTwice, SourceInside, NotOnFence, StepsWrong, UnknownPoint, NoMemory}
use Rattle.clr_rules.specs.declared.refusal.Refusal.TheVariants as refusals

-- whether want of memory is answered, which no check of an order answers
abbrev pub is_memory : Option OrderFault → Bool
is_memory (Some NoMemory) = true
is_memory _ = false

pub by_test : (b : Bool) (fault : OrderFault) (rest : Option OrderFault) → is_memory (Some fault) ≡ false → is_memory rest ≡ false → is_memory (fault_if b fault rest) ≡ false
by_test true fault rest told more = told
by_test false fault rest told more = more

pub by_name : (fault : List ℕ → OrderFault) (found : Option (List ℕ)) (rest : Option OrderFault) → ((name : List ℕ) → is_memory (Some (fault name)) ≡ false) → is_memory rest ≡ false
    → is_memory (name_fault fault found rest) ≡ false
by_name fault None rest told more = more
by_name fault (Some name) rest told more = told name

pub no_refusal : (fault : Option OrderFault) → is_memory fault ≡ false → order_refusal fault ≡ None → fault ≡ None
no_refusal None memory none = refl
no_refusal (Some EmptyOrder) memory none = absurd (none-some refusals.EmptyOrder (sym none))
no_refusal (Some LongOrder) memory none = absurd (none-some refusals.LongOrder (sym none))
no_refusal (Some PointTwice) memory none = absurd (none-some refusals.PointTwice (sym none))
no_refusal (Some (SourceInside section)) memory none = absurd (none-some (refusals.SourceInside section) (sym none))
no_refusal (Some (NotOnFence point)) memory none = absurd (none-some (refusals.NotOnFence point) (sym none))
no_refusal (Some (StepsWrong point)) memory none = absurd (none-some (refusals.StepsWrong point) (sym none))
no_refusal (Some (UnknownPoint point)) memory none = absurd (none-some (refusals.UnknownPoint point) (sym none))
no_refusal (Some NoMemory) memory none = absurd (true≢false memory)
