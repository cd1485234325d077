-- Where no refusal applies, none of its causes does.
use Rattle.std.proofs.Common.{◌≡◌, Bool, true, false, Option, Some, None, List, ℕ, refl}
use Rattle.clr_order.specs.OrderFault.{fault_if, name_fault}
use Rattle.clr_order.specs.declared.order_fault.OrderFault.{OrderFault}

pub fault_if-none : (b : Bool) (fault : OrderFault) (rest : Option OrderFault) → fault_if b fault rest ≡ None → (b ≡ false) × (rest ≡ None)
fault_if-none true fault rest h = absurd (cc)
fault_if-none false fault rest h = (refl, h)

pub name_fault-none : (fault : List ℕ → OrderFault) (found : Option (List ℕ)) (rest : Option OrderFault) → name_fault fault found rest ≡ None → (found ≡ None) × (rest ≡ None)
name_fault-none fault None rest h = (refl, h)
name_fault-none fault (Some name) rest h = absurd (cc)

pub none-fault_if : (b : Bool) (fault : OrderFault) (rest : Option OrderFault) → b ≡ false → rest ≡ None → fault_if b fault rest ≡ None
none-fault_if b fault rest e h = rw e h

pub none-name_fault : (fault : List ℕ → OrderFault) (found : Option (List ℕ)) (rest : Option OrderFault) → found ≡ None → rest ≡ None → name_fault fault found rest ≡ None
none-name_fault fault found rest e h = rw e h
