-- The first refusal of an order: each check names its own, or hands on what the rest says.
use Rattle.std.specs.Prelude.{ℕ, Bool, if◌then◌else◌, List, Option, Some, None, Result, Ok, Err}
use Rattle.clr_order.specs.declared.order_fault.OrderFault.{OrderFault}

-- a refusal where a test says so, otherwise the rest
abbrev pub fault_if : Bool → OrderFault → Option OrderFault → Option OrderFault
fault_if applies fault rest = if applies then Some fault else rest

-- a refusal that names what was found, otherwise the rest
abbrev pub name_fault : (List ℕ → OrderFault) → Option (List ℕ) → Option OrderFault
    → Option OrderFault
name_fault fault None rest = rest
name_fault fault (Some name) rest = Some (fault name)

-- what a check answers: the first refusal, if one applies
abbrev pub answer_of : Option OrderFault → Result (Unit {0}) OrderFault
answer_of None = Ok tt
answer_of (Some fault) = Err fault
