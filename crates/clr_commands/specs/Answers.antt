-- What a call answers, by the definition of its answer.
use Rattle.std.specs.Prelude.{◌≡◌, ℕ, List, Result, Ok, Err, String, string_bytes}
use Rattle.std.specs.declared.alloc.Global.{Global}
use Rattle.clr_edge.specs.declared.fault.Fault.{Fault}
use Rattle.clr_edge.specs.declared.fault.Fault.TheVariants.{Memory}

-- THE ANSWER OF A CALL: the value, as `view` shows it, or the fault, of which `Is` says that it is
-- the answer. Only a fault that is excused may come in its place.
abbrev pub Answers : {A T E : Type 0} → (E → Type 0) → (T → A) → (Result A E → Type 0) → Result T E
    → Type 0
Answers IsExcused view Is (Ok value) = Is (Ok (view value))
Answers IsExcused view Is (Err fault) = (IsExcused fault → ⊥) → Is (Err fault)

-- the same of an answer that is computed
abbrev pub Gives : {A T E : Type 0} → (E → Type 0) → (T → A) → Result A E → Result T E → Type 0
Gives IsExcused view answer result = Answers IsExcused view (λ known. answer ≡ known) result

-- the same of a text that is printed
abbrev pub Prints : (Fault → Type 0) → (Result (List ℕ) Fault → Type 0)
    → Result (String Global) Fault → Type 0
Prints IsExcused Is result = Answers IsExcused (λ text. string_bytes text) Is result

abbrev pub GivesText : (Fault → Type 0) → Result (List ℕ) Fault → Result (String Global) Fault
    → Type 0
GivesText IsExcused answer result = Gives IsExcused (λ text. string_bytes text) answer result

abbrev pub IsMemory : Fault → Type 0
IsMemory fault = fault ≡ Memory
