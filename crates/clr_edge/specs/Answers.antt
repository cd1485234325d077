-- Answers in steps, each of which may end in a fault.
use Rattle.std.specs.Prelude.{◌≡◌, ◌≢◌, Option, Some, None, Result, Ok, Err}
use Rattle.clr_edge.specs.declared.fault.Fault.{Fault}
use Rattle.clr_edge.specs.declared.fault.Fault.TheVariants.{Memory}

-- the answer that is given, as `view` shows it; only want of memory may come in its place
abbrev pub Gives : {A T : Type 0} → (T → A) → Result A Fault → Result T Fault → Type 0
Gives view told (Ok value) = told ≡ Ok (view value)
Gives view told (Err fault) = fault ≢ Memory → told ≡ Err fault

-- a fault, if there is one, or the rest
abbrev pub unless : {A : Type 0} → Option Fault → Result A Fault → Result A Fault
unless None rest = rest
unless (Some fault) rest = Err fault

-- what is given after a step: what the next one gives, or the step's fault
abbrev pub After : {A T : Type 0} → Result A Fault → (A → Result T Fault → Type 0) → Result T Fault
    → Type 0
After (Ok value) next told = next value told
After (Err fault) next told = told ≡ Err fault
