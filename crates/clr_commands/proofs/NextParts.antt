-- What is printed of the next part of a journal.
use Rattle.std.proofs.Common.{◌≡◌, ◌⊎◌, inl, inr, ℕ, Result, Ok, Err}
use Rattle.std.specs.Prelude.{IsErrAnd, String}
use Rattle.std.specs.declared.alloc.Global.{Global}
use Rattle.clr_keeping.specs.Beginning.{IsOfBegun}
use Rattle.clr_keeping.specs.TakenUp.{IsOfTakingUp}
use Rattle.clr_edge.specs.declared.fault.Fault.{Fault}
use Rattle.clr_edge.specs.declared.fault.Fault.TheVariants.{Memory}
use Rattle.clr_commands.specs.Faults.{IsOfSubcommand}
use Rattle.clr_commands.specs.NextPart.{PrintsNext}
use Rattle.clr_commands.proofs.Faults.{begun_plain, taking_up_plain}

-- it was not begun
pub next_told : (result : Result (String Global) Fault) (fault : Fault) → IsErrAnd result (λ cause. cause ≡ fault) → PrintsNext (Err fault) result
next_told (Ok text) fault is = absurd is
next_told (Err told) fault is = is

-- it was, and memory ran out after it
pub next_memory : (result : Result (String Global) Fault) (number : ℕ) → IsErrAnd result (λ cause. cause ≡ Memory) → PrintsNext (Ok number) result
next_memory (Ok text) number is = absurd is
next_memory (Err told) number is = is

pub next_plain : (fault : Fault) → IsOfTakingUp fault ⊎ IsOfBegun fault → IsOfSubcommand fault
next_plain fault (inl of) = taking_up_plain fault of
next_plain fault (inr of) = begun_plain fault of
