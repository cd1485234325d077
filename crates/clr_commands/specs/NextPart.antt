-- WHAT `journal --next` DOES: the part of a journal ends, and the next one is begun where it ends.
use Rattle.std.specs.Prelude.{◌≡◌, ◌⊎◌, ◌++◌, ℕ, List, Result, Ok, Err, String, codes, decimal}
use Rattle.std.specs.Prelude.{string_bytes}
use Rattle.std.specs.declared.alloc.Global.{Global}
use Rattle.sqlite_trees.specs.declared.store.Store.{Ghosts}
use Rattle.clr_args.specs.declared.asked.NextPartArgs.{NextPartArgs}
use Rattle.clr_keeping.specs.Beginning.{BeginsNextAt}
use Rattle.clr_keeping.specs.TakenUp.{Logs}
use Rattle.clr_edge.specs.Visit.{Ending, Opening, Shutting}
use Rattle.clr_edge.specs.declared.fault.Fault.{Fault}
use Rattle.clr_edge.specs.declared.fault.Fault.TheVariants.{Memory}

abbrev pub next_line : ℕ → List ℕ
next_line number = codes "next part after " ++ (decimal number ++ codes "\n")

-- what is printed once the next part is begun, or why it is not; memory may also run out after it
abbrev pub PrintsNext : Result ℕ Fault → Result (String Global) Fault → Type 0
PrintsNext (Ok number) (Ok text) = string_bytes text ≡ next_line number
PrintsNext (Ok number) (Err fault) = fault ≡ Memory
PrintsNext (Err fault) (Ok text) = ⊥
PrintsNext (Err fault) (Err cause) = cause ≡ fault

abbrev pub BeginsNext : {M S J C : Type 0} → Logs M J C → Ghosts S → Opening M S
    → Shutting M → Ending M S → NextPartArgs → Result (String Global) Fault → M → M → Type 0
BeginsNext logs g opens shuts ends args result old new = (outcome : Result ℕ Fault)
    × PrintsNext outcome result
    × BeginsNextAt logs g opens shuts ends args.database.now args.path.now args.next.now outcome
    old new
