-- The way back of the clearance that a word names, as it is answered and as it comes to.
use Rattle.std.proofs.Common.{◌≡◌, Option, None, Ok, Err, List, ℕ}
use Rattle.std.specs.Prelude.{Result, String}
use Rattle.std.specs.declared.alloc.Global.{Global}
use Rattle.clr_rules.specs.Id.{Id}
use Rattle.clr_rules.specs.Register.{Register}
use Rattle.clr_edge.specs.declared.fault.Fault.{Fault}
use Rattle.clr_commands.specs.Answers.{IsMemory, Prints}
use Rattle.clr_commands.specs.WayBack.{GivesBackTo}

-- a word that names no clearance
pub none_named : (R : Register) (o : Option Id) → o ≡ None → GivesBackTo R o
none_named R o none = rw none tt

-- what two clauses say of an answer
pub both_print : (P Q : Result (List ℕ) Fault → Type 0) (result : Result (String Global) Fault) → Prints IsMemory P result → Prints IsMemory Q result
    → Prints IsMemory (λ known. P known × Q known) result
both_print P Q (Ok text) p q = (p, q)
both_print P Q (Err fault) p q = λ other. (p other, q other)
