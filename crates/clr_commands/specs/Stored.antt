-- What `board` and `order` print of registers that databases have, and why nothing is printed.
use Rattle.std.specs.Prelude.{◌≡◌, ◌≢◌, ◌⊎◌, ℕ, Err, IfErr, IfOk, List, Ok, OnOk, Result, String}
use Rattle.std.specs.Prelude.{string_bytes}
use Rattle.std.specs.declared.alloc.Global.{Global}
use Rattle.sqlite.specs.Held.{Held, state}
use Rattle.sqlite.specs.State.{HasCleanDisk, Survives}
use Rattle.sqlite_trees.specs.declared.store.Store.{Ghosts}
use Rattle.clr_rules.specs.CrewSafety.{CrewsAreSafe}
use Rattle.clr_rules.specs.Fit.{IsFit}
use Rattle.clr_rules.specs.Register.{Register}
use Rattle.clr_print.specs.Printed.{board_text}
use Rattle.clr_args.specs.declared.asked.BoardArgs.{BoardArgs}
use Rattle.clr_args.specs.declared.asked.OrderArgs.{OrderArgs}
use Rattle.clr_edge.specs.Database.{HasRegister, IsDatabaseFault, IsOnlyRead, IsRefused}
use Rattle.clr_edge.specs.Database.{ReadsAs}
use Rattle.clr_edge.specs.Visit.{Alone, Closed}
use Rattle.clr_edge.specs.declared.fault.Fault.{Fault}
use Rattle.clr_edge.specs.declared.fault.Fault.TheVariants.{Memory, NoSuch}
use Rattle.clr_commands.specs.Answers.{IsMemory, Prints}
use Rattle.clr_commands.specs.Order.{order_asked_for}

-- why a register has no such order: memory ran out, or it is not there
abbrev pub IsOfOrder : Fault → Type 0
IsOfOrder fault = (fault ≡ Memory) ⊎ (fault ≡ NoSuch)

-- WHY NOTHING CAME OF A DATABASE that was opened: a fault of the subcommand's own, once its register
-- was read from the tables, or the one with which these were refused. The database was not changed:
-- a crash leaves what it left before.
pub record IsUnanswered {S : Type 0} (g : Ghosts S) (before after : Held S)
    (IsOwn : Fault → Type 0) (fault : Fault) : Type 0 where
  pub cause : (IsOwn fault × IsOnlyRead g before after × ((R : Register) × ReadsAs g before after R))
      ⊎ IsRefused g before fault after
  pub survives : Survives (state g before) (state g after) (λ _. ⊥)

-- WHAT IS ANSWERED OF A DATABASE while it is open: of the register that it is known to have, unless
-- the database refuses or memory runs out. What is printed is of a good and staffed register that
-- its tables read as, on a clean disk, and in which crews are safe: of tables that read as none
-- nothing is printed there. A fault is the answer of such a register too, unless its tables were
-- refused. It was only read
pub record AnswersOf {S : Type 0} (g : Ghosts S) (IsOwn : Fault → Type 0)
    (Is : Register → Result (List ℕ) Fault → Type 0) (result : Result (String Global) Fault)
    (before after : Held S) : Type 0 where
  pub known : (R : Register) → HasRegister g R before → HasCleanDisk (state g after)
      → Prints IsDatabaseFault (Is R) result
  pub printed : IfOk result (λ text. (R : Register) × IsFit R × CrewsAreSafe R
      × ReadsAs g before after R × Is R (Ok (string_bytes text)))
  pub read : OnOk result (IsOnlyRead g before after)
  pub refused : IfErr result (IsUnanswered g before after IsOwn)
  pub faulted : IfErr result (λ fault. fault ≢ Memory → IsRefused g before fault after
      ⊎ ((R : Register) × IsFit R × ReadsAs g before after R × Is R (Err fault)))

-- the same of an answer that is computed
abbrev pub PrintsOf : {S : Type 0} → Ghosts S → (Fault → Type 0)
    → (Register → Result (List ℕ) Fault) → Result (String Global) Fault → Held S → Held S → Type 0
PrintsOf g IsOwn answer result before after =
    AnswersOf g IsOwn (λ R known. answer R ≡ known) result before after

-- what is done over a database while it is open, with no step beside it, however it is closed
abbrev pub WhileOpen : {M T H : Type 0} → (Result T Fault → H → H → Type 0) → Result T Fault → M → H
    → H → Closed → M → Type 0
WhileOpen Does = Alone (λ result before after closed. Does result before after)

-- what `board` does over a database that is opened for it
abbrev pub PrintsBoard : {M S : Type 0} → Ghosts S → BoardArgs → Result (String Global) Fault → M
    → Held S → Held S → Closed → M → Type 0
PrintsBoard g args =
    WhileOpen (PrintsOf g IsMemory (λ Q. Ok (board_text Q args.offset.minutes)))

-- what `order` does
abbrev pub PrintsOrder : {M S : Type 0} → Ghosts S → OrderArgs → Result (String Global) Fault → M
    → Held S → Held S → Closed → M → Type 0
PrintsOrder g args = WhileOpen (PrintsOf g IsOfOrder (λ Q. order_asked_for Q args))
