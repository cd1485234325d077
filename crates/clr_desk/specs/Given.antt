-- WHAT A DESK WAS GIVEN: commands one after the other, at which logins, and what came of each.
use Rattle.std.specs.Prelude.{◌≡◌, ℕ, false, List, [], ◌∷◌, Option, IfOk, IsTrue, OnOk, Result}
use Rattle.sqlite.specs.State.{HasCleanDisk, State}
use Rattle.sqlite.specs.Tree.{Trees}
use Rattle.clr_rules.specs.Answer.{Answer}
use Rattle.clr_rules.specs.Good.{IsGood}
use Rattle.clr_rules.specs.Register.{Register}
use Rattle.clr_rules.specs.declared.command.Command.{Command}
use Rattle.clr_rules.specs.declared.reply.Reply.{Reply}
use Rattle.clr_load.specs.Contract.{IsSaved}
use Rattle.clr_load.specs.Stored.{AreTables, HasTables}
use Rattle.clr_load.specs.Tables.{tables_of}
use Rattle.clr_desk.specs.Answering.{has_accepted}
use Rattle.clr_book.specs.Own.{asked_answer}
use Rattle.clr_desk.specs.Asking.{near_after}
use Rattle.clr_desk.specs.Kept.{Keeps}
use Rattle.clr_desk.specs.Taking.{Taking, TakesOne}
use Rattle.clr_desk.specs.declared.desk.Desk.{Desk}
use Rattle.clr_desk.specs.declared.desk_fault.DeskFault.{DeskFault}

-- a command, the login at which it was given, if at one, and what came of it
pub record Given : Type 0 where
  pub login : Option (List ℕ)
  pub command : Command
  pub result : Result Reply DeskFault

-- a command: the reply and the register are those of what it looks at, a fault leaves the register,
-- and the keeper was called as is said of one command
pub record IsAnswered {K : Type 0} (takes : Taking K) (R : Register) (k : K)
    (login : Option (List ℕ)) (q : Command) (result : Result Reply DeskFault) (S : Register)
    (l : K) : Type 0 where
  pub reply : IfOk result (λ reply. reply ≡ Answer.reply (asked_answer R q))
  pub register : OnOk result (S ≡ near_after R q)
  pub unchanged : has_accepted result ≡ false → S ≡ R
  pub taken : TakesOne takes R k login q result l

abbrev pub IsGiven : {K : Type 0} → Taking K → Register → K → Given → Register → K → Type 0
IsGiven takes R k it S l = IsAnswered takes R k it.login it.command it.result S l

-- all of them
unfoldable pub AreGiven : {K : Type 0} → Taking K → Register → K → List Given → Register → K
    → Type 0
AreGiven takes R k [] S l = (S ≡ R) × (l ≡ k)
AreGiven {K} takes R k (it ∷ later) S l = (X : Register) × (m : K)
    × IsGiven takes R k it X m × AreGiven takes X m later S l

-- A LATER STATE OF A DESK: it was given commands, whatever they were, and keeps what commands keep
pub record LeadsTo {K : Type 0} (kept : K → State) (takes : Taking K) (old new : Desk K)
    : Type 0 where
  pub keeps : Keeps (kept old.store) old.book.register (kept new.store) new.book.register
  pub given : List Given
  pub are_given : AreGiven takes old.book.register old.store given new.book.register
      new.store

-- A LATER DESK SURVIVES A CRASH: where a saved store had the tables of a good register, what keeps
-- the changes later leaves the tables of the register then, while it is open and no disk failed
abbrev pub LaterDesksSurvive : {K : Type 0} → (K → State) → Taking K → Type 0
LaterDesksSurvive {K} kept takes = (old new : Desk K) → LeadsTo kept takes old new
    → HasCleanDisk (kept new.store) → IsTrue (kept new.store).is_open
    → IsSaved (kept old.store) → IsGood old.book.register
    → HasTables (kept old.store).now (tables_of old.book.register)
    → (trees : Trees) → (kept new.store).may_leave trees
    → AreTables trees (tables_of new.book.register)
