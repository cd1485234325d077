-- CARRYING OUT A COMMAND: what it does to the register and the network of a desk, to what keeps its
-- changes, and to what a crash leaves.
use Rattle.std.specs.Prelude.{◌≡◌, false, IfErr, IfOk, IsTrue, OnErr, OnOk, Result}
use Rattle.sqlite.specs.State.{HasCleanDisk, State, Survives}
use Rattle.clr_answer.specs.Decision.{is_accepted}
use Rattle.clr_rules.specs.Answer.{Answer, answer}
use Rattle.clr_rules.specs.Command.{is_jumper}
use Rattle.clr_rules.specs.Good.{IsGood}
use Rattle.clr_rules.specs.Run.{after}
use Rattle.clr_rules.specs.declared.command.Command.{Command}
use Rattle.clr_rules.specs.declared.reply.Reply.{Reply}
use Rattle.clr_load.specs.Contract.{IsSaved}
use Rattle.clr_load.specs.Stored.{HasTables}
use Rattle.clr_load.specs.Tables.{tables_of}
use Rattle.clr_load.specs.TypedRows.{is_typed_command}
use Rattle.clr_desk.specs.Answering.{has_accepted}
use Rattle.clr_desk.specs.Commit.{Stays}
use Rattle.clr_book.specs.Own.{asked_answer}
use Rattle.clr_desk.specs.Asking.{near_after, near_network}
use Rattle.clr_desk.specs.Crash.{AreAfter}
use Rattle.clr_desk.specs.Faults.{IsOfKeeper}
use Rattle.clr_desk.specs.declared.desk.Desk.{Desk}
use Rattle.clr_desk.specs.declared.desk_fault.DeskFault.{DeskFault}

-- A DESK CARRIES OUT A COMMAND, and what came of it is this
pub record CarriesOut {K : Type 0} (kept : K → State) (fails : DeskFault → Type 0)
    (old new : Desk K) (q : Command) (result : Result Reply DeskFault) : Type 0 where
  -- the reply and the register are those of what the command looks at, whatever the register,
  pub near : IfOk result (λ reply. reply ≡ Answer.reply (asked_answer old.book.register q))
  pub changed : OnOk result (new.book.register ≡ near_after old.book.register q)
  -- and of a good register those of the whole register
  pub reply : IsGood old.book.register
      → IfOk result (λ reply. reply ≡ Answer.reply (answer old.book.register q))
  pub register : IsGood old.book.register
      → OnOk result (new.book.register ≡ after old.book.register q)
  -- a command that is refused or shown, and a fault, leave the register
  pub unchanged : has_accepted result ≡ false → new.book.register ≡ old.book.register
  -- the network has what the command adds, and its other rows as they were, with their positions
  pub network : OnOk result
      (new.book.network ≡ near_network old.book.register q old.book.network)
  pub same_network : has_accepted result ≡ false → new.book.network ≡ old.book.network
  -- only a jumper adds to it
  pub plain : is_jumper q.kind ≡ false → new.book.network ≡ old.book.network
  pub cause : IfErr result (IsOfKeeper fails)
  -- each value of the command is within its type, as every value of the program is
  pub typed : IsTrue (is_typed_command q)
  -- what showed the tables of the register shows them, and a fault leaves what is shown
  pub tables : HasCleanDisk (kept new.store) → IsGood old.book.register
      → HasTables (kept old.store).now (tables_of old.book.register)
      → OnOk result (HasTables (kept new.store).now (tables_of new.book.register))
  pub unwritten : has_accepted result ≡ false → HasCleanDisk (kept new.store)
      → IsTrue (kept new.store).is_open → (kept new.store).now ≡ (kept old.store).now
  -- a command that is refused or shown does not touch what is kept
  pub asked : IfOk result
      (λ reply. is_accepted reply ≡ false → Stays (kept old.store) (kept new.store))
  pub was_open : HasCleanDisk (kept new.store) → IsTrue (kept new.store).is_open
      → IsTrue (kept old.store).is_open
  -- what is shown is committed again
  pub saved : HasCleanDisk (kept new.store) → IsSaved (kept old.store)
      → OnOk result (IsSaved (kept new.store))
  pub still_saved : HasCleanDisk (kept new.store) → IsTrue (kept new.store).is_open
      → IsSaved (kept old.store) → OnErr result (IsSaved (kept new.store))
  -- a crash leaves what it left before, or the tables after the command
  pub survives : Survives (kept old.store) (kept new.store)
      (AreAfter (kept old.store).now old.book.register q)
