-- A DEED AT A DESK: what comes of its register, of what keeps its tables, and of what a crash leaves.
use Rattle.std.specs.Prelude.{◌≡◌, true, Some, IfErr, OnErr, OnOk}
use Rattle.sqlite.specs.Effect.{Database}
use Rattle.sqlite.specs.State.{HasCleanDisk, State, Survives}
use Rattle.sqlite.specs.Tree.{Trees}
use Rattle.clr_changes.specs.Deeds.{Deed, after_deed}
use Rattle.clr_rules.specs.Good.{IsGood}
use Rattle.clr_rules.specs.Register.{Register}
use Rattle.clr_rules.specs.declared.place.Place.{Place}
use Rattle.clr_load.specs.Tables.{tables_of}
use Rattle.clr_load.specs.Contract.{IsSaved}
use Rattle.clr_load.specs.Stored.{AreTables, HasTables}
use Rattle.clr_journal.specs.Answered.{deed_reply}
use Rattle.clr_journal.specs.Line.{is_accepted}
use Rattle.clr_desk.specs.Faults.{IsOfKeeper}
use Rattle.clr_desk.specs.Placing.{Placing}
use Rattle.clr_desk.specs.Taking.{Came, Taking}
use Rattle.clr_desk.specs.declared.desk.Desk.{Desk}
use Rattle.clr_desk.specs.declared.desk_fault.DeskFault.{DeskFault}
use Rattle.clr_level.specs.Crash.{KeepsTables}
use Rattle.clr_level.specs.Forward.{GoesOn, IsNoCommand}
use Rattle.clr_level.specs.Placing.{ComesTo, StaysShown}

-- where the database had the tables of a good register, the trees have those after a deed, and this
-- place
abbrev pub AreDoneAt : Placing → Database → Register → Deed → Place → Trees → Type 0
AreDoneAt has_place before R deed place trees = IsGood R → HasTables before (tables_of R)
    → AreTables trees (tables_of (after_deed R deed)) × has_place trees (Some place)

abbrev pub IsTaken : Register → Deed → Type 0
IsTaken R deed = IsGood R × (is_accepted (deed_reply R deed) ≡ true)

-- A DEED IS CARRIED OUT, where a good register accepts it, and what keeps its tables shows the place
-- then; or a fault leaves all as it is. A crash leaves what it left before, or both
pub record CarriesDeed {K : Type 0} (kept : K → State) (takes : Taking K)
    (has_place : Placing) (fails : DeskFault → Type 0) (old new : Desk K) (deed : Deed)
    (place : Place) (came : Came) : Type 0 where
  pub register : IsTaken old.book.register deed
      → OnOk came (new.book.register ≡ after_deed old.book.register deed)
  pub placed : IsTaken old.book.register deed
      → OnOk came (ComesTo has_place (kept old.store) (kept new.store) place)
  pub tables : OnOk came (KeepsTables kept old new)
  pub saved : HasCleanDisk (kept new.store) → IsNoCommand deed → OnOk came (IsSaved (kept new.store))
  pub unchanged : OnErr came (new.book.register ≡ old.book.register)
  pub stays : OnErr came (StaysShown (kept old.store) (kept new.store))
  pub crash : Survives (kept old.store) (kept new.store)
      (AreDoneAt has_place (kept old.store).now old.book.register deed place)
  pub led : GoesOn kept takes has_place old new
  pub fault : IfErr came (IsOfKeeper fails)
