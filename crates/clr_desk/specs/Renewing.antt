-- A DESK THAT GOES ON AFTER AN UPDATE AND AFTER AN ARCHIVE, each kept with a place: what comes of
-- its register, of what keeps its tables, and of what a crash leaves.
use Rattle.std.specs.Prelude.{◌≡◌, None, Some, Result, Ok, Err, IfErr, IsErrOf, IsTrue, OnErr, OnOk}
use Rattle.sqlite.specs.Effect.{Database}
use Rattle.sqlite.specs.State.{HasCleanDisk, State, Survives}
use Rattle.sqlite.specs.Tree.{Trees}
use Rattle.clr_changes.specs.Report.{IsReport}
use Rattle.clr_changes.specs.declared.report.Report.{Report}
use Rattle.clr_changes.specs.declared.report.Report.TheVariants.{Changes, InTheWay}
use Rattle.clr_load.specs.Contract.{IsSaved}
use Rattle.clr_load.specs.Stored.{AreTables, HasTables}
use Rattle.clr_rules.specs.declared.place.Place.{Place}
use Rattle.clr_rules.specs.Good.{IsGood}
use Rattle.clr_rules.specs.Register.{Register}
use Rattle.clr_load.specs.Tables.{Tables, tables_of}
use Rattle.clr_load.specs.TypedRows.{IsTyped}
use Rattle.clr_update.specs.Update.{Update, in_the_way, updated}
use Rattle.clr_desk.specs.Faults.{IsOfKeeper}
use Rattle.clr_desk.specs.Placing.{Placing}
use Rattle.clr_desk.specs.declared.desk.Desk.{Desk}
use Rattle.clr_desk.specs.declared.desk_fault.DeskFault.{DeskFault}
use Rattle.clr_desk.specs.declared.desk_fault.DeskFault.TheVariants.{NoMemory}

-- where a database had the tables of the first register, these trees have those of the second, and
-- this place; and this is so
abbrev pub AreComeTo : Placing → Type 0 → Database → Register → Register → Place → Trees → Type 0
AreComeTo has_place So old R S place trees = HasTables old (tables_of R)
    → So × AreTables trees (tables_of S) × has_place trees (Some place)

-- A DESK COMES TO A REGISTER, in its book and in what keeps its tables, with a place; or it stays as
-- it was, but for the count of its faults. It does so only where this is so
pub record ComesTo {K X : Type 0} (kept : K → State) (has_place : Placing)
    (fails : DeskFault → Type 0) (So : Type 0) (old new : Desk K) (S : Register) (place : Place)
    (result : Result X DeskFault) : Type 0 where
  pub register : IsGood old.book.register → OnOk result (new.book.register ≡ S)
  pub typed : OnOk result (IsTyped old.book.register → IsTyped S)
  pub unchanged : OnErr result (new.book ≡ old.book)
  pub cause : IfErr result (IsOfKeeper fails)
  -- what had the tables of its register has those of this one, and the place
  pub tables : HasCleanDisk (kept new.store)
      → HasTables (kept old.store).now (tables_of old.book.register)
      → OnOk result (HasTables (kept new.store).now (tables_of S)
      × has_place (kept new.store).now.trees (Some place))
  -- whatever tables it had, it has some, and the place
  pub shown : HasCleanDisk (kept new.store) → (t : Tables) → HasTables (kept old.store).now t
      → OnOk result ((u : Tables) × HasTables (kept new.store).now u
      × has_place (kept new.store).now.trees (Some place))
  pub none : HasCleanDisk (kept new.store) → IsTrue (kept new.store).is_open
      → OnErr result ((kept new.store).now ≡ (kept old.store).now)
  pub was_open : HasCleanDisk (kept new.store) → IsTrue (kept new.store).is_open
      → IsTrue (kept old.store).is_open
  pub stays_open : HasCleanDisk (kept new.store) → IsErrOf result NoMemory
      → IsTrue (kept old.store).is_open → IsTrue (kept new.store).is_open
  -- what is shown is committed again
  pub saved : HasCleanDisk (kept new.store) → OnOk result (IsSaved (kept new.store))
  pub still_saved : HasCleanDisk (kept new.store) → IsTrue (kept new.store).is_open
      → IsSaved (kept old.store) → OnErr result (IsSaved (kept new.store))
  -- a crash leaves what it left before, or the tables of this register and the place
  pub survives : Survives (kept old.store) (kept new.store)
      (AreComeTo has_place So (kept old.store).now old.book.register S place)

-- WHAT COMES OF AN UPDATE: something is in its way, and the desk stays as it is; or it comes to the
-- register that is updated
abbrev pub IsUpdatedAt : {K : Type 0} → (K → State) → Placing → (DeskFault → Type 0) → Desk K
    → Desk K → Update → Place → Result Report DeskFault → Type 0
IsUpdatedAt kept has_place fails old new u place (Ok (InTheWay obstacle)) =
    (in_the_way old.book.register u ≡ Some obstacle) × (new ≡ old)
IsUpdatedAt kept has_place fails old new u place (Ok (Changes text)) =
    IsReport old.book.register u (Changes text)
    × ComesTo {X = Unit {0}} kept has_place fails (in_the_way old.book.register u ≡ None) old new
    (updated old.book.register u) place (Ok tt)
IsUpdatedAt kept has_place fails old new u place (Err fault) =
    ComesTo {X = Unit {0}} kept has_place fails (in_the_way old.book.register u ≡ None) old new
    (updated old.book.register u) place (Err fault)
