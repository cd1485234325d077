-- THE JOURNAL OF A REGISTER IS BEGUN, and then the register gets its first place in it.
use Rattle.std.specs.Prelude.{◌≡◌, ◌⊎◌, ℕ, IsTrue, List, [], OnErr, OnOk, Result, Some, Ok, Err}
use Rattle.std.specs.Result.{result_and}
use Rattle.sqlite.specs.Held.{Held, state}
use Rattle.sqlite.specs.State.{HasCleanDisk, Survives}
use Rattle.sqlite_trees.specs.declared.store.Store.{Ghosts}
use Rattle.clr_rules.specs.Register.{Register}
use Rattle.clr_rules.specs.declared.place.Place.{Place}
use Rattle.clr_load.specs.Tables.{Tables, place_row, tables_of}
use Rattle.clr_load.specs.Contract.{IsSaved}
use Rattle.clr_load.specs.Schema.{no_schema}
use Rattle.clr_load.specs.Stored.{ArePlaced, HasTables}
use Rattle.clr_load.specs.TableEdits.{tables_edited}
use Rattle.clr_store.specs.Contract.{AreTablesAt}
use Rattle.clr_store.specs.Transaction.{AreTurned, PlacesAs, TurnsInto}
use Rattle.clr_edge.specs.Database.{IsAsBefore}
use Rattle.clr_edge.specs.Journals.{IsNew, IsOfBeginning}
use Rattle.clr_desk.specs.declared.desk.Desk.{Desk}
use Rattle.clr_chain.specs.Opening.{new_text}
use Rattle.clr_level.specs.Forward.{CanBeOpened}
use Rattle.clr_level.specs.declared.keeper.Keeper.{Keeper}
use Rattle.clr_level.specs.declared.last.Last.TheVariants.{Settled}
use Rattle.clr_keeping.specs.Keeping.{IsNotUp, IsUp, logged}
use Rattle.clr_keeping.specs.TakenUp.{Logs, store_place}
use Rattle.clr_edge.specs.Visit.{Closed, Done, Ending, Opening, Shutting, first_fault, reported}
use Rattle.clr_edge.specs.declared.fault.Fault.{Fault}
use Rattle.clr_edge.specs.declared.fault.Fault.TheVariants.{Journal, Memory}
use Rattle.clr_edge.specs.declared.fault.JournalFault.TheVariants.{Begun}

-- what is reported once a journal was begun: a fault says that it is to be removed
abbrev pub begun_or : Closed → Done
begun_or (Ok value) = Ok value
begun_or (Err cause) = Err (Journal Begun)

-- the journal was not begun, or it was and is to be removed
abbrev pub IsOfBegun : Fault → Type 0
IsOfBegun fault = IsOfBeginning fault ⊎ (fault ≡ Journal Begun)

-- A JOURNAL WAS BEGUN AT A PATH with this first line, and let go as it was begun: where its disk is
-- clean, it has that line alone, now and after a crash. Then this was done
pub record IsBegunThen {M J C : Type 0} (logs : Logs M J C) (path : List ℕ) (first : Place)
    (Does : Done → M → M → Type 0) (result : Done) (old new : M) : Type 0 where
  pub journal : J
  pub begun : M
  pub middle : M
  pub begins : logs.steps.begins_journal old path first journal begun
  pub gone : logs.steps.lets_journal_go begun journal middle
  pub line : IsNew logs.log logs.steps.is_clean first journal
  pub outcome : Closed
  pub did : Does (reported outcome) middle new
  pub result_is : result ≡ begun_or outcome

-- the same, unless none was begun, and then nothing more was done
abbrev pub BeginsFirst : {M J C : Type 0} → Logs M J C → List ℕ → Place → (Done → M → M → Type 0)
    → Done → M → M → Type 0
BeginsFirst logs path first Does result old new =
    ((fault : Fault) × (result ≡ Err fault) × IsOfBeginning fault
    × logs.steps.spares_journal old path first fault new)
    ⊎ IsBegunThen logs path first Does result old new

-- ---- level

-- A REGISTER IS LEVEL WITH A JOURNAL THAT HAS ITS PLACE AS THE FIRST LINE, and no more, so that both
-- can be opened: it is the register that the journal begins with
abbrev pub BeginsLevel : {S : Type 0} → Ghosts S → Register → Place → Held S → Type 0
BeginsLevel g R first after =
    CanBeOpened store_place R first first R (state g after) (new_text first) []

-- ONE THAT WAS GIVEN THE PLACE IS, if it had tables while its database was open; and it has these
-- tables. Which register they are of is for the caller to know
abbrev pub PlacedIsLevel : {S : Type 0} → Ghosts S → Held S → Place → Held S → Type 0
PlacedIsLevel g before first after = (R : Register)
    → (HasCleanDisk (state g after) → IsTrue (state g before).is_open
    → (t : Tables) × HasTables (state g before).now t)
    → BeginsLevel g R first after
    × (HasCleanDisk (state g after) → (t : Tables) → HasTables (state g before).now t
    → HasTables (state g after).now t)

-- ---- with the register

-- THE TABLES OF A REGISTER WERE MADE WITH ITS FIRST PLACE, in an empty database, so it is
-- level with the journal that begins there. Where the disk is clean they are there and saved, and a
-- crash leaves both, or what it left before
pub record IsMadeAt {S : Type 0} (g : Ghosts S) (before : Held S) (R : Register) (place : Place)
    (after : Held S) : Type 0 where
  pub mode : after.in_transaction ≡ before.in_transaction
  pub bare : (state g before).now.schema ≡ no_schema
  pub saved : HasCleanDisk (state g after) → IsSaved (state g after)
  pub tables : HasCleanDisk (state g after) → HasTables (state g after).now (tables_of R)
      × ArePlaced (state g after).now.trees (Some (place_row place))
  pub level : BeginsLevel g R place after
  pub survives : Survives (state g before) (state g after)
      (AreTablesAt (tables_of R) (place_row place))

-- they were not made
pub record IsUnmadeAt {S : Type 0} (g : Ghosts S) (before : Held S) (R : Register) (place : Place)
    (after : Held S) : Type 0 where
  pub as_before : IsAsBefore g before after
  pub survives : Survives (state g before) (state g after)
      (AreTablesAt (tables_of R) (place_row place))

-- they were, or not, and the first fault is the result
pub record MakesRegisterAt {S : Type 0} (g : Ghosts S) (R : Register) (place : Place)
    (result : Done) (before after : Held S) (closed : Closed) : Type 0 where
  pub outcome : Closed
  pub made : OnOk outcome (IsMadeAt g before R place after)
  pub unmade : OnErr outcome (IsUnmadeAt g before R place after)
  pub result_is : result ≡ reported (result_and outcome closed)

-- ---- for a register that has none

-- A REGISTER WAS GIVEN A PLACE, and its tables are as they were, so it is level with the journal that
-- begins there; or it was not, and the database is as it was. Where the database is open and its
-- disk clean, it was open. A crash leaves the same tables with the place, or what it left before
pub record IsPlacedOrNot {S : Type 0} (g : Ghosts S) (before : Held S) (place : Place)
    (outcome : Done) (after : Held S) : Type 0 where
  pub made : HasCleanDisk (state g after)
      → OnOk outcome (TurnsInto (PlacesAs (Some place)) (tables_edited []) (state g before).now
      (state g after).now)
  pub saved : HasCleanDisk (state g after) → OnOk outcome (IsSaved (state g after))
  pub level : OnOk outcome (PlacedIsLevel g before place after)
  pub none : HasCleanDisk (state g after) → IsTrue (state g after).is_open
      → OnErr outcome ((state g after).now ≡ (state g before).now)
  pub was_open : HasCleanDisk (state g after) → IsTrue (state g after).is_open
      → IsTrue (state g before).is_open
  pub survives : Survives (state g before) (state g after)
      (AreTurned (PlacesAs (Some place)) (tables_edited []) (state g before).now)

-- A JOURNAL WAS BEGUN for a register that was read, and then the register was given its first place;
-- or none was begun, and the register is as it was read
abbrev pub PlacesAt : {M J C T : Type 0} → Ghosts T → Logs M J C → List ℕ → Place → Done → M → M
    → Held T → Held T → Type 0
PlacesAt g logs path first result old new read after =
    ((fault : Fault) × (result ≡ Err fault) × IsOfBeginning fault × (after ≡ read)
    × logs.steps.spares_journal old path first fault new)
    ⊎ IsBegunThen logs path first
    (λ outcome middle later. (later ≡ middle) × IsPlacedOrNot g read first outcome after) result old new

-- ---- the next part

-- the number of a place, once the register went there
abbrev pub gives_number : Place → Done → Result ℕ Fault → Type 0
gives_number first outcome (Ok number) = (outcome ≡ Ok tt) × (number ≡ first.number)
gives_number first outcome (Err fault) = outcome ≡ Err fault

-- THE NEXT PART OF A JOURNAL IS BEGUN where that has come to, which is let go first; then the register
-- goes to that place, and its tables stay. Or memory ran out, and the register is as it was
abbrev pub GoesOnAt : {M J C T : Type 0} → Ghosts T → Logs M J C → List ℕ → Result ℕ Fault
    → M → M → Keeper (Held T) J C → Held T → Type 0
GoesOnAt {M} g logs next result old new it after = (middle : M)
    × logs.steps.lets_journal_go old it.journal middle
    × (((result ≡ Err Memory) × (new ≡ middle) × (after ≡ it.keeper))
    ⊎ ((outcome : Done) × gives_number it.at outcome result × (it.last ≡ Settled)
    × PlacesAt g logs next it.at outcome middle new it.keeper after))

-- over the database at a path, taken up with the journal at another
abbrev pub BeginsNextAt : {M J C T : Type 0} → Logs M J C → Ghosts T → Opening M T → Shutting M
    → Ending M T → List ℕ → List ℕ → List ℕ → Result ℕ Fault → M → M → Type 0
BeginsNextAt {M} {J} {C} {T} logs g opens shuts ends path journal next result old new =
    ((fault : Fault) × (result ≡ Err fault)
    × IsNotUp opens shuts ends path (logged g logs journal) old new fault)
    ⊎ ((taken : Desk (Keeper (Held T) J C)) × (up : M) × (middle : M) × (after : Held T)
    × (outcome : Result ℕ Fault) × (closed : Closed)
    × IsUp opens path (logged g logs journal) old up taken
    × GoesOnAt g logs next outcome up middle taken.store after
    × ends middle after closed new × (result ≡ first_fault outcome closed))
