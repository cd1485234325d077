-- ONE TRANSACTION: the tables turn into others and all of it is committed, or nothing of it is done.
use Rattle.std.specs.Prelude.{◌≡◌, ◌⊎◌, false, Option, None, Some, Result, Err, IfErr, IsTrue}
use Rattle.std.specs.Prelude.{OnErr, OnOk, is_ok, is_some}
use Rattle.sqlite.specs.Effect.{Database}
use Rattle.sqlite.specs.Held.{Held, state}
use Rattle.sqlite.specs.Order.{Row}
use Rattle.sqlite.specs.State.{Commits, HasCleanDisk, IsRolledBack, State, Survives}
use Rattle.sqlite.specs.Store.{Ghosts}
use Rattle.sqlite.specs.Tree.{Trees}
use Rattle.clr_rules.specs.declared.place.Place.{Place}
use Rattle.clr_load.specs.Contract.{IsSaved}
use Rattle.clr_load.specs.Fault.{IsOfDatabase}
use Rattle.clr_load.specs.Stored.{ArePlaced, AreTables, HasTables}
use Rattle.clr_load.specs.Tables.{Tables, place_row}
use Rattle.clr_load.specs.declared.fault.StoreFault.{StoreFault}
use Rattle.clr_load.specs.declared.fault.StoreFault.TheVariants.{NoMemory}

-- what becomes of a place: this one is set; where none is given, it stays as it was
abbrev pub PlacesAs : Option Place → Trees → Trees → Type 0
PlacesAs None before after = (place : Option Row) → ArePlaced before place → ArePlaced after place
PlacesAs (Some place) before after = ArePlaced after (Some (place_row place))

-- whatever tables there were, they are now what these turn into, and so is their place
abbrev pub TurnsInto : (Trees → Trees → Type 0) → (Tables → Tables) → Database → Database → Type 0
TurnsInto places turned before after = (t : Tables) → HasTables before t
    → HasTables after (turned t) × places before.trees after.trees

-- the trees have what they turn into, with the place
abbrev pub AreTurned : (Trees → Trees → Type 0) → (Tables → Tables) → Database → Trees → Type 0
AreTurned places turned before trees = (t : Tables) → HasTables before t
    → AreTables trees (turned t) × places before.trees trees

-- THE TABLES TURN INTO THESE, with what becomes of the place, and both are committed; or there is a
-- fault, and what is shown stays as it was. A crash leaves what it left before, or both
pub record Transacts {X F : Type 0} (places : Trees → Trees → Type 0)
    (fails : State → State → F → Type 0) (old new : State) (turned : Tables → Tables)
    (result : Result X F) : Type 0 where
  pub made : HasCleanDisk new → OnOk result (TurnsInto places turned old.now new.now)
  pub saved : HasCleanDisk new → OnOk result (IsSaved new)
  pub none : HasCleanDisk new → IsTrue new.is_open → OnErr result (new.now ≡ old.now)
  pub fault : IfErr result (fails old new)
  pub was_open : HasCleanDisk new → IsTrue new.is_open → IsTrue old.is_open
  pub crash : Survives old new (AreTurned places turned old.now)

-- WHAT A FAULT OF A STORE LEAVES: the database refused or failed, or memory ran out; an open store
-- has saved what it shows; and where a place was to be set, want of memory leaves the store open
pub record FailsAs (place : Option Place) (old new : State) (fault : StoreFault) : Type 0 where
  pub cause : IsOfDatabase fault
  pub saved : HasCleanDisk new → IsTrue new.is_open → IsSaved new
  pub stays_open : IsTrue (is_some place) → HasCleanDisk new → fault ≡ NoMemory → IsTrue new.is_open

-- how a transaction ends: what calls inside it have done is committed, or it is rolled back
pub record Concludes {S : Type 0} (g : Ghosts S) (mid end : Held S)
    (did result : Result (Unit {0}) StoreFault) : Type 0 where
  pub ended : end.in_transaction ≡ false
  pub done : OnOk result (IsTrue (is_ok did))
  pub committed : HasCleanDisk (state g end) → OnOk result (Commits (state g mid) (state g end))
  pub undone : HasCleanDisk (state g end) → OnOk did (IsTrue (state g mid).in_transaction)
      → OnErr result (IsRolledBack (state g mid) (state g end))
  pub fault : IfErr result (λ fault. IsOfDatabase fault ⊎ (did ≡ Err fault))
  pub survives : Survives (state g mid) (state g end)
      (λ trees. IsTrue (is_ok did) × (trees ≡ (state g mid).now.trees))

-- what was reported of a transaction is so of what is reported now: with a place, want of memory
-- leaves the store open
abbrev pub Settles : {S : Type 0} → Ghosts S → Option Place → Held S
    → Result (Unit {0}) StoreFault → Held S → Result (Unit {0}) StoreFault → Type 0
Settles {S} g place mid reported new result = (old : Held S) (turned : Tables → Tables)
    → Transacts (PlacesAs place) (FailsAs None) (state g old) (state g mid) turned reported
    → Transacts (PlacesAs place) (FailsAs place) (state g old) (state g new) turned result

-- a call in no transaction that only compiles a statement: what was saved and shown is so still,
-- where the connection is open
pub record StaysSaved (old new : State) : Type 0 where
  pub was_open : IsTrue new.is_open → IsTrue old.is_open
  pub saved : IsTrue new.is_open → IsSaved old → IsSaved new
  pub none : IsTrue new.is_open → IsSaved old → new.now ≡ old.now
