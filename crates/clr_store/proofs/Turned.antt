-- A change of the tables in one transaction, with the place that is set, if one is given.
use Rattle.std.proofs.Common.{◌≡◌, ◌<◌, ◌^◌, IfSome, IsTrue, List, None, Ok, Option, Result, Some, option_map, refl, true}
use Rattle.sqlite.specs.Effect.{Database}
use Rattle.sqlite.specs.Held.{Held, state}
use Rattle.sqlite.specs.Order.{Row}
use Rattle.sqlite.specs.Schema.{Schema}
use Rattle.sqlite.specs.State.{KeepsCommit, State}
use Rattle.sqlite.specs.Store.{Ghosts}
use Rattle.sqlite.specs.declared.transaction.Transaction.{Transaction}
use Rattle.clr_rules.specs.declared.change.Edit.{Edit}
use Rattle.clr_rules.specs.declared.place.Place.{Place}
use Rattle.clr_load.specs.TableEdits.{tables_edited}
use Rattle.clr_load.specs.Tables.{Tables, place_row}
use Rattle.clr_load.specs.Fault.{IsOfDatabase}
use Rattle.clr_load.specs.Layout.{is_two}
use Rattle.clr_load.specs.Stored.{HasTables, HasTablesIn, Holds, IsInOrder, IsPlaced}
use Rattle.clr_load.specs.declared.fault.StoreFault.{StoreFault}
use Rattle.clr_load.specs.declared.layout.Layout.{Layout}
use Rattle.clr_load.proofs.Inside.{runs_none}
use Rattle.clr_store.proofs.Ending.{begun, transacts}
use Rattle.clr_store.proofs.Inside.{edited_tables, still_placed, then_does}
use Rattle.clr_store.proofs.Places.{keeps_place, placed_at, then_at}
use Rattle.clr_store.specs.Change.{CanSet, ChangesWith, Does, DoesWith, SetsIfGiven}
use Rattle.clr_store.specs.Transaction.{Concludes, FailsAs, PlacesAs, Transacts}

-- ---- calls in turn
pub can_fit : (schema : Schema) (place : Option Place) → CanSet schema place → IfSome place (λ place. place.number < 2 ^ 63)
can_fit schema None can = tt
can_fit schema (Some place) can = can.0

-- no place is given, and nothing is done
pub sets_none : {S : Type 0} (g : Ghosts S) (tx : Transaction S) → SetsIfGiven {X = Unit {0}} g tx tx None (Ok tt)
sets_none g tx = runs_none g tx IsOfDatabase _ _ tt (λ inside. record {
  inside = inside;
  kept = record { was_open = λ open_now. open_now; committed = λ _. refl };
  tables = λ l two t has. has;
  place = λ l two t has there. refl;
})

pub then_with : {S X Y : Type 0} (g : Ghosts S) (a b c : Transaction S) (f : Tables → Tables) (place : Option Row) (x : X) (r : Result Y StoreFault)
    → Does g a b f (Ok x) → SetsIfGiven g b c place r → DoesWith g a c f place r
then_with g a b c f None x r first second = then_does g a b c f (λ t. t) x r first second
then_with g a b c f (Some row) x r first second = then_at g a b c f row x r first second

-- ---- a transaction
with_inside : (old new : State) (change : Tables → Tables) (place : Option Row) → ChangesWith old new change place → IsTrue new.in_transaction
with_inside old new change None did = did.inside
with_inside old new change (Some row) did = did.inside

with_kept : (old new : State) (change : Tables → Tables) (place : Option Row) → ChangesWith old new change place → KeepsCommit old new
with_kept old new change None did = did.kept
with_kept old new change (Some row) did = did.kept

-- rows that were changed so are those of these tables
abbrev pub Lands : (Tables → Tables) → (Tables → Tables) → Type 0
Lands change turned = (l : Layout) → is_two l ≡ true → (db : Database) (t : Tables) → IsInOrder l t → Holds l db (change t) → IsPlaced l db.trees → HasTables db (turned t)

module _ (change turned : Tables → Tables) (lands : Lands change turned) where
  made_with : (old new : State) (place : Option Place) → CanSet old.now.schema place → ChangesWith old new change (option_map place_row place) → (t : Tables) → HasTables old.now t
      → HasTables new.now (turned t) × PlacesAs place old.now.trees new.now.trees
  made_with old new None can changes t has =
      let here = HasTables.here has in (
        lands has.layout has.two new.now t here.in_order (changes.tables has.layout has.two t here.holds) (still_placed has.layout old.now new.now (changes.place has.layout has.two t here.holds) here.placed),
        keeps_place old new change changes t has,
      )
  made_with old new (Some place) can changes t has =
      let it = placed_at old new change (place_row place) t has can.1 changes in
      (lands has.layout has.two new.now t (HasTablesIn.in_order (HasTables.here has)) it.0 it.1, it.2)

  -- the transaction, from its beginning to its end
  pub transacts_with : {S : Type 0} (g : Ghosts S) (old : Held S) (a b : Transaction S) (end new : Held S) (place : Option Place) (did result : Result (Unit {0}) StoreFault)
      → a.conn.now ≡ begun old → (IsTrue (state g old).is_open → (state g old).now ≡ (state g old).committed) → DoesWith g a b change (option_map place_row place) did
      → CanSet (state g old).now.schema place → end ≡ new → Concludes g b.conn.now end did result
      → Transacts (PlacesAs place) (FailsAs None) (state g old) (state g new) turned result
  transacts_with g old a b end new place did result is settled does can same concludes =
      transacts g old a b end new (PlacesAs place) turned (λ h. ChangesWith (state g h) (state g b.conn.now) change (option_map place_row place)) did result is settled does
      (with_inside _ _ _ _) (with_kept _ _ _ _) (made_with (state g (begun old)) (state g b.conn.now) place can) same concludes

pub edits_land : (edits : List Edit) → Lands (tables_edited edits) (tables_edited edits)
edits_land edits l two db t ordered has placed = edited_tables l two db edits t ordered has placed
