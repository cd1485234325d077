-- What statements make of the tables, inside a transaction.
use Rattle.std.specs.Prelude.{◌≡◌, ℕ, zero, suc, IsTrue, Bool, true, false, Result}
use Rattle.std.specs.Prelude.{if◌then◌else◌, ◌==◌, List, [], take}
use Rattle.std.specs.Prelude.{◌∷◌, ◌<◌, ◌^◌, ⊤, None, Option, Some}
use Rattle.std.specs.Prelude.{fold, map, replicate}
use Rattle.std.specs.List.{AllByRecursion}
use Rattle.sqlite.specs.Effect.{Database, IsDatabase}
use Rattle.sqlite.specs.Order.{Row}
use Rattle.sqlite.specs.Held.{state}
use Rattle.sqlite.specs.State.{State, KeepsCommit}
use Rattle.sqlite.specs.Schema.{Schema}
use Rattle.sqlite.specs.Store.{Ghosts}
use Rattle.sqlite.specs.declared.transaction.Transaction.{Transaction}
use Rattle.sqlite_schema.specs.Names.{table_named}
use Rattle.clr_net.specs.declared.section.SectionRow.{SectionRow}
use Rattle.clr_net.specs.declared.point.PointRow.{PointRow}
use Rattle.clr_staff.specs.declared.employee.StaffRow.{StaffRow}
use Rattle.clr_rules.specs.declared.place.Place.{Place}
use Rattle.clr_rules.specs.Register.{first_state}
use Rattle.clr_load.specs.TableEdits.{with_table_row, without_table_row}
use Rattle.clr_load.specs.TableText.{table_text}
use Rattle.clr_load.specs.Tables.{Tables, jumper_row, section_row, staff_row, version_row}
use Rattle.clr_load.specs.declared.table_name.TableName.{TableName}
use Rattle.clr_load.specs.declared.table_name.TableName.TheVariants.{Meta, Section, Staff}
use Rattle.clr_load.specs.declared.table_name.TableName.TheVariants.{Clearance, Step, Hold}
use Rattle.clr_load.specs.declared.table_name.TableName.TheVariants.{NetworkPoint, Journal}
use Rattle.clr_load.specs.Fault.{IsOfDatabase}
use Rattle.clr_load.specs.Inside.{RunsInside}
use Rattle.clr_load.specs.Layout.{has_table, is_two, place_in, tree_in}
use Rattle.clr_load.specs.declared.layout.Layout.{Layout}
use Rattle.clr_load.specs.declared.layout.Layout.TheVariants.{OfOne, AsMade, AsMoved}
use Rattle.clr_load.specs.declared.layout.Layout.TheVariants.{AsMadeLogged, AsMovedLogged}
use Rattle.clr_load.specs.Schema.{columns_in, keys_in, schema_of}
use Rattle.clr_load.specs.Stored.{HasRows, Holds, rows_in}
use Rattle.clr_load.specs.declared.fault.StoreFault.{StoreFault}

-- the table of the journal has the rows that it had
abbrev pub SamePlace : Layout → Database → Database → Type 0
SamePlace l before after = has_table l Journal ≡ true
    → after.trees (tree_in l Journal) ≡ before.trees (tree_in l Journal)

-- the tables of version 2 with these rows
abbrev pub tables_with : (TableName → List Row) → Tables
tables_with rows = record {
  meta = rows Meta;
  sections = rows Section;
  points = rows NetworkPoint;
  staff = rows Staff;
  clearances = rows Clearance;
  steps = rows Step;
  holds = rows Hold;
}

abbrev pub is_same : TableName → TableName → Bool
is_same name other = place_in AsMovedLogged name == place_in AsMovedLogged other

-- a change of the rows of one table, as it is for another
abbrev pub change_at : TableName → TableName → (List Row → List Row) → List Row → List Row
change_at name other change rows = if is_same name other then change rows else rows

-- the rows of version 2 with those of one table changed
abbrev pub rows_changed : TableName → (List Row → List Row) → Tables → TableName → List Row
rows_changed name change t other = change_at name other change (rows_in AsMade other t)

-- the tables of version 2 with the rows of one of them changed
abbrev pub with_rows : TableName → (List Row → List Row) → Tables → Tables
with_rows name change t = tables_with (rows_changed name change t)

-- the tables of version 2 are changed inside the transaction, and nothing is committed
pub record Changes (old new : State) (change : Tables → Tables) : Type 0 where
  pub inside : IsTrue new.in_transaction
  pub kept : KeepsCommit old new
  pub tables : (l : Layout) → is_two l ≡ true → (t : Tables) → Holds l old.now t
      → Holds l new.now (change t)
  -- the place in a journal stays as it was
  pub place : (l : Layout) → is_two l ≡ true → (t : Tables) → Holds l old.now t
      → SamePlace l old.now new.now

-- the rows of the journal's table are changed inside the transaction, where there is one, and those
-- of the register stay; nothing is committed
pub record ChangesPlace (old new : State) (change : List Row → List Row) : Type 0 where
  pub inside : IsTrue new.in_transaction
  pub kept : KeepsCommit old new
  pub places : (l : Layout) → is_two l ≡ true → (t : Tables) → Holds l old.now t
      → has_table l Journal ≡ true → (rows : List Row)
      → HasRows (columns_in Journal) (old.now.trees (tree_in l Journal)) rows
      → Holds l new.now t
      × HasRows (columns_in Journal) (new.now.trees (tree_in l Journal)) (change rows)

-- the same tables with that of the journal beside them
abbrev pub with_journal : Layout → Layout
with_journal OfOne = OfOne
with_journal AsMade = AsMadeLogged
with_journal AsMoved = AsMovedLogged
with_journal AsMadeLogged = AsMadeLogged
with_journal AsMovedLogged = AsMovedLogged

-- a table of the journal with these rows comes beside the tables of a register that has none, inside
-- the transaction, and those stay; nothing is committed
pub record AddsJournal (old new : State) (rows : List Row) : Type 0 where
  pub inside : IsTrue new.in_transaction
  pub kept : KeepsCommit old new
  pub added : (l : Layout) → is_two l ≡ true → has_table l Journal ≡ false → (t : Tables)
      → Holds l old.now t → Holds (with_journal l) new.now t
      × HasRows (columns_in Journal) (new.now.trees (tree_in (with_journal l) Journal)) rows

-- a call inside a transaction adds it, or fails
abbrev pub PutsJournal : {S X : Type 0} → Ghosts S → Transaction S → Transaction S → List Row
    → Result X StoreFault → Type 0
PutsJournal g old new rows result =
    RunsInside g old new IsOfDatabase
    (λ _. AddsJournal (state g old.conn.now) (state g new.conn.now) rows)
    (λ _. KeepsCommit (state g old.conn.now) (state g new.conn.now)) result

-- a call inside a transaction changes these rows so, or fails
abbrev pub PutsPlace : {S X : Type 0} → Ghosts S → Transaction S → Transaction S
    → (List Row → List Row) → Result X StoreFault → Type 0
PutsPlace g old new change result =
    RunsInside g old new IsOfDatabase
    (λ _. ChangesPlace (state g old.conn.now) (state g new.conn.now) change)
    (λ _. KeepsCommit (state g old.conn.now) (state g new.conn.now)) result

-- a call inside a transaction makes each of them this one and says how many there were, or fails
abbrev pub SetsRows : {S : Type 0} → Ghosts S → Transaction S → Transaction S → Row
    → Result ℕ StoreFault → Type 0
SetsRows g old new row result =
    RunsInside g old new IsOfDatabase
    (λ n. ChangesPlace (state g old.conn.now) (state g new.conn.now) (λ _. replicate n row))
    (λ _. KeepsCommit (state g old.conn.now) (state g new.conn.now)) result

-- the tables are changed inside the transaction, where there is a table of the journal, and that
-- has this place; nothing is committed
pub record ChangesAt (old new : State) (change : Tables → Tables) (place : Row) : Type 0 where
  pub inside : IsTrue new.in_transaction
  pub kept : KeepsCommit old new
  pub both : (l : Layout) → is_two l ≡ true → (t : Tables) → Holds l old.now t
      → has_table l Journal ≡ true → (rows : List Row)
      → HasRows (columns_in Journal) (old.now.trees (tree_in l Journal)) rows
      → Holds l new.now (change t)
      × HasRows (columns_in Journal) (new.now.trees (tree_in l Journal)) (place ∷ [])

-- whether a register of this schema can have this place, if one is given
abbrev pub CanSet : Schema → Option Place → Type 0
CanSet schema None = ⊤
CanSet schema (Some place) = (place.number < 2 ^ 63)
    × (table_named schema (table_text Journal) ≡ None → ⊥)

-- the tables are changed, and the place is set, if one is given; otherwise it stays
abbrev pub ChangesWith : State → State → (Tables → Tables) → Option Row → Type 0
ChangesWith old new change None = Changes old new change
ChangesWith old new change (Some place) = ChangesAt old new change place

-- a call inside a transaction does both, or fails
abbrev pub DoesWith : {S X : Type 0} → Ghosts S → Transaction S → Transaction S
    → (Tables → Tables) → Option Row → Result X StoreFault → Type 0
DoesWith g old new change place result =
    RunsInside g old new IsOfDatabase
    (λ _. ChangesWith (state g old.conn.now) (state g new.conn.now) change place)
    (λ _. KeepsCommit (state g old.conn.now) (state g new.conn.now)) result

-- A CALL INSIDE A TRANSACTION DOES THIS CHANGE, or fails; it commits nothing
abbrev pub Does : {S X : Type 0} → Ghosts S → Transaction S → Transaction S → (Tables → Tables)
    → Result X StoreFault → Type 0
Does g old new change result =
    RunsInside g old new IsOfDatabase
    (λ _. Changes (state g old.conn.now) (state g new.conn.now) change)
    (λ _. KeepsCommit (state g old.conn.now) (state g new.conn.now)) result

-- what the database has goes from one thing to another inside the transaction, its catalogue lists
-- what there is, and nothing is committed
pub record Makes (old new : State) (From To : Database → Type 0) : Type 0 where
  pub inside : IsTrue new.in_transaction
  pub kept : KeepsCommit old new
  pub makes : From old.now → To new.now
  pub sound : From old.now → IsDatabase new.now

-- a call inside a transaction sets the place, if one is given, or fails; the tables stay
abbrev pub SetsIfGiven : {S X : Type 0} → Ghosts S → Transaction S → Transaction S → Option Row
    → Result X StoreFault → Type 0
SetsIfGiven g old new None result = Does g old new (λ t. t) result
SetsIfGiven g old new (Some place) result = PutsPlace g old new (λ _. place ∷ []) result

-- a call inside a transaction takes what the database has from one thing to another, or fails
abbrev pub Reaches : {S X : Type 0} → Ghosts S → Transaction S → Transaction S
    → (Database → Type 0) → (Database → Type 0) → Result X StoreFault → Type 0
Reaches g old new From To result =
    RunsInside g old new IsOfDatabase
    (λ _. Makes (state g old.conn.now) (state g new.conn.now) From To)
    (λ _. KeepsCommit (state g old.conn.now) (state g new.conn.now)) result

-- the database has these tables of a layout alone, and they are empty
pub record HasEmpty (l : Layout) (names : List TableName) (db : Database) : Type 0 where
  pub schema : db.schema ≡ schema_of l names
  pub empty : AllByRecursion (λ name. db.trees (tree_in l name) ≡ []) names

-- rows put in front of others, one after the other
abbrev pub added : List Row → List Row → List Row
added news rows = fold (λ had row. row ∷ had) rows news

-- the rows of points before the first command
abbrev pub opening_points : List PointRow → List Row
opening_points points = map (λ p. jumper_row p (first_state p)) points

-- the tables with the rows of an opening register put in
abbrev pub filled : List SectionRow → List PointRow → List StaffRow → Tables → Tables
filled sections points staff t =
    with_rows Staff (added (map staff_row staff))
    (with_rows NetworkPoint (added (opening_points points))
    (with_rows Section (added (map section_row sections))
    (with_rows Meta (λ rows. version_row 2 ∷ rows) t)))

-- the rows of a table once the row of a key is replaced, where there were n of that key: with
-- none there is none of it as before, or the row is put
abbrev pub after_replace : ℕ → TableName → Row → List Row → List Row
after_replace zero name row rows =
    without_table_row (keys_in name) (take (keys_in name) row) rows
after_replace (suc n) name row rows = with_table_row (keys_in name) row rows

-- a call inside a transaction replaces the row of a key and says how many there were, or fails
abbrev pub Replaces : {S : Type 0} → Ghosts S → Transaction S → Transaction S → TableName → Row
    → Result ℕ StoreFault → Type 0
Replaces g old new name row result =
    RunsInside g old new IsOfDatabase
    (λ n. Changes (state g old.conn.now) (state g new.conn.now)
    (with_rows name (after_replace n name row)))
    (λ _. KeepsCommit (state g old.conn.now) (state g new.conn.now)) result

-- the tables with a row put where none has its key, or as they are
abbrev pub after_insert : Bool → TableName → Row → Tables → Tables
after_insert true name row t = with_rows name (with_table_row (keys_in name) row) t
after_insert false name row t = t

-- a call inside a transaction puts a row of a new key and says whether it did, or fails
abbrev pub Inserts : {S : Type 0} → Ghosts S → Transaction S → Transaction S → TableName → Row
    → Result Bool StoreFault → Type 0
Inserts g old new name row result =
    RunsInside g old new IsOfDatabase
    (λ is_put. Changes (state g old.conn.now) (state g new.conn.now)
    (after_insert is_put name row))
    (λ _. KeepsCommit (state g old.conn.now) (state g new.conn.now)) result
