-- TABLES OF VERSION 1 with the register of JONES/1, row by row, and how they are filled and moved.
use Rattle.std.specs.Prelude.{◌≡◌, ℕ, List, [], ◌∷◌, ◌++◌, codes, IsTrue}
use Rattle.std.specs.Prelude.{if◌then◌else◌}
use Rattle.std.specs.Prelude.{Result, Ok, Err, String, string_bytes}
use Rattle.std.specs.declared.alloc.Global.{Global}
use Rattle.sqlite.specs.Effect.{Database}
use Rattle.sqlite.specs.Held.{Held, state}
use Rattle.sqlite.specs.Order.{Row}
use Rattle.sqlite.specs.State.{KeepsCommit, State}
use Rattle.sqlite.specs.Store.{Ghosts}
use Rattle.sqlite.specs.declared.transaction.Transaction.{Transaction}
use Rattle.sqlite.specs.declared.types.Value.TheVariants.{Null, Text}
use Rattle.clr_examples.specs.Worked.{BOSS, DALE, G, H, JONES, KIM, L1, L2, L3, OPS, REED, S1, S2}
use Rattle.clr_examples.specs.Worked.{S3, S4, T1}
use Rattle.clr_load.specs.Tables.{Tables, number_value, tables_by, tables_of, version_one}
use Rattle.clr_load.specs.declared.table_name.TableName.{TableName}
use Rattle.clr_load.specs.declared.table_name.TableName.TheVariants.{Meta, Section, Point, Staff}
use Rattle.clr_load.specs.declared.table_name.TableName.TheVariants.{Clearance, Step, Hold}
use Rattle.clr_load.specs.Fault.{IsOfDatabase}
use Rattle.clr_load.specs.Inside.{RunsInside}
use Rattle.clr_load.specs.Stored.{HasOldTables, HasTables, Keeps}
use Rattle.clr_load.specs.declared.fault.StoreFault.{StoreFault}
use Rattle.clr_load.specs.declared.layout.Layout.TheVariants.{OfOne}
use Rattle.clr_store.specs.Change.{is_same}
use Rattle.clr_edge.specs.Database.{IsDatabaseFault}
use Rattle.clr_edge.specs.Visit.{Closed, Ending, Opening, Visits}
use Rattle.clr_edge.specs.declared.fault.Fault.{Fault}
use Rattle.clr_commands.specs.Migrate.{version_line}
use Rattle.clr_known.specs.Known.{jones_register}

-- ---- the rows

-- a section, and whether it is a source: 1 for yes, 0 for no
abbrev pub section_in_one : List ℕ → ℕ → Row
section_in_one name source = Text name ∷ number_value source ∷ []

-- a point in nobody's hand: its name, its ends, whether it can be locked and controlled, and whether
-- it is closed
abbrev pub point_in_one : List ℕ → List ℕ → List ℕ → ℕ → ℕ → ℕ → Row
point_in_one name from_end to_end lockable remote closed =
    Text name ∷ Text from_end ∷ Text to_end ∷ number_value lockable ∷ number_value remote
    ∷ number_value closed ∷ Null ∷ Null ∷ []

-- an employee without a supervisor
abbrev pub employee_in_one : List ℕ → List ℕ → Row
employee_in_one name role = Text name ∷ Text role ∷ Null ∷ []

abbrev pub jones_in_one : Row
jones_in_one = Text JONES ∷ Text (codes "charge") ∷ Text BOSS ∷ []

-- a step of the first round of JONES/1 that waits, and the one that is done
abbrev pub waiting_in_one : ℕ → List ℕ → List ℕ → Row
waiting_in_one ordinal action point =
    Text JONES ∷ number_value 1 ∷ number_value 1 ∷ number_value ordinal ∷ Text action ∷ Text point
    ∷ Text (codes "Waiting") ∷ Null ∷ []

abbrev pub done_in_one : Row
done_in_one =
    Text JONES ∷ number_value 1 ∷ number_value 1 ∷ number_value 1 ∷ Text (codes "Open") ∷ Text S2
    ∷ Text (codes "Done") ∷ Text REED ∷ []

-- the tables of the worked network after the first step of JONES/1
abbrev pub first_step_tables : Tables
first_step_tables = record {
  meta = (Text (codes "version") ∷ number_value 1 ∷ []) ∷ [];
  sections =
      section_in_one G 1 ∷ section_in_one H 1 ∷ section_in_one L1 0
      ∷ section_in_one L2 0
      ∷ section_in_one L3 0 ∷ [];
  points =
      point_in_one S1 G L1 1 0 1 ∷ point_in_one S2 L1 L2 1 0 0
      ∷ point_in_one S3 L2 L3 1 0 1
      ∷ point_in_one S4 L3 H 1 1 1
      ∷ point_in_one T1 L1 L3 0 0 0 ∷ [];
  staff =
      employee_in_one BOSS (codes "charge") ∷ employee_in_one DALE (codes "field") ∷ jones_in_one
      ∷ employee_in_one KIM (codes "charge") ∷ employee_in_one OPS (codes "operator")
      ∷ employee_in_one REED (codes "field") ∷ [];
  clearances =
      (Text JONES ∷ number_value 1 ∷ Text JONES ∷ Text L2 ∷ Text (codes "Ordered") ∷ number_value 104 ∷ [])
      ∷ [];
  steps =
      done_in_one ∷ waiting_in_one 2 (codes "Open") S3
      ∷ waiting_in_one 3 (codes "Block") S2 ∷ waiting_in_one 4 (codes "Block") S3
      ∷ waiting_in_one 5 (codes "Tag") S2 ∷ waiting_in_one 6 (codes "Tag") S3 ∷ [];
  holds = (Text (codes "HeldOpen") ∷ Text S2 ∷ Text JONES ∷ number_value 1 ∷ []) ∷ [];
}

-- ---- how they are filled

-- a row more, after those of its table
abbrev pub with_one : TableName → Row → (TableName → List Row) → TableName → List Row
with_one name row had other = if is_same name other then had other ++ row ∷ [] else had other

-- these, one after the other
abbrev pub with_all : TableName → List Row → (TableName → List Row) → TableName → List Row
with_all name [] had = had
with_all name (row ∷ rows) had = with_all name rows (with_one name row had)

-- all rows of these tables
abbrev pub with_tables : Tables → (TableName → List Row) → TableName → List Row
with_tables t had =
    with_all Hold t.holds (with_all Step t.steps (with_all Clearance t.clearances
    (with_all Staff t.staff (with_all Point t.points
    (with_all Section t.sections (with_all Meta t.meta had))))))

-- the rows of version 1 are changed inside the transaction, and nothing is committed
pub record Fills (old new : State) (change : (TableName → List Row) → TableName → List Row)
    : Type 0 where
  pub inside : IsTrue new.in_transaction
  pub kept : KeepsCommit old new
  pub rows : (had : TableName → List Row) → Keeps OfOne old.now had → Keeps OfOne new.now (change had)

-- a call inside a transaction changes the rows so, or fails
abbrev pub FillsBy : {S X : Type 0} → Ghosts S → Transaction S → Transaction S
    → ((TableName → List Row) → TableName → List Row) → Result X StoreFault → Type 0
FillsBy g old new change result =
    RunsInside g old new IsOfDatabase
    (λ _. Fills (state g old.conn.now) (state g new.conn.now) change)
    (λ _. KeepsCommit (state g old.conn.now) (state g new.conn.now)) result

-- ---- how they are moved

-- the database has the register of JONES/1 in tables of version 1
abbrev pub HasOldJones : Database → Type 0
HasOldJones db = HasOldTables db (tables_by version_one jones_register)

-- each database that a machine opens has it
abbrev pub KnowsOldJones : {M T : Type 0} → Ghosts T → Opening M T → Type 0
KnowsOldJones {M} {T} g opens = (old new : M) (path : List ℕ) (c : Held T) → opens old path c new
    → HasOldJones (state g c).now

-- WHAT `migrate` DOES TO IT: it prints the version, and leaves the register in tables of version 2;
-- or memory ran out, or the database failed
abbrev pub MovesJones : {M T : Type 0} → Ghosts T → Opening M T → Ending M T → List ℕ
    → Result (String Global) Fault → M → M → Type 0
MovesJones {M} g opens ends path (Ok text) old new = (string_bytes text ≡ version_line)
    × Visits opens ends path (λ (middle : M) before after (closed : Closed) (later : M).
    HasTables (state g after).now (tables_of jones_register)) old new
MovesJones g opens ends path (Err fault) old new = IsDatabaseFault fault
