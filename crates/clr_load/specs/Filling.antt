-- WHAT ROWS ARE READ INTO, and what was loaded of tables.
use Rattle.std.specs.Prelude.{◌≡◌, List, Result, Ok, Err, ⊤}
use Rattle.clr_rules.specs.declared.hold.Hold.{Hold}
use Rattle.clr_rules.specs.declared.record.Record.{Record}
use Rattle.clr_rules.specs.declared.step_row.StepRow.{StepRow}
use Rattle.clr_load.specs.RowsRead.{Rows}
use Rattle.clr_load.specs.declared.table_name.TableName.{TableName}
use Rattle.clr_load.specs.declared.fault.StoreFault.{StoreFault}
use Rattle.clr_load.specs.declared.fault.StoreFault.TheVariants.{Sql, WrongVersion, BadRow}
use Rattle.clr_load.specs.declared.fault.StoreFault.TheVariants.{NoMemory, OtherTables}
use Rattle.clr_load.specs.declared.rows.Loaded.{Loaded}

-- what was read into has, as `has` says, the value that is read, unless the database refuses, memory
-- runs out, or a table has a row that does not read
abbrev pub GivesInto : {A X : Type 0} → (X → A → Type 0) → Result A TableName
    → Result X StoreFault → Type 0
GivesInto {A} has read (Ok x) = (value : A) × (read ≡ Ok value) × has x value
GivesInto has read (Err (BadRow table)) = read ≡ Err table
GivesInto has read (Err (WrongVersion n)) = ⊥
GivesInto has read (Err Sql) = ⊤
GivesInto has read (Err NoMemory) = ⊤
GivesInto has read (Err OtherTables) = ⊥

-- what was loaded has these rows
pub record IsLoaded {C T H : Type 0} (records : C → List Record → Type 0)
    (steps : T → List StepRow → Type 0) (holds : H → List Hold → Type 0) (loaded : Loaded C T H)
    (rows : Rows) : Type 0 where
  pub version : loaded.version ≡ rows.version
  pub sections : loaded.sections.items ≡ rows.sections
  pub points : loaded.points.items ≡ rows.points
  pub states : loaded.states.items ≡ rows.states
  pub staff : loaded.staff.items ≡ rows.staff
  pub records_are : records loaded.records rows.records
  pub steps_are : steps loaded.steps rows.steps
  pub holds_are : holds loaded.holds rows.holds
