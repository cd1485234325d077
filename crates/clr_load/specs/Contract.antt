-- What a call that reads promises.
use Rattle.std.specs.Prelude.{◌≡◌, ◌≤◌, ℕ, ℤ, pos, IsTrue, List, Result, Ok, Err, ⊤}
use Rattle.sqlite.specs.State.{State}
use Rattle.clr_rules.specs.Register.{Register}
use Rattle.clr_load.specs.RowsRead.{PointRead, Rows, all_read, read_placed, rows_of}
use Rattle.clr_load.specs.Tables.{Tables}
use Rattle.clr_load.specs.declared.table_name.TableName.{TableName}
use Rattle.clr_load.specs.declared.table_name.TableName.TheVariants.{Point}
use Rattle.clr_load.specs.Fault.{IsOfDatabase}
use Rattle.clr_load.specs.declared.fault.StoreFault.{StoreFault}
use Rattle.clr_load.specs.declared.fault.StoreFault.TheVariants.{Sql, WrongVersion, BadRow}
use Rattle.clr_load.specs.declared.fault.StoreFault.TheVariants.{NoMemory, OtherTables}
use Rattle.clr_load.specs.declared.rows.Rows.{Rows as Loaded}

-- the connection is open, and what it shows is committed
abbrev pub IsSaved : State → Type 0
IsSaved s = IsTrue s.is_open × (s.committed ≡ s.now)

-- a call gives what is read, as `view` shows it, or the table with the row that does not read,
-- unless the database refuses or memory runs out
abbrev pub Gives : {A X : Type 0} → (X → A) → Result A TableName → Result X StoreFault → Type 0
Gives view read (Ok value) = read ≡ Ok (view value)
Gives view read (Err (BadRow table)) = read ≡ Err table
Gives view read (Err (WrongVersion n)) = ⊥
Gives view read (Err Sql) = ⊤
Gives view read (Err NoMemory) = ⊤
Gives view read (Err OtherTables) = ⊥

-- the same of rows that lie in memory, where no database is asked
abbrev pub Yields : {A X : Type 0} → (X → A) → Result A TableName → Result X StoreFault → Type 0
Yields view read (Ok value) = read ≡ Ok (view value)
Yields view read (Err (BadRow table)) = read ≡ Err table
Yields view read (Err (WrongVersion n)) = ⊥
Yields view read (Err Sql) = ⊥
Yields view read (Err NoMemory) = ⊤
Yields view read (Err OtherTables) = ⊥

-- what a database gives, where the value shows as itself
abbrev pub Tells : {A : Type 0} → Result A TableName → Result A StoreFault → Type 0
Tells read result = Gives (λ value. value) read result

-- the same of a version, which is looked for from one version on: where that is found, the tables may
-- be others
abbrev pub TellsVersion : ℕ → Result ℤ TableName → Result ℤ StoreFault → Type 0
TellsVersion oldest read (Ok version) = read ≡ Ok version
TellsVersion oldest read (Err (BadRow table)) = read ≡ Err table
TellsVersion oldest read (Err (WrongVersion n)) = ⊥
TellsVersion oldest read (Err Sql) = ⊤
TellsVersion oldest read (Err NoMemory) = ⊤
TellsVersion oldest read (Err OtherTables) =
    (n : ℕ) × (read ≡ Ok (pos n)) × (oldest ≤ n) × (n ≤ 2)

-- the rows that were loaded
abbrev pub rows_told : Loaded → Rows
rows_told rows = record {
  version = rows.version;
  sections = rows.sections.items;
  points = rows.points.items;
  states = rows.states.items;
  staff = rows.staff.items;
  records = rows.records.items;
  steps = rows.steps.items;
  holds = rows.holds.items;
}

-- the rows that the tables read as are given, or the first table with a row that does not read
abbrev pub GivesRows : Result Rows TableName → Result Loaded StoreFault → Type 0
GivesRows read result = Gives rows_told read result

-- the rows of a register are given, unless the database refuses or memory runs out
abbrev pub GivesBack : Register → Result Loaded StoreFault → Type 0
GivesBack R (Ok rows) = rows_told rows ≡ rows_of R
GivesBack R (Err fault) = IsOfDatabase fault

-- what the points of version 1 read as
abbrev pub old_points : Tables → Result (List PointRead) TableName
old_points t = all_read (read_placed Point) t.points

-- why the points are not read: the database refused or failed, memory ran out, or a row does not
-- read
abbrev pub RefusesPoints : Result (List PointRead) TableName → StoreFault → Type 0
RefusesPoints read Sql = ⊤
RefusesPoints read NoMemory = ⊤
RefusesPoints read (BadRow table) = read ≡ Err table
RefusesPoints read (WrongVersion n) = ⊥
RefusesPoints read OtherTables = ⊥
