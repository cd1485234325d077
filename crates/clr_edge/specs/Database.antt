-- Registers that databases have, and faults of the databases themselves.
use Rattle.std.specs.Prelude.{◌≡◌, ◌≢◌, ◌⊎◌, ℕ, false, is_ok, IsTrue, List, Some, Ok, Err, length, pos}
use Rattle.std.specs.declared.io.ErrorKind.{ErrorKind}
use Rattle.std.specs.declared.io.ErrorKind.TheVariants.{OutOfMemory}
use Rattle.sqlite.specs.Held.{Held, state}
use Rattle.sqlite.specs.Order.{Row}
use Rattle.sqlite.specs.State.{HasCleanDisk, Survives}
use Rattle.sqlite.specs.declared.error.Error.{Error}
use Rattle.sqlite_trees.specs.declared.store.Store.{Ghosts}
use Rattle.clr_rules.specs.Fit.{IsFit}
use Rattle.clr_rules.specs.Good.{IsGood}
use Rattle.clr_rules.specs.Staffed.{IsStaffed}
use Rattle.clr_rules.specs.Register.{Register}
use Rattle.clr_load.specs.Cause.{SqlHasCause, fault_of}
use Rattle.clr_load.specs.Contract.{IsSaved, old_points}
use Rattle.clr_load.specs.Stored.{AreTables, HasMeta, HasOldTables, HasTables}
use Rattle.clr_load.specs.Schema.{no_schema}
use Rattle.clr_load.specs.Stored.{HasVersion, HasWholeRows, IsLaidOut, LacksMeta}
use Rattle.clr_load.specs.declared.fault.StoreFault.{StoreFault}
use Rattle.clr_load.specs.declared.fault.StoreFault.TheVariants.{BadRow, OtherTables, Sql}
use Rattle.clr_store.specs.Contract.{RefusesOpening, RefusesVersion}
use Rattle.clr_store.specs.Moving.{LeavesMoved, RefusesMove, RefusesToMove}
use Rattle.clr_load.specs.RowsRead.{Rows, read_version, rows_read}
use Rattle.clr_load.specs.TableEdits.{tables_moved}
use Rattle.clr_load.specs.TableLaws.{HasNoJumper}
use Rattle.clr_load.specs.Tables.{Tables, tables_by, tables_of, version_one}
use Rattle.clr_load.specs.TypedRows.{IsTyped}
use Rattle.clr_load.specs.declared.table_name.TableName.{TableName}
use Rattle.clr_book.specs.Book.{Shelved}
use Rattle.clr_edge.specs.AtFault.{table_at_fault}
use Rattle.clr_desk.specs.Opening.{IsRegisterOf, OpensAs}
use Rattle.clr_edge.specs.Fault.{database_fault, of_database, of_store}
use Rattle.clr_edge.specs.declared.fault.DatabaseFault.{DatabaseFault}
use Rattle.clr_edge.specs.declared.fault.DatabaseFault.TheVariants as database
use Rattle.clr_edge.specs.declared.fault.Fault.{Fault}
use Rattle.clr_edge.specs.declared.fault.Fault.TheVariants.{Memory, Store}

-- memory ran out, or the database refused or failed
abbrev pub IsDatabaseFault : Fault → Type 0
IsDatabaseFault fault = (cause : DatabaseFault) × (fault ≡ of_database cause)

-- memory ran out, or the database is at fault, or what it has
abbrev pub IsOfStore : Fault → Type 0
IsOfStore fault = (fault ≡ Memory) ⊎ ((cause : StoreFault) × (fault ≡ Store cause))

-- what is reported where the size of a file could not be read, for this reason
abbrev pub size_fault : ErrorKind → DatabaseFault
size_fault OutOfMemory = database.NoMemory
size_fault _ = database.Sql

-- there is no database in the file at a path: it is empty, or its size could not be read
abbrev pub HasNoBytes : (List ℕ → ℕ → Type 0) → (List ℕ → ErrorKind → Type 0) → List ℕ
    → DatabaseFault → Type 0
HasNoBytes has_size lacks_size path fault = (has_size path 0 × (fault ≡ database.Sql))
    ⊎ ((kind : ErrorKind) × lacks_size path kind × (fault ≡ size_fault kind))

-- a database was not opened, for the error that is reported
abbrev pub IsShutBy : (Error → Type 0) → DatabaseFault → Type 0
IsShutBy shut fault = (error : Error) × (fault ≡ database_fault (fault_of error)) × shut error

-- What is known of a database: it has the tables of a register that is good and staffed, whose
-- values are of their types.
pub record HasRegister {S : Type 0} (g : Ghosts S) (R : Register) (connection : Held S)
    : Type 0 where
  pub good : IsGood R
  pub staffed : IsStaffed R
  pub typed : IsTyped R
  pub tables : HasTables (state g connection).now (tables_of R)

-- a database of version 2 was read, and not changed: it has the tables of a register and nothing
-- else, and `meta` its one row; so tables are there, unless a row lacks a column. They are the same
-- where the disk is clean and the connection open, and so is what was committed last; a crash leaves
-- what it left before
pub record IsOnlyRead {S : Type 0} (g : Ghosts S) (before after : Held S) : Type 0 where
  pub has_meta : LacksMeta (state g before).now → ⊥
  pub version : HasCleanDisk (state g after) → (meta : List Row)
      → HasMeta (state g before).now meta → read_version meta ≡ Ok (pos 2)
  pub alone : HasCleanDisk (state g after) → (meta : List Row)
      → HasMeta (state g before).now meta → length meta ≡ 1
  pub laid_out : HasCleanDisk (state g after) → IsLaidOut 2 (state g before).now
  pub there : HasCleanDisk (state g after) → HasWholeRows (state g before).now
      → HasVersion 2 (state g before).now
  pub same : HasCleanDisk (state g after) → IsTrue (state g after).is_open
      → (state g after).now ≡ (state g before).now
  pub committed : HasCleanDisk (state g after) → IsTrue (state g before).is_open
      → IsTrue (state g after).is_open → before.in_transaction ≡ false
      → (state g after).committed ≡ (state g before).committed
  pub survives : Survives (state g before) (state g after) (λ _. ⊥)

-- A REGISTER IS READ FROM A DATABASE that has tables: these read as rows, and the rows give that
-- register, where the disk is clean. So of tables that give no register there is no such answer
abbrev pub ReadsAs : {S : Type 0} → Ghosts S → Held S → Held S → Register → Type 0
ReadsAs g before after R = HasCleanDisk (state g after) → (t : Tables)
    → HasTables (state g before).now t
    → (rows : Rows) × (rows_read t ≡ Ok rows) × IsRegisterOf rows R

-- a database that could not be changed has what it had, and so has its last commit, where the disk
-- is clean and the connection open. A transaction is open as it was
pub record IsAsBefore {S : Type 0} (g : Ghosts S) (before after : Held S) : Type 0 where
  pub mode : after.in_transaction ≡ before.in_transaction
  pub same : HasCleanDisk (state g after) → IsTrue (state g after).is_open
      → (state g after).now ≡ (state g before).now
  pub committed : HasCleanDisk (state g after) → IsTrue (state g before).is_open
      → IsTrue (state g after).is_open → before.in_transaction ≡ false
      → (state g after).committed ≡ (state g before).committed

-- the tables of a register were made in an empty database: where the disk is clean they
-- are there and saved, and a crash leaves them, or what it left before
pub record IsMade {S : Type 0} (g : Ghosts S) (before : Held S) (R : Register) (after : Held S)
    : Type 0 where
  pub mode : after.in_transaction ≡ before.in_transaction
  pub bare : (state g before).now.schema ≡ no_schema
  pub saved : HasCleanDisk (state g after) → IsSaved (state g after)
  pub tables : HasCleanDisk (state g after) → HasTables (state g after).now (tables_of R)
  pub survives : Survives (state g before) (state g after)
      (λ trees. AreTables trees (tables_of R))

-- they were not made
pub record IsUnmade {S : Type 0} (g : Ghosts S) (before : Held S) (R : Register) (after : Held S)
    : Type 0 where
  pub as_before : IsAsBefore g before after
  pub survives : Survives (state g before) (state g after)
      (λ trees. AreTables trees (tables_of R))

-- the fault of a register that is not good and staffed: it names the table of the first list that
-- does not fit
pub record IsOfUnfit (R : Register) (cause : StoreFault) : Type 0 where
  pub bad : IsFit R → ⊥
  pub table : TableName
  pub first : table_at_fault R ≡ Some table
  pub named : cause ≡ BadRow table

-- the rows of tables give a register, but not one that is good and staffed
abbrev pub RefusesUnfit : Tables → StoreFault → Type 0
RefusesUnfit t cause = (book : Shelved)
    × OpensAs (λ (b : Shelved). b.register) (rows_read t) (Ok book) × IsOfUnfit book.register cause

-- why tables are not opened: the database refuses them, their version does not read or is not 2,
-- `meta` has another row, their rows give no register, or one that is not good and staffed
abbrev pub RefusesTables : Tables → StoreFault → Type 0
RefusesTables t cause = RefusesOpening t cause
    ⊎ OpensAs (λ (book : Shelved). book.register) (rows_read t) (Err cause)
    ⊎ RefusesUnfit t cause

-- the fault that is reported of a database that is not opened. Of tables that are there it is
-- theirs, another version and other tables are reported as what they are, and `Sql` has a cause
pub record IsRefused {S : Type 0} (g : Ghosts S) (before : Held S) (told : Fault) (after : Held S)
    : Type 0 where
  pub fault : StoreFault
  pub told_is : told ≡ of_store fault
  pub bare : LacksMeta (state g before).now → fault ≡ Sql
  pub refuses : HasCleanDisk (state g after) → (t : Tables) → HasTables (state g before).now t
      → RefusesTables t fault
  pub version : HasCleanDisk (state g after) → before.in_transaction ≡ false → (meta : List Row)
      → HasMeta (state g before).now meta
      → (IsLaidOut 2 (state g before).now → read_version meta ≡ Ok (pos 2) → ⊥)
      → RefusesVersion (read_version meta) fault
      × SqlHasCause (state g before) (state g after) fault
  pub cause : HasCleanDisk (state g after) → before.in_transaction ≡ false → (t : Tables)
      → HasTables (state g before).now t → SqlHasCause (state g before) (state g after) fault

-- THE TABLES ARE OF VERSION 2: those of version 1, of which each point reads, were moved, and those
-- of version 2 are as before, and committed as before, where the disk is clean. A crash leaves the
-- tables that were moved, or what it left before
pub record IsMoved {S : Type 0} (g : Ghosts S) (before after : Held S) : Type 0 where
  pub has_meta : LacksMeta (state g before).now → ⊥
  pub mode : after.in_transaction ≡ before.in_transaction
  pub version : HasCleanDisk (state g after) → (meta : List Row)
      → HasMeta (state g before).now meta
      → (read_version meta ≡ Ok (pos 1)) ⊎ (read_version meta ≡ Ok (pos 2))
  pub alone : HasCleanDisk (state g after) → (meta : List Row)
      → HasMeta (state g before).now meta → length meta ≡ 1
  pub laid_out : HasCleanDisk (state g after)
      → IsLaidOut 1 (state g before).now ⊎ IsLaidOut 2 (state g before).now
  pub there : HasCleanDisk (state g after) → HasWholeRows (state g before).now
      → HasVersion 1 (state g before).now ⊎ HasVersion 2 (state g before).now
  pub moved : HasCleanDisk (state g after) → (t : Tables) → HasOldTables (state g before).now t
      → read_version t.meta ≡ Ok (pos 1)
      → IsTrue (is_ok (old_points t)) × IsSaved (state g after)
      × HasTables (state g after).now (tables_moved t)
  pub register : HasCleanDisk (state g after) → (R : Register) → HasNoJumper R
      → HasOldTables (state g before).now (tables_by version_one R)
      → HasTables (state g after).now (tables_of R)
  pub same : HasCleanDisk (state g after) → IsTrue (state g after).is_open → (meta : List Row)
      → HasMeta (state g before).now meta → read_version meta ≡ Ok (pos 2)
      → (state g after).now ≡ (state g before).now
  pub committed : HasCleanDisk (state g after) → IsTrue (state g before).is_open
      → IsTrue (state g after).is_open → before.in_transaction ≡ false → (meta : List Row)
      → HasMeta (state g before).now meta → read_version meta ≡ Ok (pos 2)
      → (state g after).committed ≡ (state g before).committed
  pub survives : Survives (state g before) (state g after) (LeavesMoved (state g before).now)

-- they were not moved. Of tables that are there the fault that is reported is theirs. `Sql` has a
-- cause where the version is another than 1, and where a point of version 1 does not read
pub record IsUnmoved {S : Type 0} (g : Ghosts S) (before : Held S) (told : Fault) (after : Held S)
    : Type 0 where
  pub fault : StoreFault
  pub told_is : told ≡ of_store fault
  pub bare : LacksMeta (state g before).now → fault ≡ Sql
  pub unread : HasCleanDisk (state g after) → (meta : List Row)
      → HasMeta (state g before).now meta → RefusesToMove (read_version meta) fault
  pub refuses : HasCleanDisk (state g after) → (t : Tables) → HasOldTables (state g before).now t
      → RefusesMove t fault
  pub other : HasCleanDisk (state g after) → fault ≡ OtherTables → (n : ℕ)
      → HasVersion n (state g before).now → ⊥
  pub cause : HasCleanDisk (state g after) → before.in_transaction ≡ false → (meta : List Row)
      → HasMeta (state g before).now meta → read_version meta ≢ Ok (pos 1)
      → SqlHasCause (state g before) (state g after) fault
  pub points_cause : HasCleanDisk (state g after) → before.in_transaction ≡ false → (t : Tables)
      → HasOldTables (state g before).now t → is_ok (old_points t) ≡ false
      → SqlHasCause (state g before) (state g after) fault
  pub as_before : IsAsBefore g before after
  pub survives : Survives (state g before) (state g after) (LeavesMoved (state g before).now)
