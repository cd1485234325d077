-- Why a call answers `Sql` of tables that are there.
use Rattle.std.specs.Prelude.{◌≡◌, IsTrue, None, ⊤}
use Rattle.sqlite.specs.State.{State}
use Rattle.sqlite.specs.declared.error.Error.{Error}
use Rattle.sqlite.specs.declared.error.Error.TheVariants.{SqliteFailure}
use Rattle.sqlite.specs.declared.error.ErrorCode.TheVariants as code
use Rattle.sqlite_disk.specs.Disk.{MoreFaults}
use Rattle.clr_load.specs.declared.fault.StoreFault.{StoreFault}
use Rattle.clr_load.specs.declared.fault.StoreFault.TheVariants.{Sql, WrongVersion, BadRow}
use Rattle.clr_load.specs.declared.fault.StoreFault.TheVariants.{NoMemory, OtherTables}

-- the fault by which an error of the database is reported
abbrev pub fault_of : Error → StoreFault
fault_of (SqliteFailure code.OutOfMemory) = NoMemory
fault_of _ = Sql

-- the connection is open, and no statement is cut short by a limit on its steps
pub record IsAble (s : State) : Type 0 where
  pub is_open : IsTrue s.is_open
  pub unlimited : s.step_limit ≡ None

-- SQL HAS A CAUSE: of a connection that was able, it is reported only where the device failed
abbrev pub SqlHasCause : State → State → StoreFault → Type 0
SqlHasCause old new Sql = IsAble old → MoreFaults old.faults new.faults
SqlHasCause old new NoMemory = ⊤
SqlHasCause old new (WrongVersion n) = ⊤
SqlHasCause old new (BadRow table) = ⊤
SqlHasCause old new OtherTables = ⊤
