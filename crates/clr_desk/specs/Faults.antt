-- THE FAULTS OF A DESK, and how they are counted.
use Rattle.std.specs.Prelude.{ℕ, ◌+◌, ◌-◌, ◌^◌, min, Option, None, Some, ⊤}
use Rattle.clr_load.specs.declared.fault.StoreFault.{StoreFault}
use Rattle.clr_load.specs.declared.fault.StoreFault.TheVariants.{Sql, WrongVersion, BadRow, OtherTables}
use Rattle.clr_load.specs.declared.fault.StoreFault.TheVariants.{NoMemory as NoMemoryThere}
use Rattle.clr_desk.specs.declared.desk_fault.DeskFault.{DeskFault}
use Rattle.clr_desk.specs.declared.desk_fault.DeskFault.TheVariants.{Journal, Store, NoMemory}

-- a fault of the store; want of memory is no fault of its own
abbrev pub of_store : StoreFault → DeskFault
of_store Sql = Store Sql
of_store (WrongVersion n) = Store (WrongVersion n)
of_store (BadRow name) = Store (BadRow name)
of_store OtherTables = Store OtherTables
of_store NoMemoryThere = NoMemory

-- the count of faults after a call: one more with a fault, but for the greatest number, where it
-- stays
abbrev pub count_after : Option DeskFault → ℕ → ℕ
count_after None faults = faults
count_after (Some fault) faults = min (faults + 1) (2 ^ 64 - 1)

-- why a command is not carried out: what keeps its change answered one of these faults, or memory
-- ran out
abbrev pub IsOfKeeper : (DeskFault → Type 0) → DeskFault → Type 0
IsOfKeeper fails (Store Sql) = fails (Store Sql)
IsOfKeeper fails (Store (WrongVersion n)) = fails (Store (WrongVersion n))
IsOfKeeper fails (Store (BadRow name)) = fails (Store (BadRow name))
IsOfKeeper fails (Store OtherTables) = fails (Store OtherTables)
IsOfKeeper fails (Store NoMemoryThere) = ⊥
IsOfKeeper fails Journal = fails Journal
IsOfKeeper fails NoMemory = ⊤

-- of these a store answers one: the database refused or failed
abbrev pub FailsAsStore : DeskFault → Type 0
FailsAsStore (Store Sql) = ⊤
FailsAsStore (Store (WrongVersion n)) = ⊥
FailsAsStore (Store (BadRow name)) = ⊥
FailsAsStore (Store OtherTables) = ⊥
FailsAsStore (Store NoMemoryThere) = ⊥
FailsAsStore Journal = ⊥
FailsAsStore NoMemory = ⊥

-- the same over a store: the database refused or failed, or memory ran out
abbrev pub IsOfCommand : DeskFault → Type 0
IsOfCommand fault = IsOfKeeper FailsAsStore fault
