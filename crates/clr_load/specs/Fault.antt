-- Faults of the database itself.
use Rattle.std.specs.Prelude.{◌≡◌, ⊤}
use Rattle.clr_load.specs.declared.table_name.TableName.TheVariants.{Meta, Point}
use Rattle.clr_load.specs.declared.fault.StoreFault.{StoreFault}
use Rattle.clr_load.specs.declared.fault.StoreFault.TheVariants.{Sql, WrongVersion, BadRow}
use Rattle.clr_load.specs.declared.fault.StoreFault.TheVariants.{NoMemory, OtherTables}

-- the database refused or failed, or memory ran out
abbrev pub IsOfDatabase : StoreFault → Type 0
IsOfDatabase Sql = ⊤
IsOfDatabase NoMemory = ⊤
IsOfDatabase (WrongVersion n) = ⊥
IsOfDatabase (BadRow table) = ⊥
IsOfDatabase OtherTables = ⊥

-- the database refused or failed, memory ran out, or no row has the version
abbrev pub IsOfVersion : StoreFault → Type 0
IsOfVersion Sql = ⊤
IsOfVersion NoMemory = ⊤
IsOfVersion (WrongVersion n) = ⊥
IsOfVersion (BadRow table) = table ≡ Meta
IsOfVersion OtherTables = ⊥

-- the database refused or failed, memory ran out, or a point of version 1 does not read
abbrev pub IsOfPoints : StoreFault → Type 0
IsOfPoints Sql = ⊤
IsOfPoints NoMemory = ⊤
IsOfPoints (WrongVersion n) = ⊥
IsOfPoints (BadRow table) = table ≡ Point
IsOfPoints OtherTables = ⊥

-- the database refused or failed, memory ran out, or its tables are not those of a register
abbrev pub IsOfTables : StoreFault → Type 0
IsOfTables Sql = ⊤
IsOfTables NoMemory = ⊤
IsOfTables (WrongVersion n) = ⊥
IsOfTables (BadRow table) = ⊥
IsOfTables OtherTables = ⊤

-- the same, or no row has the version
abbrev pub IsOfExpected : StoreFault → Type 0
IsOfExpected Sql = ⊤
IsOfExpected NoMemory = ⊤
IsOfExpected (WrongVersion n) = ⊥
IsOfExpected (BadRow table) = table ≡ Meta
IsOfExpected OtherTables = ⊤
