-- What the store promises.
use Rattle.std.specs.Prelude.{◌≡◌, ◌≢◌, ℤ, pos, [], ◌∷◌, Some, Result, Ok, Err, ⊤}
use Rattle.sqlite.specs.Order.{Row}
use Rattle.sqlite.specs.Tree.{Trees}
use Rattle.clr_load.specs.RowsRead.{read_version}
use Rattle.clr_load.specs.Tables.{Tables, version_row}
use Rattle.clr_load.specs.declared.table_name.TableName.{TableName}
use Rattle.clr_load.specs.declared.table_name.TableName.TheVariants.{Meta}
use Rattle.clr_load.specs.Stored.{ArePlaced, AreTables}
use Rattle.clr_load.specs.declared.fault.StoreFault.{StoreFault}
use Rattle.clr_load.specs.declared.fault.StoreFault.TheVariants.{Sql, WrongVersion, BadRow}
use Rattle.clr_load.specs.declared.fault.StoreFault.TheVariants.{NoMemory, OtherTables}

-- the trees have the tables and this place
abbrev pub AreTablesAt : Tables → Row → Trees → Type 0
AreTablesAt t place trees = AreTables trees t × ArePlaced trees (Some place)

-- why a database is not opened: the version does not read, or it is not 2, or it is 2 and the tables
-- are not those of a register
abbrev pub RefusesVersion : Result ℤ TableName → StoreFault → Type 0
RefusesVersion read Sql = ⊤
RefusesVersion read NoMemory = ⊤
RefusesVersion read (BadRow table) = read ≡ Err table
RefusesVersion read (WrongVersion n) = (read ≡ Ok n) × (n ≢ pos 2)
RefusesVersion read OtherTables = read ≡ Ok (pos 2)

-- why tables of version 2 that are there are not opened: so far the same, and they are those of a
-- register unless `meta` has another row
abbrev pub RefusesOpening : Tables → StoreFault → Type 0
RefusesOpening t Sql = ⊤
RefusesOpening t NoMemory = ⊤
RefusesOpening t (BadRow table) = read_version t.meta ≡ Err table
RefusesOpening t (WrongVersion n) = (read_version t.meta ≡ Ok n) × (n ≢ pos 2)
RefusesOpening t OtherTables = t.meta ≢ version_row 2 ∷ []

-- why a database is not opened, whatever it has: it refused or failed, memory ran out, no row
-- has the version, the version is not 2, or the tables are not those of a register
abbrev pub IsOfOpening : StoreFault → Type 0
IsOfOpening Sql = ⊤
IsOfOpening NoMemory = ⊤
IsOfOpening (BadRow table) = table ≡ Meta
IsOfOpening (WrongVersion n) = n ≢ pos 2
IsOfOpening OtherTables = ⊤
