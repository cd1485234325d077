-- How a version that was read is reported.
use Rattle.std.proofs.Common.{◌≡◌, ◌∙◌, ◌≤◌, ◌⊎◌, inl, inr, ℕ, zero, suc, arith, Err, Ok, pos, ap, Result, List, Option, Some, None, sym, subst, ℤ}
use Rattle.std.specs.Prelude.{find, IfErr}
use Rattle.sqlite.specs.Effect.{Database}
use Rattle.sqlite.specs.Order.{Row, column}
use Rattle.sqlite.specs.Schema.{Schema}
use Rattle.sqlite_schema.specs.Names.{same_name, table_named}
use Rattle.clr_load.specs.TableText.{table_text}
use Rattle.clr_load.specs.Stored.{HasMeta, LacksMeta}
use Rattle.sqlite.specs.declared.types.Value.{Value}
use Rattle.sqlite.specs.declared.types.Value.TheVariants.{Null, Int, Real, Text, Blob}
use Rattle.clr_load.specs.RowsRead.{integer_of, is_version_name, read_version, version_if_there}
use Rattle.clr_load.specs.declared.table_name.TableName.TheVariants.{Meta}
use Rattle.clr_load.specs.Fault.{IsOfDatabase, IsOfExpected, IsOfTables, IsOfVersion}
use Rattle.clr_load.specs.declared.table_name.TableName.{TableName}
use Rattle.clr_load.specs.Contract.{Tells, TellsVersion}
use Rattle.clr_load.specs.declared.fault.StoreFault.{StoreFault}
use Rattle.clr_load.specs.declared.fault.StoreFault.TheVariants.{BadRow, NoMemory, OtherTables, Sql, WrongVersion}

pub tells_fault : (read : Result ℤ TableName) (told : Result ℤ StoreFault) (table : TableName) → read ≡ Err table → told ≡ Err (BadRow table) → Tells read told
tells_fault read told table is e = subst (Tells read) (sym e) is

-- the row that has no version is one of meta
pub of_meta : (rows : List Row) (table : TableName) → read_version rows ≡ Err table → table ≡ Meta
unfolding read_version
of_meta rows table h = of_row (find (λ row. is_version_name (column row 0)) rows) h
  where
    of_value : (v : Value) → integer_of v ≡ Err table → table ≡ Meta
    of_value (Int n) e = absurd cc
    of_value Null e = cc
    of_value (Real x) e = cc
    of_value (Text t) e = cc
    of_value (Blob b) e = cc

    of_row : (row : Option Row) → version_if_there row ≡ Err table → table ≡ Meta
    of_row None e = cc
    of_row (Some row) e = of_value (column row 1) e

pub told_of_meta : (told : Result ℤ StoreFault) (table : TableName) → table ≡ Meta → told ≡ Err (BadRow table) → IfErr told IsOfVersion
told_of_meta told table is e = subst (λ (r : Result ℤ StoreFault). IfErr r IsOfVersion) (sym e) is

-- a database whose first table is the one that has the version does not lack it
pub meta_is_there : (db : Database) (meta : List Row) → HasMeta db meta → LacksMeta db → ⊥
unfolding same_name
meta_is_there db meta has lacks = let none = sym (ap (λ (s : Schema). table_named s (table_text Meta)) has.schema) ∙ lacks in absurd cc

-- ---- a version that is looked for from one on
pub tells_version : (oldest : ℕ) (read : Result ℤ TableName) (told : Result ℤ StoreFault) → Tells read told → TellsVersion oldest read told
tells_version oldest read (Ok v) h = h
tells_version oldest read (Err Sql) h = tt
tells_version oldest read (Err NoMemory) h = tt
tells_version oldest read (Err (BadRow table)) h = h
tells_version oldest read (Err (WrongVersion n)) h = absurd h
tells_version oldest read (Err OtherTables) h = absurd h

pub tells_tables : (oldest n : ℕ) (read : Result ℤ TableName) (fault : StoreFault) → IsOfTables fault → read ≡ Ok (pos n) → oldest ≤ n → n ≤ 2 → TellsVersion oldest read (Err fault)
tells_tables oldest n read Sql of is low high = tt
tells_tables oldest n read NoMemory of is low high = tt
tells_tables oldest n read (BadRow table) of is low high = absurd of
tells_tables oldest n read (WrongVersion m) of is low high = absurd of
tells_tables oldest n read OtherTables of is low high = (n, is, low, high)

pub expected_version : (fault : StoreFault) → IsOfVersion fault → IsOfExpected fault
expected_version Sql of = tt
expected_version NoMemory of = tt
expected_version (BadRow table) of = of
expected_version (WrongVersion n) of = absurd of
expected_version OtherTables of = absurd of

pub expected_tables : (fault : StoreFault) → IsOfTables fault → IsOfExpected fault
expected_tables Sql of = tt
expected_tables NoMemory of = tt
expected_tables (BadRow table) of = absurd of
expected_tables (WrongVersion n) of = absurd of
expected_tables OtherTables of = tt

pub tables_of_database : (fault : StoreFault) → IsOfDatabase fault → IsOfTables fault
tables_of_database Sql of = tt
tables_of_database NoMemory of = tt
tables_of_database (BadRow table) of = absurd of
tables_of_database (WrongVersion n) of = absurd of
tables_of_database OtherTables of = absurd of

-- the database does not say that the tables are others
pub not_other : (fault : StoreFault) → IsOfDatabase fault → fault ≡ OtherTables → ⊥
not_other Sql of is = absurd cc
not_other NoMemory of is = absurd cc
not_other (BadRow table) of is = absurd of
not_other (WrongVersion n) of is = absurd of
not_other OtherTables of is = of

-- so what holds unless the database is at fault holds of other tables
pub surely : (P : Type 0) (fault : StoreFault) → fault ≡ OtherTables → P ⊎ IsOfDatabase fault → P
surely P fault is (inl here) = here
surely P fault is (inr of) = absurd (not_other fault of is)

pub version_not_other : (fault : StoreFault) → IsOfVersion fault → fault ≡ OtherTables → ⊥
version_not_other Sql of is = absurd cc
version_not_other NoMemory of is = absurd cc
version_not_other (BadRow table) of is = absurd cc
version_not_other (WrongVersion n) of is = absurd of
version_not_other OtherTables of is = of

-- a version that is neither has no layout
pub between : (v : ℤ) → (v ≡ pos 1 → ⊥) → (v ≡ pos 2 → ⊥) → (n : ℕ) → v ≡ pos n → 1 ≤ n → n ≤ 2 → ⊥
between v one two zero is low high = omega (arith, low)
between v one two (suc zero) is low high = one is
between v one two (suc (suc zero)) is low high = two is
between v one two (suc (suc (suc n))) is low high = omega (arith, high)
