-- The tables of a register up to one of them. What is true of these, whatever tables come after them, is true of it.
use Rattle.std.proofs.Common.{◌≡◌, ℕ, suc, Bool, true, false, if◌then◌else◌, List, [], ◌∷◌, ◌++◌, length}
use Rattle.std.specs.Prelude.{drop}
use Rattle.sqlite.specs.Schema.{Schema}
use Rattle.sqlite.specs.Table.{Table}
use Rattle.sqlite_schema.specs.declared.schema.Index.{Index}
use Rattle.clr_load.specs.declared.table_name.TableName.{TableName}
use Rattle.clr_load.specs.declared.table_name.TableName.TheVariants.{Meta, Section, Point, Staff, Clearance, Step, Hold, NetworkPoint, Journal}
use Rattle.clr_load.specs.Layout.{AsMade, AsMadeLogged, AsMoved, AsMovedLogged, Layout, OfOne, has_table, names_before, names_in, place_in}
use Rattle.clr_load.specs.Schema.{indexes_at, no_schema, schema_in, schema_of, table_at}

-- the first tables: the points are those of a network if the database was made so
abbrev first_three : Bool → List TableName
first_three made = Meta ∷ Section ∷ (if made then NetworkPoint else Point) ∷ []

-- the tables before one
abbrev pub before : TableName → Bool → List TableName
before Meta made = []
before Section made = Meta ∷ []
before Point made = Meta ∷ Section ∷ []
before Staff made = first_three made
before Clearance made = first_three made ++ Staff ∷ []
before Step made = first_three made ++ Staff ∷ Clearance ∷ []
before Hold made = first_three made ++ Staff ∷ Clearance ∷ Step ∷ []
before NetworkPoint true = Meta ∷ Section ∷ []
before NetworkPoint false = first_three false ++ Staff ∷ Clearance ∷ Step ∷ Hold ∷ []
before Journal true = first_three true ++ Staff ∷ Clearance ∷ Step ∷ Hold ∷ []
before Journal false = first_three false ++ Staff ∷ Clearance ∷ Step ∷ Hold ∷ NetworkPoint ∷ []

abbrev tables_from : ℕ → List TableName → List Table → List Table
tables_from tree [] others = others
tables_from tree (name ∷ names) others = table_at tree name ∷ tables_from (suc (suc tree)) names others

abbrev indexes_from : ℕ → List TableName → List Index → List Index
indexes_from tree [] others = others
indexes_from tree (name ∷ names) others = indexes_at tree name ++ indexes_from (suc (suc tree)) names others

-- these tables, and others after them
abbrev pub front : List TableName → Schema → Schema
front names others = record {
  tables = tables_from 0 names others.tables;
  indexes = indexes_from 0 names others.indexes;
  views = others.views;
}

abbrev pub alone : List TableName → Schema
alone names = front names no_schema

abbrev pub up_to : TableName → Bool → List TableName
up_to name made = before name made ++ name ∷ []

-- what comes after a table
abbrev pub after : Layout → TableName → Schema
after l name = schema_of l (drop (suc (place_in l name)) (names_in l))

-- said of a table, its place, the tables before it, these and it, and all
module _ (P : TableName → ℕ → Schema → Schema → Schema → Type 0)
    (at : (name : TableName) (made : Bool) (others : Schema) → P name (length (before name made)) (alone (before name made)) (alone (up_to name made)) (front (up_to name made) others)) where
  pub everywhere : (l : Layout) (name : TableName) → has_table l name ≡ true
      → P name (place_in l name) (schema_of l (names_before l name)) (schema_of l (names_before l name ++ name ∷ [])) (schema_in l)
  everywhere OfOne Meta has = at Meta false (after OfOne Meta)
  everywhere AsMade Meta has = at Meta true (after AsMade Meta)
  everywhere AsMoved Meta has = at Meta false (after AsMoved Meta)
  everywhere AsMadeLogged Meta has = at Meta true (after AsMadeLogged Meta)
  everywhere AsMovedLogged Meta has = at Meta false (after AsMovedLogged Meta)
  everywhere OfOne Section has = at Section false (after OfOne Section)
  everywhere AsMade Section has = at Section true (after AsMade Section)
  everywhere AsMoved Section has = at Section false (after AsMoved Section)
  everywhere AsMadeLogged Section has = at Section true (after AsMadeLogged Section)
  everywhere AsMovedLogged Section has = at Section false (after AsMovedLogged Section)
  everywhere OfOne Point has = at Point false (after OfOne Point)
  everywhere AsMade Point has = absurd cc
  everywhere AsMoved Point has = at Point false (after AsMoved Point)
  everywhere AsMadeLogged Point has = absurd cc
  everywhere AsMovedLogged Point has = at Point false (after AsMovedLogged Point)
  everywhere OfOne Staff has = at Staff false (after OfOne Staff)
  everywhere AsMade Staff has = at Staff true (after AsMade Staff)
  everywhere AsMoved Staff has = at Staff false (after AsMoved Staff)
  everywhere AsMadeLogged Staff has = at Staff true (after AsMadeLogged Staff)
  everywhere AsMovedLogged Staff has = at Staff false (after AsMovedLogged Staff)
  everywhere OfOne Clearance has = at Clearance false (after OfOne Clearance)
  everywhere AsMade Clearance has = at Clearance true (after AsMade Clearance)
  everywhere AsMoved Clearance has = at Clearance false (after AsMoved Clearance)
  everywhere AsMadeLogged Clearance has = at Clearance true (after AsMadeLogged Clearance)
  everywhere AsMovedLogged Clearance has = at Clearance false (after AsMovedLogged Clearance)
  everywhere OfOne Step has = at Step false (after OfOne Step)
  everywhere AsMade Step has = at Step true (after AsMade Step)
  everywhere AsMoved Step has = at Step false (after AsMoved Step)
  everywhere AsMadeLogged Step has = at Step true (after AsMadeLogged Step)
  everywhere AsMovedLogged Step has = at Step false (after AsMovedLogged Step)
  everywhere OfOne Hold has = at Hold false (after OfOne Hold)
  everywhere AsMade Hold has = at Hold true (after AsMade Hold)
  everywhere AsMoved Hold has = at Hold false (after AsMoved Hold)
  everywhere AsMadeLogged Hold has = at Hold true (after AsMadeLogged Hold)
  everywhere AsMovedLogged Hold has = at Hold false (after AsMovedLogged Hold)
  everywhere OfOne NetworkPoint has = absurd cc
  everywhere AsMade NetworkPoint has = at NetworkPoint true (after AsMade NetworkPoint)
  everywhere AsMoved NetworkPoint has = at NetworkPoint false (after AsMoved NetworkPoint)
  everywhere AsMadeLogged NetworkPoint has = at NetworkPoint true (after AsMadeLogged NetworkPoint)
  everywhere AsMovedLogged NetworkPoint has = at NetworkPoint false (after AsMovedLogged NetworkPoint)
  everywhere OfOne Journal has = absurd cc
  everywhere AsMade Journal has = absurd cc
  everywhere AsMoved Journal has = absurd cc
  everywhere AsMadeLogged Journal has = at Journal true (after AsMadeLogged Journal)
  everywhere AsMovedLogged Journal has = at Journal false (after AsMovedLogged Journal)
