-- WHAT A DATABASE HOLDS: the tables of a register, each row once, in any order.
use Rattle.std.specs.Prelude.{◌≡◌, ℕ, Bool, true, false, ◌&&◌, ◌==◌, length, List, [], ◌∷◌, map}
use Rattle.std.specs.Prelude.{None, Option, Some, drop, take}
use Rattle.std.specs.List.{AllByRecursion, list_all}
use Rattle.std.specs.List.Sorted.{IsPermutation}
use Rattle.sqlite.specs.Effect.{Database, IsDatabase}
use Rattle.sqlite.specs.Kind.{Kind}
use Rattle.sqlite.specs.Kind.TheVariants.{Integer, Text}
use Rattle.sqlite.specs.Order.{Row, row_cmp}
use Rattle.sqlite.specs.Schema.{Schema}
use Rattle.sqlite.specs.Tree.{Trees}
use Rattle.sqlite.specs.View.{IsShaped}
use Rattle.sqlite.specs.declared.types.Value.{Value}
use Rattle.sqlite.specs.declared.types.Value.TheVariants as value
use Rattle.sqlite_catalog.specs.Listing.{IsSound}
use Rattle.sqlite_schema.specs.declared.schema.Column.{Column}
use Rattle.sqlite_trees.specs.declared.store.Shape.TheVariants.{Table}
use Rattle.clr_shelf.specs.Rows.{in_key_order}
use Rattle.sqlite_schema.specs.Names.{table_named}
use Rattle.clr_load.specs.TableText.{table_text}
use Rattle.clr_load.specs.Tables.{Tables, version_row}
use Rattle.clr_load.specs.declared.table_name.TableName.{TableName}
use Rattle.clr_load.specs.declared.table_name.TableName.TheVariants.{Meta, Section, Point, Staff}
use Rattle.clr_load.specs.declared.table_name.TableName.TheVariants.{Clearance, Step, Hold}
use Rattle.clr_load.specs.declared.table_name.TableName.TheVariants.{NetworkPoint, Journal}
use Rattle.clr_load.specs.Layout.{AsMade, AsMadeLogged, AsMoved, AsMovedLogged, Layout, OfOne}
use Rattle.clr_load.specs.Layout.{has_rows, has_table, is_moved, is_two, tree_in, version_of}
use Rattle.clr_load.specs.Schema.{behind_meta, columns_in, keys_in, schema_in}

-- the rows of a table of the register. In version 2 `point` has none
abbrev pub rows_in : Layout → TableName → Tables → List Row
rows_in l Meta t = t.meta
rows_in l Section t = t.sections
rows_in OfOne Point t = t.points
rows_in AsMade Point t = []
rows_in AsMoved Point t = []
rows_in AsMadeLogged Point t = []
rows_in AsMovedLogged Point t = []
rows_in l Staff t = t.staff
rows_in l Clearance t = t.clearances
rows_in l Step t = t.steps
rows_in l Hold t = t.holds
rows_in l NetworkPoint t = t.points
rows_in l Journal t = []

-- whether a value is of a column's kind, or NULL
abbrev pub is_of_kind : Kind → Value → Bool
is_of_kind Integer value.Null = true
is_of_kind Integer (value.Int n) = true
is_of_kind Text value.Null = true
is_of_kind Text (value.Text text) = true
is_of_kind _ _ = false

-- whether a row has a value of its kind for each column, and no more
abbrev pub fits_columns : List Column → Row → Bool
fits_columns [] [] = true
fits_columns (c ∷ columns) (v ∷ values) = is_of_kind c.kind v && fits_columns columns values
fits_columns _ _ = false

-- whether a value is other than NULL
abbrev pub is_set : Value → Bool
is_set value.Null = false
is_set _ = true

-- whether the values are those of a key of this many columns
abbrev pub has_key : ℕ → Row → Bool
has_key keys row = (length row == keys) && list_all is_set row

-- the rows of a tree, less their numbers
abbrev pub bodies : List Row → List Row
bodies = map (drop 1)

-- a tree has these rows, in any order, under numbers of their own
pub record HasRows (columns : List Column) (tree rows : List Row) : Type 0 where
  pub same : IsPermutation rows (bodies tree)
  pub numbered : IsShaped Table tree
  pub fit : list_all (fits_columns columns) rows ≡ true

-- each list of rows is in the order of its key
abbrev pub IsInOrder : Layout → Tables → Type 0
IsInOrder l t = (name : TableName)
    → in_key_order row_cmp (take (keys_in name)) (rows_in l name t) ≡ true

-- the trees have these rows, by the name of the table
abbrev pub HasEachRow : Layout → Trees → (TableName → List Row) → Type 0
HasEachRow l trees rows = (name : TableName) → has_rows l name ≡ true
    → HasRows (columns_in name) (trees (tree_in l name)) (rows name)

-- THE TABLE OF THE JOURNAL has one row, the place of the register in it; or a layout has no such
-- table
abbrev pub HasPlaceIn : Layout → Trees → Option Row → Type 0
HasPlaceIn l trees None = has_table l Journal ≡ false
HasPlaceIn l trees (Some place) = (has_table l Journal ≡ true)
    × HasRows (columns_in Journal) (trees (tree_in l Journal)) (place ∷ [])

-- it has one row, whatever that is, if it is there
abbrev pub IsPlaced : Layout → Trees → Type 0
IsPlaced l trees = (place : Option Row) × HasPlaceIn l trees place

-- the database has the tables of a layout alone, with these rows
pub record Keeps (l : Layout) (db : Database) (told : TableName → List Row) : Type 0 where
  pub schema : db.schema ≡ schema_in l
  pub listed : IsSound (schema_in l) db.trees
  pub rows : HasEachRow l db.trees told

abbrev pub Holds : Layout → Database → Tables → Type 0
Holds l db t = Keeps l db (λ name. rows_in l name t)

-- THE DATABASE HAS A TABLE OF THE VERSION, the first of its tables, with these rows. Its other
-- tables are any, also those of another version
pub record HasMeta (db : Database) (meta : List Row) : Type 0 where
  pub others : Schema
  pub schema : db.schema ≡ behind_meta others
  pub rows : HasRows (columns_in Meta) (db.trees 0) meta
  pub in_order : in_key_order row_cmp (take (keys_in Meta)) meta ≡ true

-- THE TREES HAVE THESE TABLES, and their catalogue lists the tables of the register alone
pub record AreTables (trees : Trees) (t : Tables) : Type 0 where
  pub layout : Layout
  pub two : is_two layout ≡ true
  pub listed : IsSound (schema_in layout) trees
  pub rows : HasEachRow layout trees (λ name. rows_in layout name t)
  pub in_order : IsInOrder layout t
  pub placed : IsPlaced layout trees

-- THE TREES HAVE THIS PLACE in a journal, or have no table for one, and their catalogue lists the
-- tables of the register alone
pub record ArePlaced (trees : Trees) (place : Option Row) : Type 0 where
  pub layout : Layout
  pub two : is_two layout ≡ true
  pub listed : IsSound (schema_in layout) trees
  pub placed : HasPlaceIn layout trees place

-- THE DATABASE HAS THE TABLES OF A LAYOUT, and no others
pub record HasTablesIn (l : Layout) (db : Database) (t : Tables) : Type 0 where
  pub holds : Holds l db t
  pub in_order : IsInOrder l t
  pub placed : IsPlaced l db.trees

-- THE DATABASE HAS THESE TABLES, of version 2, and no others
pub record HasTables (db : Database) (t : Tables) : Type 0 where
  pub layout : Layout
  pub two : is_two layout ≡ true
  pub here : HasTablesIn layout db t

-- THE DATABASE IS LAID OUT AS A REGISTER of this version: its schema is one of the layouts, with no
-- other table, index, view or trigger
pub record IsLaidOut (version : ℕ) (db : Database) : Type 0 where
  pub layout : Layout
  pub version_is : version_of layout ≡ version
  pub schema : db.schema ≡ schema_in layout
  -- the `point` that a move has emptied is empty
  pub emptied : is_moved layout ≡ true → db.trees (tree_in layout Point) ≡ []
  -- the table of the journal has one row
  pub one_place : has_table layout Journal ≡ true
      → length (db.trees (tree_in layout Journal)) ≡ 1

-- the rows of each table of a layout have numbers of their own, which rise from row to row
abbrev pub AreNumbered : Layout → Trees → Type 0
AreNumbered l trees = (name : TableName) → has_table l name ≡ true
    → IsShaped Table (trees (tree_in l name))

-- EACH ROW OF A LAYOUT IS WHOLE: it has its number, and all columns of its table. A row that was
-- written before a column was added may lack it
pub record AreWhole (l : Layout) (trees : Trees) : Type 0 where
  pub numbered : AreNumbered l trees
  pub columns : (name : TableName) → has_table l name ≡ true
      → AllByRecursion (λ row. length (drop 1 row) ≡ length (columns_in name))
      (trees (tree_in l name))

-- the same of the layout that a database has, if it has one
abbrev pub HasWholeRows : Database → Type 0
HasWholeRows db = (l : Layout) → db.schema ≡ schema_in l → AreWhole l db.trees

-- AND NO OTHER ROWS: the database has tables of this version, and `meta` has its one row
pub record HasVersion (version : ℕ) (db : Database) : Type 0 where
  pub layout : Layout
  pub version_is : version_of layout ≡ version
  pub tables : Tables
  pub here : HasTablesIn layout db tables
  pub told : tables.meta ≡ version_row version ∷ []

-- the database has no table that could have the version, whatever its other tables are
abbrev pub LacksMeta : Database → Type 0
LacksMeta db = table_named db.schema (table_text Meta) ≡ None

-- THE DATABASE HAS THESE TABLES, of version 1
abbrev pub HasOldTables : Database → Tables → Type 0
HasOldTables = HasTablesIn OfOne

-- TREES THAT HAVE TABLES OPEN WITH THEM: a sound database of these trees has the tables
abbrev pub TablesOpenAgain : Type 0
TablesOpenAgain = (trees : Trees) (t : Tables) (db : Database) → AreTables trees t → IsDatabase db
    → db.trees ≡ trees → HasTables db t
