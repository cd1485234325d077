-- Where the tables of a register are in a database that opens.
use Rattle.std.specs.Prelude.{◌≡◌, ℕ, List}
use Rattle.std.specs.List.{AllByRecursion}
use Rattle.sqlite.specs.Effect.{Database, IsDatabase}
use Rattle.sqlite.specs.Files.{IsOpened, file_state}
use Rattle.sqlite.specs.Held.{Held}
use Rattle.sqlite.specs.Order.{Row}
use Rattle.sqlite.specs.Schema.{Schema}
use Rattle.sqlite_disk.specs.declared.Disk as disk
use Rattle.sqlite_store.specs.declared.store.FileStore.{FileStore}
use Rattle.sqlite_trees.specs.View.{IsShaped}
use Rattle.sqlite_trees.specs.declared.store.Shape.TheVariants.{Table}
use Rattle.clr_load.specs.Tables.{Tables}
use Rattle.clr_load.specs.declared.layout.Layout.{Layout}
use Rattle.clr_load.specs.Schema.{behind_meta, schema_in}
use Rattle.clr_load.specs.Stored.{AreNumbered, HasMeta, HasTablesIn, HasWholeRows, IsLaidOut}

-- A DATABASE THAT IS LAID OUT AS A REGISTER HAS TABLES, if its rows are whole. So what is said of
-- each tables that a database has is said of some
abbrev pub TablesAreThere : Type 0
TablesAreThere = (version : ℕ) (db : Database) (laid : IsLaidOut version db) → IsDatabase db
    → HasWholeRows db → (t : Tables) × HasTablesIn laid.layout db t

-- A DATABASE WHOSE FIRST TABLE IS `meta` HAS ITS ROWS, whatever its other tables are, if their
-- numbers rise. It has no column that may be NULL, so no row lacks one
abbrev pub MetaIsThere : Type 0
MetaIsThere = (db : Database) (others : Schema) → db.schema ≡ behind_meta others → IsDatabase db
    → IsShaped Table (db.trees 0) → (meta : List Row) × HasMeta db meta

-- IN FILES EACH ROW HAS ITS NUMBER, in each table of a database that was opened in files
abbrev pub FilesRise : {D : Type 0} → disk.Ghosts D → Type 0
FilesRise {D} g = (c : Held (FileStore D g)) → IsOpened c
    → AllByRecursion (λ t. IsShaped Table ((file_state c).now.trees t.tree))
    (file_state c).now.schema.tables

-- so of a register in files, rows may lack columns and nothing else
abbrev pub FilesAreNumbered : {D : Type 0} → disk.Ghosts D → Type 0
FilesAreNumbered {D} g = (c : Held (FileStore D g)) → IsOpened c → (l : Layout)
    → (file_state c).now.schema ≡ schema_in l → AreNumbered l (file_state c).now.trees
