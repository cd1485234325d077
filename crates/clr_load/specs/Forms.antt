-- The tables of the register as a schema has them, each at its place among those of a layout.
use Rattle.std.specs.Prelude.{ℕ, ◌+◌, List, [], ◌∷◌, None, codes, false}
use Rattle.sqlite.specs.Table.{Table}
use Rattle.sqlite_catalog.specs.Listing.{automatic}
use Rattle.sqlite_schema.specs.declared.schema.Column.{Column}
use Rattle.sqlite_schema.specs.declared.schema.Index.{Index}
use Rattle.sqlite_value.specs.Keys.{plain}
use Rattle.clr_load.specs.declared.table_name.TableName.{TableName}
use Rattle.clr_load.specs.declared.table_name.TableName.TheVariants.{Meta, Section, Point, Staff}
use Rattle.clr_load.specs.declared.table_name.TableName.TheVariants.{Clearance, Step, Hold}
use Rattle.clr_load.specs.declared.table_name.TableName.TheVariants.{NetworkPoint, Journal}
use Rattle.clr_load.specs.Layout.{Layout, tree_in}
use Rattle.clr_load.specs.Schema.{column_of, first_columns, keys_in, table_at}
use Rattle.clr_load.specs.declared.column_forms.ColumnForm.{ColumnForm}

-- what a form says of a column
abbrev pub column_by : ColumnForm → Column
column_by form = column_of form.not_null form.name.now form.kind

-- a table of these columns, with this key and no other rule
abbrev pub table_with : List ℕ → ℕ → List Column → List ℕ → Table
table_with name tree columns key = record {
  name = name;
  tree = tree;
  columns = columns;
  key = None;
  primary = key;
  uniques = key ∷ [];
  orders = plain ∷ [];
  checks = [];
  references = [];
  computed = [];
  stamps = record { places = []; terms = []; formats = [] };
  is_counted = false;
}

-- the index of a table's key, in the tree after that of the table
abbrev pub index_at : ℕ → TableName → Index
index_at tree name =
    automatic (table_at tree name) 0 (first_columns 1 (keys_in name)) (tree + 1)

abbrev pub index_in : Layout → TableName → Index
index_in l name = index_at (tree_in l name) name

-- the name of that index
abbrev pub index_text : TableName → List ℕ
index_text Meta = codes "sqlite_autoindex_meta_1"
index_text Section = codes "sqlite_autoindex_section_1"
index_text Point = codes "sqlite_autoindex_point_1"
index_text Staff = codes "sqlite_autoindex_staff_1"
index_text Clearance = codes "sqlite_autoindex_clearance_1"
index_text Step = codes "sqlite_autoindex_step_1"
index_text Hold = codes "sqlite_autoindex_hold_1"
index_text NetworkPoint = codes "sqlite_autoindex_network_point_1"
index_text Journal = codes "sqlite_autoindex_journal_1"
