-- The tables of the register, as a database lists them.
use Rattle.std.specs.Prelude.{ℕ, zero, suc, ◌+◌, true, false, Bool, List, [], ◌∷◌, ◌++◌, None, codes, map}
use Rattle.std.specs.List.{flat_map}
use Rattle.sqlite.specs.Change.{automatics}
use Rattle.sqlite.specs.Collation.TheVariants.{Binary}
use Rattle.sqlite.specs.Kind.{Kind}
use Rattle.sqlite.specs.Kind.TheVariants.{Integer, Text}
use Rattle.sqlite.specs.Schema.{Schema}
use Rattle.sqlite.specs.Table.{Table}
use Rattle.sqlite.specs.declared.types.Value.TheVariants.{Null}
use Rattle.sqlite_schema.specs.declared.schema.Column.{Column}
use Rattle.sqlite_schema.specs.declared.schema.Index.{Index}
use Rattle.sqlite_value.specs.Keys.{plain}
use Rattle.clr_load.specs.TableText.{table_text}
use Rattle.clr_load.specs.declared.table_name.TableName.{TableName}
use Rattle.clr_load.specs.declared.table_name.TableName.TheVariants.{Meta, Section, Point, Staff}
use Rattle.clr_load.specs.declared.table_name.TableName.TheVariants.{Clearance, Step, Hold}
use Rattle.clr_load.specs.declared.table_name.TableName.TheVariants.{NetworkPoint, Journal}
use Rattle.clr_load.specs.Layout.{Layout, names_in, tree_in}

-- a column of a STRICT table that has to have a value, and one that may be NULL
abbrev pub column_of : Bool → List ℕ → Kind → Column
column_of not_null name kind =
    record {
      name = name;
      kind = kind;
      is_strict = true;
      not_null = not_null;
      default =
          Null;
      collation = Binary;
    }

abbrev pub needed : List ℕ → Kind → Column
needed = column_of true

abbrev pub or_null : List ℕ → Kind → Column
or_null = column_of false

-- how many of its columns, the first, are its key
abbrev pub keys_in : TableName → ℕ
keys_in Meta = 1
keys_in Section = 1
keys_in Point = 1
keys_in Staff = 1
keys_in Clearance = 2
keys_in Step = 4
keys_in Hold = 4
keys_in NetworkPoint = 1
keys_in Journal = 1

-- the columns of a point, and more after them
abbrev pub point_columns : List Column → List Column
point_columns more =
    needed (codes "name") Text ∷ needed (codes "from_end") Text ∷ needed (codes "to_end") Text
    ∷ needed (codes "lockable") Integer
    ∷ needed (codes "remote") Integer ∷ needed (codes "position") Integer
    ∷ or_null (codes "hand_requester") Text
    ∷ or_null (codes "hand_number") Integer ∷ more

abbrev pub columns_in : TableName → List Column
columns_in Meta = needed (codes "name") Text ∷ needed (codes "value") Integer ∷ []
columns_in Section = needed (codes "name") Text ∷ needed (codes "source") Integer ∷ []
columns_in Point = point_columns []
columns_in Staff = needed (codes "name") Text ∷ needed (codes "role") Text
    ∷ or_null (codes "supervisor") Text ∷ []
columns_in Clearance =
    needed (codes "requester") Text ∷ needed (codes "number") Integer ∷ needed (codes "holder") Text
    ∷ or_null (codes "work") Text
    ∷ needed (codes "phase") Text ∷ needed (codes "last_at") Integer ∷ []
columns_in Step =
    needed (codes "requester") Text ∷ needed (codes "number") Integer
    ∷ needed (codes "round") Integer ∷ needed (codes "ordinal") Integer
    ∷ needed (codes "action") Text ∷ needed (codes "point") Text ∷ needed (codes "state") Text
    ∷ or_null (codes "reader") Text ∷ []
columns_in Hold =
    needed (codes "kind") Text ∷ needed (codes "place") Text ∷ needed (codes "requester") Text
    ∷ needed (codes "number") Integer ∷ []
columns_in NetworkPoint = point_columns (needed (codes "jumper") Integer ∷ [])
columns_in Journal =
    needed (codes "id") Text ∷ needed (codes "number") Integer ∷ needed (codes "sum") Text ∷ []

-- the first columns, which a database counts from 1
abbrev pub first_columns : ℕ → ℕ → List ℕ
first_columns from zero = []
first_columns from (suc n) = from ∷ first_columns (suc from) n

-- a table whose rows lie in a tree
abbrev pub table_at : ℕ → TableName → Table
table_at tree name = record {
  name = table_text name;
  tree = tree;
  columns = columns_in name;
  key = None;
  primary = first_columns 1 (keys_in name);
  uniques = first_columns 1 (keys_in name) ∷ [];
  orders = plain ∷ [];
  checks = [];
  references = [];
  computed = [];
  stamps = record { places = []; terms = []; formats = [] };
  is_counted = false;
}

-- the index of its key, in the tree after it
abbrev pub indexes_at : ℕ → TableName → List Index
indexes_at tree name =
    automatics (table_at tree name) 0 (tree + 1) (first_columns 1 (keys_in name) ∷ [])

abbrev pub table_in : Layout → TableName → Table
table_in l name = table_at (tree_in l name) name

-- a schema of these tables alone, with the indexes of their keys
abbrev pub schema_of : Layout → List TableName → Schema
schema_of l names = record {
  tables = map (table_in l) names;
  indexes = flat_map (λ name. indexes_at (tree_in l name) name) names;
  views = [];
}

-- a schema without a table
abbrev pub no_schema : Schema
no_schema = record { tables = []; indexes = []; views = [] }

-- the schema of a register
abbrev pub schema_in : Layout → Schema
schema_in l = schema_of l (names_in l)

-- a schema whose first table is the one that has the version, whatever else is in it
abbrev pub behind_meta : Schema → Schema
behind_meta others = record {
  tables = table_at 0 Meta ∷ others.tables;
  indexes = indexes_at 0 Meta ++ others.indexes;
  views = others.views;
}
