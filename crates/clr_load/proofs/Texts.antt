-- What the texts of the statements mean.
use Rattle.std.proofs.Common.{◌≡◌, ◌∙◌, ◌-◌, ℕ, zero, suc, List, [], ◌∷◌, ◌++◌, length, map, take}
use Rattle.std.proofs.Common.{Bool, true, false, Option, Result, ◌*◌, Ok, Err, ap, refl, subst, sym, pos, negsuc, None, arith}
use Rattle.std.specs.Prelude.{codes}
use Rattle.std.proofs.lemmas.List.{take_all}
use Rattle.sqlite.specs.declared.types.Value.TheVariants.{Null, Int}
use Rattle.sqlite.specs.Term.{Term, lit, col, op2}
use Rattle.sqlite.specs.Query.{Query, inner, end}
use Rattle.sqlite.specs.Command.{Command}
use Rattle.sqlite.specs.Compile.{table_defined_by}
use Rattle.sqlite.specs.Change.{created}
use Rattle.sqlite.specs.Source.TheVariants.{Values, Query as Queried}
use Rattle.sqlite.specs.Command.TheVariants.{Insert, Select, CreateTable, Delete, Update}
use Rattle.sqlite.specs.Listing.{listing_schema, misses_table, understood, reads_listing}
use Rattle.sqlite.specs.Schema.{Schema}
use Rattle.sqlite.specs.Table.{Table}
use Rattle.sqlite_resolve.specs.Compile.{compiled, first, planned, returning, table_in, with_command}
use Rattle.sqlite_resolve.specs.Lowering.{Checked, and_then}
use Rattle.sqlite_resolve.specs.declared.compiled.Compiled.{Compiled}
use Rattle.sqlite_resolve.specs.declared.error.CompileError.{CompileError}
use Rattle.sqlite_resolve.specs.declared.error.CompileError.TheVariants.{NoSuchTable}
use Rattle.sqlite_schema.specs.declared.command.Returning.{Returning}
use Rattle.sqlite.proofs.Callers.{IsPlain, command_of, statement_of}
use Rattle.sqlite_tied.specs.Compute.{everything}
use Rattle.sqlite_value.specs.Keys.{ascending}
use Rattle.sqlite_value.specs.declared.keys.Key.{Key}
use Rattle.sqlite.specs.Collation.TheVariants.{Binary}
use Rattle.sqlite_schema.specs.declared.schema.Column.{Column}
use Rattle.sqlite_sql.specs.declared.ops.BinaryOp.TheVariants.{Compare}
use Rattle.sqlite_sql.specs.declared.ops.CompareOp.TheVariants.{Eq}
use Rattle.clr_load.specs.declared.table_name.TableName.{TableName}
use Rattle.clr_load.specs.declared.table_name.TableName.TheVariants.{Meta, Section, Point, Staff, Clearance, Step, Hold, NetworkPoint, Journal}
use Rattle.clr_load.specs.Layout.{AsMade, AsMadeLogged, AsMoved, AsMovedLogged, Layout, OfOne, has_table, is_two, names_before, place_in, tree_in}
use Rattle.clr_load.specs.Schema.{behind_meta, no_schema, keys_in, columns_in, table_at, schema_of, schema_in}
use Rattle.clr_load.proofs.Fronts.{after, alone, before, everywhere, front, up_to}
use Rattle.clr_load.specs.Sql.{create_sql, insert_sql, delete_sql, replace_sql, select_sql, set_position_sql, set_hand_sql, copy_sql, empty_sql}

abbrev pub width_of : TableName → ℕ
width_of name = length (columns_in name)

-- the values in this many slots of a row, from one on
abbrev pub terms_from : ℕ → ℕ → ℕ → List Term
terms_from slot at zero = []
terms_from slot at (suc n) = col slot at ∷ terms_from slot (suc at) n

-- the tests of this many columns against the parameters, from one on
abbrev pub tests_from : ℕ → ℕ → List Term
tests_from at zero = []
tests_from at (suc n) = op2 (Compare Eq Binary) (col 1 (suc at)) (col 0 at) ∷ tests_from (suc at) n

abbrev pub order_from : ℕ → ℕ → List (Term × Key)
order_from at zero = []
order_from at (suc n) = (col 1 (suc at), ascending Binary) ∷ order_from (suc at) n

abbrev pub names_of_columns : List Column → List (List ℕ)
names_of_columns columns = map (λ (c : Column). c.name) columns

abbrev pub query_of : ℕ → List Term → List Term → List (Term × Key) → Query
query_of tree tests shown order = record {
  from = inner tree end;
  filter = tests;
  group = None;
  project = shown;
  distinct = false;
  collations = [];
  order = order;
  limit = lit (Int (negsuc 0));
  offset = lit (Int (pos 0));
}

-- the tests of the key
abbrev pub key_tests : TableName → List Term
key_tests name = tests_from 0 (keys_in name)

-- the rows of a key, each as its number
abbrev matching_at : ℕ → TableName → Query
matching_at at name = query_of (2 * at) (key_tests name) (col 1 0 ∷ []) []

abbrev pub matching : Layout → TableName → Query
matching l name = matching_at (place_in l name) name

-- all rows, in the order of the key
abbrev pub listing_at : ℕ → TableName → Query
listing_at at name =
    query_of (2 * at) [] (terms_from 1 1 (width_of name)) (order_from 0 (keys_in name))

abbrev pub listing : Layout → TableName → Query
listing l name = listing_at (place_in l name) name

abbrev pub insert_terms : TableName → List Term
insert_terms name = lit Null ∷ terms_from 0 0 (width_of name)

-- ---- what each text is compiled to: the one place where it is read
abbrev pub numbered : ℕ → List (List ℕ)
numbered given = take given (codes "?1" ∷ codes "?2" ∷ codes "?3" ∷ codes "?4" ∷ codes "?5"
    ∷ codes "?6" ∷ codes "?7" ∷ codes "?8" ∷ codes "?9" ∷ [])

-- a command that is all of its text, with this many parameters, and no RETURNING or time
abbrev pub all_of : List ℕ → ℕ → Command → Compiled
all_of sql given command = record {
  command = command;
  returning = None;
  names = numbered given;
  formats = [];
  start = 0;
  end = length sql;
  tail = length sql;
}

abbrev inserting_at : ℕ → TableName → Command
inserting_at at name = Insert at (Values (insert_terms name) (suc (width_of name)))

abbrev pub inserting : Layout → TableName → Command
inserting l name = inserting_at (place_in l name) name

abbrev deleting_at : ℕ → TableName → Command
deleting_at at name = Delete at (record { lets = []; body = matching_at at name })

abbrev pub deleting : Layout → TableName → Command
deleting l name = deleting_at (place_in l name) name

-- the rows of a key, each with its number, as they are to be: every column is a parameter
abbrev replaced_at : ℕ → TableName → Query
replaced_at at name = query_of (2 * at) (key_tests name)
    (col 1 0 ∷ col 1 0 ∷ terms_from 0 0 (width_of name)) []

abbrev pub replaced : Layout → TableName → Query
replaced l name = replaced_at (place_in l name) name

abbrev replacing_at : ℕ → TableName → Command
replacing_at at name = Update at (record { lets = []; body = replaced_at at name })

abbrev pub replacing : Layout → TableName → Command
replacing l name = replacing_at (place_in l name) name

abbrev pub selecting_at : ℕ → TableName → Command
selecting_at at name =
    Select (record { lets = []; body = listing_at at name }) (names_of_columns (columns_in name))

abbrev pub selecting : Layout → TableName → Command
selecting l name = selecting_at (place_in l name) name

-- a text is parsed once, and several things are made of it: each of them is as it would be made alone
part : {A X B : Type 0} (r : Checked A) (all : A → X) (made : X) (one : X → Checked B) → and_then r (λ a. Ok (all a)) ≡ Ok made
    → and_then r (λ a. one (all a)) ≡ one made
part (Ok a) all made one is =
    let same : made ≡ all a = cc in
    ap one (sym same)
part (Err e) all made one is = absurd cc

abbrev Compiles : Schema → List ℕ → ℕ → Command → Type 0
Compiles schema sql given command = compiled schema sql ≡ Ok (all_of sql given command)

insert_at : (name : TableName) (made : Bool) (others : Schema)
    → Compiles (front (up_to name made) others) (insert_sql name) (width_of name) (inserting_at (length (before name made)) name)
unfolding everything
insert_at Meta made others = refl
insert_at Section made others = refl
insert_at Point made others = refl
insert_at Staff true others = refl
insert_at Staff false others = refl
insert_at Clearance true others = refl
insert_at Clearance false others = refl
insert_at Step true others = refl
insert_at Step false others = refl
insert_at Hold true others = refl
insert_at Hold false others = refl
insert_at NetworkPoint true others = refl
insert_at NetworkPoint false others = refl
insert_at Journal true others = refl
insert_at Journal false others = refl

insert_reads : (l : Layout) (name : TableName) → has_table l name ≡ true
    → Compiles (schema_in l) (insert_sql name) (width_of name) (inserting l name)
insert_reads = everywhere (λ name at under with all. Compiles all (insert_sql name) (width_of name) (inserting_at at name)) insert_at

delete_at : (name : TableName) (made : Bool) (others : Schema)
    → Compiles (front (up_to name made) others) (delete_sql name) (keys_in name) (deleting_at (length (before name made)) name)
unfolding everything
delete_at Meta made others = refl
delete_at Section made others = refl
delete_at Point made others = refl
delete_at Staff true others = refl
delete_at Staff false others = refl
delete_at Clearance true others = refl
delete_at Clearance false others = refl
delete_at Step true others = refl
delete_at Step false others = refl
delete_at Hold true others = refl
delete_at Hold false others = refl
delete_at NetworkPoint true others = refl
delete_at NetworkPoint false others = refl
delete_at Journal true others = refl
delete_at Journal false others = refl

delete_reads : (l : Layout) (name : TableName) → has_table l name ≡ true
    → Compiles (schema_in l) (delete_sql name) (keys_in name) (deleting l name)
delete_reads = everywhere (λ name at under with all. Compiles all (delete_sql name) (keys_in name) (deleting_at at name)) delete_at

replace_at : (name : TableName) (made : Bool) (others : Schema)
    → Compiles (front (up_to name made) others) (replace_sql name) (width_of name) (replacing_at (length (before name made)) name)
unfolding everything
replace_at Meta made others = refl
replace_at Section made others = refl
replace_at Point made others = refl
replace_at Staff true others = refl
replace_at Staff false others = refl
replace_at Clearance true others = refl
replace_at Clearance false others = refl
replace_at Step true others = refl
replace_at Step false others = refl
replace_at Hold true others = refl
replace_at Hold false others = refl
replace_at NetworkPoint true others = refl
replace_at NetworkPoint false others = refl
replace_at Journal true others = refl
replace_at Journal false others = refl

replace_reads : (l : Layout) (name : TableName) → has_table l name ≡ true
    → Compiles (schema_in l) (replace_sql name) (width_of name) (replacing l name)
replace_reads = everywhere (λ name at under with all. Compiles all (replace_sql name) (width_of name) (replacing_at at name)) replace_at

abbrev select_over : TableName → Bool → Result Compiled CompileError
select_over name made = Ok (all_of (select_sql name) 0 (selecting_at (length (before name made)) name))

-- a listing has no RETURNING, lists nothing where there is no table, and all rows of one that is there
select_parts : (name : TableName) (schema : Schema) (base : ℕ) (others : Schema)
    → and_then {B = Checked (Option Returning) × ((Checked Compiled × Checked Compiled) × (Checked Compiled × Checked Compiled))} (first (select_sql name)) (λ p. Ok (
      returning schema base p.statement,
      (
        (and_then (planned no_schema p) (λ plan. Ok (with_command p plan)), and_then (planned listing_schema p) (λ plan. Ok (with_command p plan))),
        (and_then (planned (front (up_to name true) others) p) (λ plan. Ok (with_command p plan)), and_then (planned (front (up_to name false) others) p) (λ plan. Ok (with_command p plan))),
      ),
    ))
    ≡ Ok (Ok None, ((Err NoSuchTable, Err NoSuchTable), (select_over name true, select_over name false)))
unfolding everything listing_schema
select_parts Meta schema base others = refl
select_parts Section schema base others = refl
select_parts Point schema base others = refl
select_parts Staff schema base others = refl
select_parts Clearance schema base others = refl
select_parts Step schema base others = refl
select_parts Hold schema base others = refl
select_parts NetworkPoint schema base others = refl
select_parts Journal schema base others = refl

pub select_returns : (name : TableName) (schema : Schema) (base : ℕ)
    → and_then (first (select_sql name)) (λ p. returning schema base p.statement) ≡ Ok None
select_returns name schema base = part (first (select_sql name)) _ _ (λ them. them.0) (select_parts name schema base schema)

select_at : (name : TableName) (made : Bool) (others : Schema)
    → Compiles (front (up_to name made) others) (select_sql name) 0 (selecting_at (length (before name made)) name)
unfolding compiled
select_at name true others = part (first (select_sql name)) _ _ (λ them. them.1.1.0) (select_parts name others 0 others)
select_at name false others = part (first (select_sql name)) _ _ (λ them. them.1.1.1) (select_parts name others 0 others)

select_reads : (l : Layout) (name : TableName) → has_table l name ≡ true
    → Compiles (schema_in l) (select_sql name) 0 (selecting l name)
select_reads = everywhere (λ name at under with all. Compiles all (select_sql name) 0 (selecting_at at name)) select_at

-- the version is read whatever tables there are after the one that has it
meta_reads : (others : Schema)
    → Compiles (behind_meta others) (select_sql Meta) 0 (selecting OfOne Meta)
meta_reads = select_at Meta true

-- no table is listed where there is none
select_missing : (name : TableName) → (compiled no_schema (select_sql name) ≡ Err NoSuchTable) × (compiled listing_schema (select_sql name) ≡ Err NoSuchTable)
unfolding compiled
select_missing name =
    let parts = select_parts name no_schema 0 no_schema in
    (part (first (select_sql name)) _ _ (λ them. them.1.0.0) parts, part (first (select_sql name)) _ _ (λ them. them.1.0.1) parts)

pub select_unknown : (name : TableName) → understood no_schema (select_sql name) ≡ Err NoSuchTable
unfolding understood
select_unknown name =
    let missing = select_missing name in
    rw (missing.0, missing.1) refl

-- the table that it defines, and the command that it is over tables without it
create_parts : (name : TableName) → and_then {B = Checked Table × (Checked Compiled × Checked Compiled)} (first (create_sql name)) (λ p.
    Ok (table_in p.formats p.statement, (and_then (planned (alone (before name true)) p) (λ plan. Ok (with_command p plan)), and_then (planned (alone (before name false)) p) (λ plan. Ok (with_command p plan)))))
    ≡ Ok (Ok (table_at 0 name), (Ok (all_of (create_sql name) 0 CreateTable), Ok (all_of (create_sql name) 0 CreateTable)))
unfolding everything
create_parts Meta = refl
create_parts Section = refl
create_parts Point = refl
create_parts Staff = refl
create_parts Clearance = refl
create_parts Step = refl
create_parts Hold = refl
create_parts NetworkPoint = refl
create_parts Journal = refl

create_at : (name : TableName) (made : Bool) → Compiles (alone (before name made)) (create_sql name) 0 CreateTable
unfolding compiled
create_at name true = part (first (create_sql name)) _ _ (λ them. them.1.0) (create_parts name)
create_at name false = part (first (create_sql name)) _ _ (λ them. them.1.1) (create_parts name)

pub defines : (name : TableName) → table_defined_by (create_sql name) ≡ Ok (table_at 0 name)
unfolding table_defined_by
defines name = part (first (create_sql name)) _ _ (λ them. them.0) (create_parts name)

create_reads : (l : Layout) (name : TableName) → has_table l name ≡ true
    → Compiles (schema_of l (names_before l name)) (create_sql name) 0 CreateTable
create_reads =
    everywhere (λ name at under with all. Compiles under (create_sql name) 0 CreateTable) (λ name made others. create_at name made)

created_at : (name : TableName) (made : Bool) → created (alone (before name made)) (table_at 0 name) ≡ alone (up_to name made)
unfolding everything
created_at Meta made = refl
created_at Section made = refl
created_at Point made = refl
created_at Staff true = refl
created_at Staff false = refl
created_at Clearance true = refl
created_at Clearance false = refl
created_at Step true = refl
created_at Step false = refl
created_at Hold true = refl
created_at Hold false = refl
created_at NetworkPoint true = refl
created_at NetworkPoint false = refl
created_at Journal true = refl
created_at Journal false = refl

pub created_is : (l : Layout) (name : TableName) → has_table l name ≡ true
    → created (schema_of l (names_before l name)) (table_at 0 name)
    ≡ schema_of l (names_before l name ++ name ∷ [])
created_is = everywhere (λ name at under with all. created under (table_at 0 name) ≡ with) (λ name made others. created_at name made)

-- the row of a point, with its number, as it is to be
abbrev changing_at : ℕ → List Term → Query
changing_at at terms =
    query_of (2 * at) (key_tests NetworkPoint) (col 1 0 ∷ col 1 0 ∷ terms) []

abbrev pub changing : Layout → List Term → Query
changing l terms = changing_at (place_in l NetworkPoint) terms

abbrev pub position_terms : List Term
position_terms = terms_from 1 1 5 ++ col 0 1 ∷ terms_from 1 7 3

abbrev pub hand_terms : List Term
hand_terms = terms_from 1 1 6 ++ col 0 1 ∷ col 0 2 ∷ terms_from 1 9 1

abbrev updating_at : ℕ → List Term → Command
updating_at at terms = Update at (record { lets = []; body = changing_at at terms })

abbrev pub updating : Layout → List Term → Command
updating l terms = updating_at (place_in l NetworkPoint) terms

set_position_at : (made : Bool) (others : Schema)
    → Compiles (front (up_to NetworkPoint made) others) set_position_sql 2 (updating_at (length (before NetworkPoint made)) position_terms)
unfolding everything
set_position_at true others = refl
set_position_at false others = refl

set_position_reads : (l : Layout) → is_two l ≡ true
    → Compiles (schema_in l) set_position_sql 2 (updating l position_terms)
set_position_reads OfOne two = absurd cc
set_position_reads AsMade two = set_position_at true (after AsMade NetworkPoint)
set_position_reads AsMoved two = set_position_at false (after AsMoved NetworkPoint)
set_position_reads AsMadeLogged two = set_position_at true (after AsMadeLogged NetworkPoint)
set_position_reads AsMovedLogged two = set_position_at false (after AsMovedLogged NetworkPoint)

set_hand_at : (made : Bool) (others : Schema)
    → Compiles (front (up_to NetworkPoint made) others) set_hand_sql 3 (updating_at (length (before NetworkPoint made)) hand_terms)
unfolding everything
set_hand_at true others = refl
set_hand_at false others = refl

set_hand_reads : (l : Layout) → is_two l ≡ true
    → Compiles (schema_in l) set_hand_sql 3 (updating l hand_terms)
set_hand_reads OfOne two = absurd cc
set_hand_reads AsMade two = set_hand_at true (after AsMade NetworkPoint)
set_hand_reads AsMoved two = set_hand_at false (after AsMoved NetworkPoint)
set_hand_reads AsMadeLogged two = set_hand_at true (after AsMadeLogged NetworkPoint)
set_hand_reads AsMovedLogged two = set_hand_at false (after AsMovedLogged NetworkPoint)

-- ---- version 1 moved to version 2
-- the rows of version 1, each with its own columns, and 0 after them
abbrev pub copied : Query
copied =
    record (query_of (tree_in AsMoved Point) [] (lit Null ∷ terms_from 1 1 8 ++ lit (Int (pos 0)) ∷ []) []) {
      collations = Binary ∷ Binary ∷ Binary ∷ Binary ∷ Binary ∷ Binary ∷ Binary ∷ Binary ∷ Binary ∷ Binary ∷ [];
    }

abbrev pub copying : Command
copying = Insert (place_in AsMoved NetworkPoint) (Queried (record { lets = []; body = copied }))

copy_reads : Compiles (schema_in AsMoved) copy_sql 0 copying
unfolding everything
copy_reads = refl

-- all rows of version 1, each as its number
abbrev pub emptied : Query
emptied = query_of (tree_in AsMoved Point) [] (col 1 0 ∷ []) []

abbrev pub emptying : Command
emptying = Delete (place_in AsMoved Point) (record { lets = []; body = emptied })

empty_reads : Compiles (schema_in AsMoved) empty_sql 0 emptying
unfolding everything
empty_reads = refl

-- ---- what follows of a text that is compiled
-- the text is this command, without RETURNING or time
pub record IsRead (schema : Schema) (sql : List ℕ) (command : Command) : Type 0 where
  pub is : command_of (understood schema sql) ≡ command
  pub plain : IsPlain (understood schema sql)

understood_as : (schema : Schema) (sql : List ℕ) (c : Compiled) → compiled schema sql ≡ Ok c
    → understood schema sql ≡ Ok c
unfolding understood
understood_as schema sql c is = rw is refl

read_as : (schema : Schema) (sql : List ℕ) (given : ℕ) (command : Command)
    → Compiles schema sql given command → IsRead schema sql command
read_as schema sql given command is =
    let known = understood_as schema sql (all_of sql given command) is in
    record { is = ap command_of known; plain = subst IsPlain (sym known) (refl, refl) }

pub insert_is : (l : Layout) (name : TableName) → has_table l name ≡ true
    → IsRead (schema_in l) (insert_sql name) (inserting l name)
insert_is l name has = read_as _ _ (width_of name) _ (insert_reads l name has)

pub delete_is : (l : Layout) (name : TableName) → has_table l name ≡ true
    → IsRead (schema_in l) (delete_sql name) (deleting l name)
delete_is l name has = read_as _ _ (keys_in name) _ (delete_reads l name has)

pub replace_is : (l : Layout) (name : TableName) → has_table l name ≡ true
    → IsRead (schema_in l) (replace_sql name) (replacing l name)
replace_is l name has = read_as _ _ (width_of name) _ (replace_reads l name has)

pub select_is : (l : Layout) (name : TableName) → has_table l name ≡ true
    → IsRead (schema_in l) (select_sql name) (selecting l name)
select_is l name has = read_as _ _ 0 _ (select_reads l name has)

pub meta_is : (others : Schema)
    → IsRead (behind_meta others) (select_sql Meta) (selecting OfOne Meta)
meta_is others = read_as _ _ 0 _ (meta_reads others)

pub create_is : (l : Layout) (name : TableName) → has_table l name ≡ true
    → IsRead (schema_of l (names_before l name)) (create_sql name) CreateTable
create_is l name has = read_as _ _ 0 _ (create_reads l name has)

pub set_position_is : (l : Layout) → is_two l ≡ true
    → IsRead (schema_in l) set_position_sql (updating l position_terms)
set_position_is l two = read_as _ _ 2 _ (set_position_reads l two)

pub set_hand_is : (l : Layout) → is_two l ≡ true
    → IsRead (schema_in l) set_hand_sql (updating l hand_terms)
set_hand_is l two = read_as _ _ 3 _ (set_hand_reads l two)

pub copy_is : IsRead (schema_in AsMoved) copy_sql copying
copy_is = read_as _ _ 0 _ copy_reads

pub empty_is : IsRead (schema_in AsMoved) empty_sql emptying
empty_is = read_as _ _ 0 _ empty_reads

-- the rows that are listed are those of the database itself
pub select_known : (l : Layout) (name : TableName) → has_table l name ≡ true
    → understood (schema_in l) (select_sql name) ≡ Ok (all_of (select_sql name) 0 (selecting l name))
select_known l name has = understood_as _ _ _ (select_reads l name has)

pub meta_known : (others : Schema) → understood (behind_meta others) (select_sql Meta)
    ≡ Ok (all_of (select_sql Meta) 0 (selecting OfOne Meta))
meta_known others = understood_as _ _ _ (meta_reads others)

pub select_unlisted : (l : Layout) (name : TableName) → has_table l name ≡ true
    → reads_listing (schema_in l) (select_sql name) ≡ false
select_unlisted l name has = ap misses_table (select_reads l name has)

pub meta_unlisted : (others : Schema) → reads_listing (behind_meta others) (select_sql Meta) ≡ false
meta_unlisted others = ap misses_table (meta_reads others)

pub create_text : (l : Layout) (name : TableName) → has_table l name ≡ true
    → statement_of (create_sql name)
    (understood (schema_of l (names_before l name)) (create_sql name)) ≡ create_sql name
create_text l name has =
    ap (statement_of (create_sql name)) (understood_as _ _ _ (create_reads l name has))
    ∙ take_all (length (create_sql name) - 0) (create_sql name) (omega arith)
