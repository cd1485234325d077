-- What INSERT and DELETE make of the trees, whatever the table.
use Rattle.std.proofs.Common.{◌≡◌, ◌≢◌, ◌⊎◌, inl, inr, ℕ, suc, ◌/◌, List, [], ◌∷◌, ◌++◌, map, length, Bool, true, false, cond, not, ◌&&◌, Option, None, Ok, Err, refl, sym, ap, subst, ◌∙◌, append-nil}
use Rattle.std.specs.Prelude.{filter}
use Rattle.std.specs.List.{AllByRecursion, filter_map, flat_map, list_all}
use Rattle.std.specs.List.Sorted.{IsPermutation}
use Rattle.std.proofs.lemmas.List.Sorted.{IsPermutation-map}
use Rattle.sqlite.specs.Cast.{cast_row}
use Rattle.sqlite.specs.Collation.{Collation}
use Rattle.sqlite.specs.Command.TheVariants.{Delete}
use Rattle.sqlite.specs.Does.{Tally, Does, AtPlace, OnRows}
use Rattle.sqlite.specs.Edit.{edit_of, put_all, are_fresh, is_taken, next_rowid, numbered}
use Rattle.sqlite.specs.Effect.{Database, value_rows}
use Rattle.sqlite.specs.Listing.{understood}
use Rattle.sqlite.specs.Order.{Row}
use Rattle.sqlite.specs.Program.{overlay}
use Rattle.sqlite.specs.Query.{Query, IsAnswer, Output, output}
use Rattle.sqlite.specs.Rowids.TheVariants.{Chosen, Given}
use Rattle.sqlite.specs.Rows.{Written, Task}
use Rattle.sqlite.specs.State.{State, mode_of, Executes}
use Rattle.sqlite.specs.Term.{Env, Term, col, eval_all, holds}
use Rattle.sqlite.specs.Tree.{Trees, put_row, rowid}
use Rattle.sqlite.specs.declared.types.Value.TheVariants.{Null, Int}
use Rattle.sqlite.proofs.Callers.{statement_of, runs_as, one_step}
use Rattle.sqlite_catalog.specs.Listing.{IsSound}
use Rattle.sqlite_rules.specs.Calls.{ids_of}
use Rattle.sqlite_rules.specs.Action.{Writes, work_for}
use Rattle.sqlite_rules.specs.Edit.{Applies, Edit, id_in, taken_by}
use Rattle.sqlite_schema.specs.Rules.{passes}
use Rattle.sqlite_schema.specs.declared.schema.Constraint.TheVariants.{ForeignKey, Unique}
use Rattle.sqlite_schema.specs.declared.schema.Keys.{Keys}
use Rattle.sqlite_schema.specs.declared.schema.Reference.{Reference}
use Rattle.sqlite_schema.specs.declared.schema.Table.{Table}
use Rattle.sqlite_trees.proofs.ListLemmas.{map-map}
use Rattle.sqlite_trees.specs.View.{IsShaped}
use Rattle.sqlite_trees.specs.declared.store.Shape.TheVariants as Shape
use Rattle.clr_load.specs.declared.table_name.TableName.{TableName}
use Rattle.clr_load.specs.declared.table_name.TableName.TheVariants.{Meta, Section, Point, Staff, Clearance, Step, Hold, NetworkPoint, Journal}
use Rattle.clr_load.specs.Layout.{has_table, names_in, place_in, tree_in}
use Rattle.clr_load.specs.declared.layout.Layout.{Layout}
use Rattle.clr_load.specs.Schema.{columns_in, schema_in, table_in}
use Rattle.clr_load.specs.Sql.{insert_sql, delete_sql}
use Rattle.clr_load.specs.Stored.{fits_columns}
use Rattle.clr_load.proofs.Columns.{cast_fits, cast_number, fits_length, values_all, values_from}
use Rattle.clr_store.proofs.RowLemmas.{removed}
use Rattle.clr_load.proofs.AllRead.{same_value}
use Rattle.clr_load.proofs.Loading.{laid}
use Rattle.clr_load.proofs.Texts.{IsRead, delete_is, insert_is, insert_terms, inserting, key_tests, query_of, width_of}
use Rattle.clr_store.proofs.Layouts.{all_at, at_place, others_stay}

-- a part that gave a value did not stop on the way
pub went : {B E R : Type 0} {b : B} {Stops : E → Type 0} → ((stop : E) × Stops stop × (Ok b ≡ Err stop)) ⊎ R → R
went (inl stopped) = absurd (let e = stopped.2 in cc)
went (inr on) = on

-- no table refers to another, so a write is its one step
no_works : {W : Type 0} (l : Layout) (work : Table → Reference → Option W) (names : List TableName)
    → flat_map (λ child. filter_map (work child) child.references) (map (table_in l) names) ≡ []
no_works l work [] = refl
no_works l work (name ∷ names) = no_works l work names

pub one_write : (l : Layout) (keys : Keys) (db next : Trees) (edit : Edit) → Writes (schema_in l) keys db edit (Ok next) → Applies (schema_in l) keys db edit next
one_write l keys db next edit =
    one_step (schema_in l) keys db next edit (no_works l (work_for (schema_in l) keys 0 edit.table.tree (taken_by db edit) edit.news) (names_in l))

not_taken : (rows : List Row) (r : Row) → are_fresh rows (r ∷ []) ≡ true → is_taken rows r ≡ false
not_taken rows r h = by_cases (is_taken rows r) h
  where
    by_cases : (b : Bool) → (not b && true) ≡ true → b ≡ false
    by_cases true e = absurd cc
    by_cases false e = refl

-- a row under the next number of its tree
abbrev pub next_row : List Row → Row → Row
next_row tree row = Int (next_rowid tree) ∷ row

-- a statement wrote one table: its tree has these rows, and all other trees stay
pub record Wrote (l : Layout) (old new : State) (name : TableName) (rows : List Row) : Type 0 where
  pub schema : new.now.schema ≡ schema_in l
  pub listed : IsSound (schema_in l) new.now.trees
  pub tree : new.now.trees (tree_in l name) ≡ rows
  pub others : (other : TableName) → has_table l other ≡ true → tree_in l other ≢ tree_in l name → new.now.trees (tree_in l other) ≡ old.now.trees (tree_in l other)

pub wrote : (l : Layout) (old new : State) (name : TableName) (rows : List Row) (next : Trees) → new.now.schema ≡ schema_in l → IsSound new.now.schema new.now.trees
    → new.now.trees ≡ next → next (tree_in l name) ≡ rows → AllByRecursion (λ t. t.tree ≢ tree_in l name → next t.tree ≡ old.now.trees t.tree) (schema_in l).tables
    → Wrote l old new name rows
wrote l old new name rows next schema sound all tree stay = record {
  schema = schema;
  listed = subst (λ s. IsSound s new.now.trees) schema sound;
  tree = ap (λ (t : Trees). t (tree_in l name)) all ∙ tree;
  others = λ other there apart. ap (λ (t : Trees). t (tree_in l other)) all ∙ others_stay l next old.now.trees (tree_in l name) stay other there apart;
}

value_row : (name : TableName) (row : Row) → value_rows row (suc (width_of name)) (length (insert_terms name) / suc (width_of name)) (insert_terms name) ≡ (Null ∷ values_from 0 (width_of name) row) ∷ []
value_row Meta row = refl
value_row Section row = refl
value_row Point row = refl
value_row Staff row = refl
value_row Clearance row = refl
value_row Step row = refl
value_row Hold row = refl
value_row NetworkPoint row = refl
value_row Journal row = refl

given_row : (name : TableName) (row : Row) → fits_columns (columns_in name) row ≡ true
    → value_rows (row ++ []) (suc (width_of name)) (length (insert_terms name) / suc (width_of name)) (insert_terms name) ≡ (Null ∷ row) ∷ []
given_row name row fits =
    ap (λ r. value_rows r (suc (width_of name)) (length (insert_terms name) / suc (width_of name)) (insert_terms name)) (append-nil row)
    ∙ value_row name row
    ∙ ap (λ r. (Null ∷ r) ∷ []) (values_all (width_of name) row (fits_length (columns_in name) row fits))

stored_as : (l : Layout) (name : TableName) (row : Row) → fits_columns (columns_in name) row ≡ true → cast_row (table_in l name) (Null ∷ row) ≡ Null ∷ row
stored_as l name row fits i = cast_number i ∷ cast_fits (columns_in name) row fits i

abbrev pub task_on : Layout → TableName → State → Row → Task
task_on l name old params = record { limit = old.step_limit; keys = (mode_of old).keys; schema = schema_in l; table = table_in l name; params = params }

pub no_reference : Unique ≢ ForeignKey
no_reference same = absurd cc

-- the rows of a table pass the rule of unique keys
abbrev pub AreUnique : Layout → Trees → TableName → Type 0
AreUnique l next name = AllByRecursion (λ r. passes Unique (schema_in l) next (table_in l name) r ≡ true) (next (tree_in l name))

pub are_unique : (l : Layout) (name : TableName) (next : Trees) → has_table l name ≡ true
    → AllByRecursion (λ table. AllByRecursion (λ r. passes Unique (schema_in l) next table r ≡ true) (next table.tree)) (schema_in l).tables → AreUnique l next name
are_unique l name next there all = all_at _ (schema_in l).tables (place_in l name) (table_in l name) (at_place l name there) all

pub inserts : (l : Layout) (old new : State) (name : TableName) (row : Row) (count : ℕ) → has_table l name ≡ true → old.now.schema ≡ schema_in l → fits_columns (columns_in name) row ≡ true
    → Executes (insert_sql name) row old new (Ok count)
    → Wrote l old new name (put_row (next_row (old.now.trees (tree_in l name)) row) (old.now.trees (tree_in l name)))
    × (is_taken (old.now.trees (tree_in l name)) (next_row (old.now.trees (tree_in l name)) row) ≡ false)
    × AreUnique l new.now.trees name
inserts l old new name row count there has fits ran =
    let db = old.now.trees in
    let tree = db (tree_in l name) in
    let command = inserting l name in
    let read = insert_is l name there in
    let w = runs_as (insert_sql name) row old new (schema_in l) has command read.is read.plain count ran in
    let text = statement_of (insert_sql name) (understood (schema_in l) (insert_sql name)) in
    let placed = subst (λ s. Does old.step_limit (mode_of old) row (record old.now { schema = s }) text None command (Ok (w.tally, new.now))) has w.changed in
    let done = went (subst (λ found. AtPlace (λ table. OnRows (record (task_on l name old row) { table = table }) (mode_of old) None command db) found (Ok (w.tally, new.now))) (at_place l name there) placed) in
    let now = ap (λ (p : Tally × Database). p.1) (same_value (went (went done.2).2).2) in
    let given = went done.1 in
    let written = went (went given.2).2 in
    let counted = went written.2 in
    let trees : done.0.trees ≡ written.0 = ap (λ (it : Written). it.trees) (same_value counted.2) ∙ same_value counted.1 in
    let it = edit_of db (table_in l name) [] Chosen 0 given.0 in
    let step = one_write l _ db written.0 it written.1 in
    let source : given.0 ≡ (Null ∷ row) ∷ [] = given.1.1 ∙ given_row name row fits in
    let news : it.news ≡ next_row tree row ∷ [] =
    ap (λ all. (edit_of db (table_in l name) [] Chosen 0 all).news) source ∙ ap (λ r. numbered Chosen tree (r ∷ [])) (stored_as l name row fits) in (
      wrote l old new name _ written.0 (ap (λ (d : Database). d.schema) now) w.sound (ap (λ (d : Database). d.trees) now ∙ trees) (step.rows ∙ ap (put_all tree) news) step.tables,
      not_taken tree (next_row tree row) (subst (λ n. are_fresh tree n ≡ true) news step.fresh),
      subst (λ next. AreUnique l next name) (sym (ap (λ (d : Database). d.trees) now ∙ trees)) (are_unique l name written.0 there (step.fits.rules Unique no_reference)),
    )

picked : {X Y : Type 0} (p : X → Bool) (g : X → Y) (xs : List X) → flat_map (λ x. cond (p x) (g x ∷ []) []) xs ≡ map g (filter p xs)
picked p g [] = refl
picked p g (x ∷ xs) = go (p x) refl (picked p g xs)
  where
    go : (b : Bool) → p x ≡ b → flat_map (λ x. cond (p x) (g x ∷ []) []) xs ≡ map g (filter p xs) → flat_map (λ x. cond (p x) (g x ∷ []) []) (x ∷ xs) ≡ map g (filter p (x ∷ xs))
    go true e more = rw e (ap (λ l. g x ∷ l) more)
    go false e more = rw e more

-- the shown parts of what was matched, in some order
shown_of : (q : Query) (envs : List Env) (kept ordered : List Output) (rows : List Row) → kept ≡ map (output q) envs → IsPermutation kept ordered → rows ≡ map (λ (o : Output). o.1) ordered
    → IsPermutation (map (λ e. eval_all q.project e) envs) rows
shown_of q envs kept ordered rows is same shown =
    let made = IsPermutation-map (λ (o : Output). o.1) (map (output q) envs) ordered (subst (λ k. IsPermutation k ordered) is same) in
    subst (IsPermutation (map (λ e. eval_all q.project e) envs)) (sym shown) (subst (λ l. IsPermutation l (map (λ (o : Output). o.1) ordered)) (map-map (λ (o : Output). o.1) (output q) envs) made)

-- whether a row of a tree is met by the tests of its key
abbrev pub is_met : List Term → Row → Row → Bool
is_met tests params r = list_all (holds (params ∷ r ∷ [])) tests

-- what a query without an order shows of the rows of one tree that it meets
pub shown_rows : (tree : ℕ) (tests shown : List Term) (collations : List Collation) (db : Trees) (params : Row) (rows : List Row)
    → IsAnswer (record (query_of tree tests shown []) { collations = collations }) (overlay db []) params rows
    → IsPermutation (map (λ r. eval_all shown (params ∷ r ∷ [])) (filter (is_met tests params) (db tree))) rows
shown_rows tree tests shown collations db params rows a =
    let q = record (query_of tree tests shown []) { collations = collations } in
    let pair = λ (r : Row). params ∷ r ∷ [] in
    let met = is_met tests params in
    let staged : a.staged ≡ map pair (filter met (db tree)) =
    a.grouped ∙ ap (flat_map (λ r. cond (met r) (pair r ∷ []) [])) (laid db tree) ∙ picked met pair (db tree) in
    let some = shown_of q (map pair (filter met (db tree))) a.kept a.ordered rows (a.distinct ∙ ap (map (output q)) staged) a.same a.shown in
    subst (λ l. IsPermutation l rows) (map-map (λ e. eval_all shown e) pair (filter met (db tree))) some

pub ids_listed : (shown : List Row) (rows ids : List Row) → IsPermutation shown rows → map (λ r. id_in (rowid r)) shown ≡ map (λ r. id_in (rowid r)) ids
    → IsPermutation (map (λ r. id_in (rowid r)) ids) (ids_of rows)
ids_listed shown rows ids same is = subst (λ l. IsPermutation l (ids_of rows)) is (IsPermutation-map (λ r. id_in (rowid r)) shown rows same)

abbrev pub is_met_in : TableName → Row → Row → Bool
is_met_in name key r = is_met (key_tests name) key r

-- what a DELETE of the rows that are met by its tests leaves
pub deleted : (l : Layout) (old new : State) (name : TableName) (sql : List ℕ) (tests : List Term) (key : Row) (count : ℕ) → has_table l name ≡ true → old.now.schema ≡ schema_in l
    → IsRead (schema_in l) sql (Delete (place_in l name) (record { lets = []; body = query_of (tree_in l name) tests (col 1 0 ∷ []) [] }))
    → IsShaped Shape.Table (old.now.trees (tree_in l name)) → Executes sql key old new (Ok count)
    → Wrote l old new name (filter (λ r. not (is_met tests key r)) (old.now.trees (tree_in l name)))
deleted l old new name sql tests key count there has read shaped ran =
    let db = old.now.trees in
    let tree = db (tree_in l name) in
    let q = query_of (tree_in l name) tests (col 1 0 ∷ []) [] in
    let command = Delete (place_in l name) (record { lets = []; body = q }) in
    let w = runs_as sql key old new (schema_in l) has command read.is read.plain count ran in
    let text = statement_of sql (understood (schema_in l) sql) in
    let placed = subst (λ s. Does old.step_limit (mode_of old) key (record old.now { schema = s }) text None command (Ok (w.tally, new.now))) has w.changed in
    let done = went (subst (λ found. AtPlace (λ table. OnRows (record (task_on l name old key) { table = table }) (mode_of old) None command db) found (Ok (w.tally, new.now))) (at_place l name there) placed) in
    let now = ap (λ (p : Tally × Database). p.1) (same_value (went (went done.2).2).2) in
    let given = went done.1 in
    let written = went given.2 in
    let trees : done.0.trees ≡ written.0 = ap (λ (it : Written). it.trees) (same_value written.2) in
    let it = edit_of db (table_in l name) (ids_of given.0) Given 0 [] in
    let step = one_write l _ db written.0 it written.1 in
    let a : IsAnswer q (overlay db []) key given.0 = given.1.answer Null in
    let met = filter (is_met tests key) tree in
    let shown = shown_rows (tree_in l name) tests (Query.project q) [] db key given.0 a in
    let ids = ids_listed _ given.0 met shown (map-map (λ r. id_in (rowid r)) (λ r. eval_all (Query.project q) (key ∷ r ∷ [])) met) in
    wrote l old new name _ written.0 (ap (λ (d : Database). d.schema) now) w.sound (ap (λ (d : Database). d.trees) now ∙ trees)
    (step.rows ∙ removed tree shaped (is_met tests key) (ids_of given.0) ids) step.tables

pub deletes : (l : Layout) (old new : State) (name : TableName) (key : Row) (count : ℕ) → has_table l name ≡ true → old.now.schema ≡ schema_in l → IsShaped Shape.Table (old.now.trees (tree_in l name))
    → Executes (delete_sql name) key old new (Ok count) → Wrote l old new name (filter (λ r. not (is_met_in name key r)) (old.now.trees (tree_in l name)))
deletes l old new name key count there has shaped ran = deleted l old new name (delete_sql name) (key_tests name) key count there has (delete_is l name there) shaped ran
