-- What the statements of a move make of the tables: version 1 becomes version 2.
use Rattle.std.proofs.Common.{◌≡◌, ◌∙◌, ◌⊎◌, inl, inr, pos, IsTrue, arith, ℕ, List, [], ◌∷◌, ◌++◌, map, drop, take, Bool, true, false, not, ◌&&◌, if◌then◌else◌, None, Ok, Err, Result, refl, sym, ap, subst, append-nil}
use Rattle.std.specs.Prelude.{IfErr, MatchResult, OnOk, codes, filter, is_ok}
use Rattle.std.specs.List.{list_all}
use Rattle.std.specs.List.Sorted.{IsPermutation}
use Rattle.std.specs.Ordering.{is_lt}
use Rattle.std.proofs.lemmas.List.{map-append}
use Rattle.std.proofs.lemmas.List.Sorted.{IsPermutation-trans, IsPermutation-map, IsPermutation-append_right}
use Rattle.sqlite.specs.Cast.{cast_row, cast_all}
use Rattle.sqlite.specs.Change.{created, next_tree, KeepsRows}
use Rattle.sqlite.specs.Command.TheVariants.{CreateTable}
use Rattle.sqlite.specs.Does.{AtPlace, Does, OnRows, Tally, lacks_sequence}
use Rattle.sqlite.specs.Edit.{are_fresh, edit_of, have_rowids, next_rowid, numbered, put_all}
use Rattle.sqlite.specs.Effect.{Database, IsDatabase}
use Rattle.sqlite.specs.Held.{Held, state}
use Rattle.sqlite.specs.Kind.TheVariants.{Integer}
use Rattle.sqlite.specs.Listing.{understood}
use Rattle.sqlite.specs.Order.{Row, row_cmp}
use Rattle.sqlite.specs.Program.{overlay}
use Rattle.sqlite.specs.Query.{Query, IsAnswer}
use Rattle.sqlite.specs.Rowids.{Rowids}
use Rattle.sqlite.specs.Rowids.TheVariants.{Chosen}
use Rattle.sqlite.specs.Rows.{Written}
use Rattle.sqlite.specs.State.{State, mode_of, ExecutesInside, HasCleanDisk, KeepsCommit, Survives, Writes}
use Rattle.sqlite.specs.Store.{Ghosts}
use Rattle.sqlite.specs.Term.{eval_all}
use Rattle.sqlite.specs.Tree.{Trees, put_row, rowid}
use Rattle.sqlite.specs.declared.transaction.Transaction.{Transaction}
use Rattle.sqlite.specs.declared.types.Value.TheVariants.{Int, Null}
use Rattle.sqlite.proofs.Callers.{runs_as, statement_of}
use Rattle.sqlite.proofs.StateLemmas.{survives_then}
use Rattle.sqlite_catalog.specs.Listing.{IsSound}
use Rattle.sqlite_rules.specs.Edit.{at_least, is_chosen, with_rowid}
use Rattle.sqlite_schema.specs.declared.schema.Column.{Column}
use Rattle.sqlite_schema.specs.declared.schema.Table.{Table}
use Rattle.sqlite_trees.proofs.ListLemmas.{map-map}
use Rattle.sqlite_value.proofs.OrderLemmas.{row_cmp_total}
use Rattle.clr_shelf.proofs.KeyOrder.{in_key_order-with_row}
use Rattle.clr_shelf.specs.Rows.{in_key_order}
use Rattle.clr_load.specs.RowsRead.{read_version}
use Rattle.clr_load.specs.TableEdits.{tables_moved, with_table_row}
use Rattle.clr_load.specs.Tables.{Tables, flag_value, version_row}
use Rattle.clr_load.specs.declared.table_name.TableName.{TableName}
use Rattle.clr_load.specs.declared.table_name.TableName.TheVariants.{Meta, Section, Point, Staff, Clearance, Step, Hold, NetworkPoint, Journal}
use Rattle.clr_store.specs.Change.{Changes, Makes, is_same, with_rows}
use Rattle.clr_store.specs.Moving.{AreMoved, IsMoving, LeavesMoved, Moves, MovesTables, moved_points, rows_moving}
use Rattle.clr_load.specs.Cause.{SqlHasCause}
use Rattle.clr_load.specs.Contract.{old_points}
use Rattle.clr_load.specs.Found.{Finds, Lists}
use Rattle.clr_load.specs.Layout.{has_rows, has_table, is_one, place_in, tree_in}
use Rattle.clr_load.specs.declared.layout.Layout.{Layout}
use Rattle.clr_load.specs.declared.layout.Layout.TheVariants.{AsMoved, OfOne}
use Rattle.clr_load.specs.Schema.{columns_in, needed, schema_in, table_at, table_in}
use Rattle.clr_load.specs.Sql.{copy_sql, create_sql, empty_sql}
use Rattle.clr_load.specs.Stored.{HasEachRow, HasMeta, HasOldTables, HasRows, HasTables, Holds, IsInOrder, Keeps, bodies, fits_columns, is_of_kind, rows_in}
use Rattle.clr_load.specs.declared.fault.StoreFault.{StoreFault}
use Rattle.clr_load.proofs.AllRead.{same_value}
use Rattle.clr_load.proofs.Causes.{has_cause, then_cause}
use Rattle.clr_load.proofs.Columns.{both_true, cast_fits, fits_length, values_all, values_from}
use Rattle.clr_load.proofs.Reopened.{left_of}
use Rattle.clr_load.proofs.Texts.{copied, copy_is, copying, create_is, create_text, created_is, defines, empty_is}
use Rattle.clr_load.proofs.Inside.{fails_on, then_runs}
use Rattle.clr_load.proofs.Loading.{in_layout, then_kept}
use Rattle.clr_store.proofs.Creating.{empty_rows, lacks, next_is, no_tables, then_makes}
use Rattle.clr_store.proofs.Effects.{Wrote, deleted, is_met, one_write, shown_rows, task_on, went, wrote}
use Rattle.clr_store.proofs.Inside.{crash_leaves, list_all-permutation}
use Rattle.clr_store.proofs.Layouts.{all_at, apart, at_place}
use Rattle.clr_store.proofs.Updates.{list_all_map, map_on, put_all_fresh, shaped_put_all}

-- ---- what one statement leaves of the tables
module _ (old new : State) (olds news : List Row) (t : Tables) where
  -- the rows of `network_point` are others, and those of all other tables stay
  points_made : (tree : List Row) → Wrote AsMoved old new NetworkPoint tree → (had : List Row) → IsMoving olds had t old.now
      → HasRows (columns_in NetworkPoint) tree news → IsMoving olds news t new.now
  points_made tree did had has made = record { schema = did.schema; listed = did.listed; rows = at }
    where
      stays : (other : TableName) → has_table AsMoved other ≡ true → is_same NetworkPoint other ≡ false → (rows : List Row)
          → HasRows (columns_in other) (old.now.trees (tree_in AsMoved other)) rows → HasRows (columns_in other) (new.now.trees (tree_in AsMoved other)) rows
      stays other there differ rows h = subst (λ it. HasRows (columns_in other) it rows) (sym (did.others other there (apart AsMoved NetworkPoint other refl there differ))) h

      at : HasEachRow AsMoved new.now.trees (rows_moving olds news t)
      at Meta there = stays Meta refl refl _ (has.rows Meta refl)
      at Section there = stays Section refl refl _ (has.rows Section refl)
      at Point there = stays Point refl refl _ (has.rows Point refl)
      at Staff there = stays Staff refl refl _ (has.rows Staff refl)
      at Clearance there = stays Clearance refl refl _ (has.rows Clearance refl)
      at Step there = stays Step refl refl _ (has.rows Step refl)
      at Hold there = stays Hold refl refl _ (has.rows Hold refl)
      at NetworkPoint there = subst (λ it. HasRows (columns_in NetworkPoint) it news) (sym did.tree) made
      at Journal there = absurd cc

  -- the rows of `point` are others, and those of all other tables stay
  old_made : (tree : List Row) → Wrote AsMoved old new Point tree → (had : List Row) → IsMoving had news t old.now
      → HasRows (columns_in Point) tree olds → IsMoving olds news t new.now
  old_made tree did had has made = record { schema = did.schema; listed = did.listed; rows = at }
    where
      stays : (other : TableName) → has_table AsMoved other ≡ true → is_same Point other ≡ false → (rows : List Row)
          → HasRows (columns_in other) (old.now.trees (tree_in AsMoved other)) rows → HasRows (columns_in other) (new.now.trees (tree_in AsMoved other)) rows
      stays other there differ rows h = subst (λ it. HasRows (columns_in other) it rows) (sym (did.others other there (apart AsMoved Point other refl there differ))) h

      at : HasEachRow AsMoved new.now.trees (rows_moving olds news t)
      at Meta there = stays Meta refl refl _ (has.rows Meta refl)
      at Section there = stays Section refl refl _ (has.rows Section refl)
      at Point there = subst (λ it. HasRows (columns_in Point) it olds) (sym did.tree) made
      at Staff there = stays Staff refl refl _ (has.rows Staff refl)
      at Clearance there = stays Clearance refl refl _ (has.rows Clearance refl)
      at Step there = stays Step refl refl _ (has.rows Step refl)
      at Hold there = stays Hold refl refl _ (has.rows Hold refl)
      at NetworkPoint there = stays NetworkPoint refl refl _ (has.rows NetworkPoint refl)
      at Journal there = absurd cc

-- ---- CREATE TABLE network_point
pub makes_points : (old new : State) (t : Tables) (count : ℕ) → ExecutesInside 0 (create_sql NetworkPoint) [] old new (Ok count)
    → Makes old new (λ db. Holds OfOne db t) (IsMoving t.points [] t)
makes_points old new t count ran = record {
  inside = ran.1.mode;
  kept = record { was_open = λ _. ran.1.was_open; committed = λ _. ran.1.committed_is };
  sound = λ before. (writes before).sound;
  makes = λ before.
      let w = writes before in
      let all = went w.changed in
      let first = went all.1 in
      let made = first.1 in
      let both : Ok made.table ≡ Ok (table_at 0 NetworkPoint) = sym made.defined ∙ defines NetworkPoint in
      let same : made.table ≡ table_at 0 NetworkPoint = same_value both in
      let schema : first.0.schema ≡ schema_in AsMoved =
      made.is ∙ ap (λ s. created s made.table) before.schema ∙ ap (created (schema_in OfOne)) same ∙ created_is AsMoved NetworkPoint refl in
      let plain : lacks_sequence first.0.schema ≡ false = ap lacks_sequence schema ∙ lacks AsMoved NetworkPoint refl in
      let now : new.now ≡ first.0 = ap (λ (p : Tally × Database). p.1) (same_value all.2) ∙ same_value (rw plain at first.2) in
      let others = subst (λ s. KeepsRows s.tables old.now.trees first.0.trees) before.schema made.others in
      let empty : first.0.trees (tree_in AsMoved NetworkPoint) ≡ [] =
      subst (λ tree. first.0.trees tree ≡ []) (ap next_tree before.schema ∙ next_is AsMoved NetworkPoint refl) made.empty in
      let listing : new.now.schema ≡ schema_in AsMoved = ap (λ (d : Database). d.schema) now ∙ schema in
      record {
        schema = listing;
        listed = subst (λ s. IsSound s new.now.trees) listing w.sound;
        rows = at new.now.trees (ap (λ (d : Database). d.trees (tree_in AsMoved NetworkPoint)) now ∙ empty)
            (λ name there. ap (λ (d : Database). d.trees (tree_in OfOne name)) now
            ∙ all_at (λ it. first.0.trees it.tree ≡ old.now.trees it.tree) (schema_in OfOne).tables (place_in OfOne name) (table_in OfOne name) (at_place OfOne name there) others)
            before;
      };
}
  where
    writes : Holds OfOne old.now t → Writes old new None CreateTable (create_sql NetworkPoint) [] count
    writes before = subst (λ text. Writes old new None CreateTable text [] count) (create_text AsMoved NetworkPoint refl)
        (runs_as (create_sql NetworkPoint) [] old new (schema_in OfOne) before.schema CreateTable (create_is AsMoved NetworkPoint refl).is (create_is AsMoved NetworkPoint refl).plain count ran.0)

    at : (trees : Trees) → trees (tree_in AsMoved NetworkPoint) ≡ [] → ((name : TableName) → has_table OfOne name ≡ true → trees (tree_in OfOne name) ≡ old.now.trees (tree_in OfOne name))
        → Holds OfOne old.now t → HasEachRow AsMoved trees (rows_moving t.points [] t)
    at trees empty stays before = each
      where
        kept : (name : TableName) → has_rows OfOne name ≡ true → HasRows (columns_in name) (trees (tree_in OfOne name)) (rows_in OfOne name t)
        kept name there = subst (λ it. HasRows (columns_in name) it (rows_in OfOne name t)) (sym (stays name (in_layout OfOne name there))) (before.rows name there)

        each : HasEachRow AsMoved trees (rows_moving t.points [] t)
        each Meta there = kept Meta refl
        each Section there = kept Section refl
        each Point there = kept Point refl
        each Staff there = kept Staff refl
        each Clearance there = kept Clearance refl
        each Step there = kept Step refl
        each Hold there = kept Hold refl
        each NetworkPoint there = empty_rows (columns_in NetworkPoint) (trees (tree_in AsMoved NetworkPoint)) empty
        each Journal there = absurd cc

-- ---- INSERT INTO network_point SELECT .. FROM point
-- a row of version 1 with the column that version 2 adds
abbrev longer : Row → Row
longer row = row ++ flag_value false ∷ []

eight : (row : Row) → fits_columns (columns_in Point) row ≡ true → values_from 0 8 row ≡ row
eight row fits = values_all 8 row (fits_length (columns_in Point) row fits)

longer_fits : (columns : List Column) (row : Row) → fits_columns columns row ≡ true → fits_columns (columns ++ needed (codes "jumper") Integer ∷ []) (longer row) ≡ true
longer_fits [] [] fits = refl
longer_fits [] (v ∷ row) fits = absurd cc
longer_fits (c ∷ columns) [] fits = absurd cc
longer_fits (c ∷ columns) (v ∷ row) fits =
    let parts = both_true (is_of_kind c.kind v) (fits_columns columns row) fits in rw (parts.0, longer_fits columns row parts.1) refl

all_longer_fit : (rows : List Row) → list_all (fits_columns (columns_in Point)) rows ≡ true → list_all (fits_columns (columns_in NetworkPoint)) (moved_points rows) ≡ true
all_longer_fit [] fits = refl
all_longer_fit (row ∷ rows) fits =
    let parts = both_true (fits_columns (columns_in Point) row) (list_all (fits_columns (columns_in Point)) rows) fits in
    rw (longer_fits (columns_in Point) row parts.0, all_longer_fit rows parts.1) refl

-- what the query shows of a row, less its number
shown_longer : (r : Row) → fits_columns (columns_in Point) (drop 1 r) ≡ true → drop 1 (eval_all (Query.project copied) ([] ∷ r ∷ [])) ≡ longer (drop 1 r)
shown_longer [] fits = absurd cc
shown_longer (id ∷ row) fits = subst (λ (body : Row). drop 1 (eval_all (Query.project copied) ([] ∷ (id ∷ body) ∷ [])) ≡ longer body) (eight row fits) refl

numbers_only : (rowids : Rowids) (rows news : List Row) → bodies (numbered rowids rows news) ≡ bodies news
numbers_only rowids rows [] = refl
numbers_only rowids rows (r ∷ news) = λ i. one (is_chosen rowids (rowid r)) i ∷ numbers_only rowids (put_row (with_rowid rowids rows r) rows) news i
  where
    one : (b : Bool) → drop 1 (if b then Int (at_least rowids (next_rowid rows)) ∷ drop 1 r else r) ≡ drop 1 r
    one true = refl
    one false = refl

all_met : (tree : List Row) → filter (is_met [] []) tree ≡ tree
all_met [] = refl
all_met (r ∷ tree) = ap (λ l. r ∷ l) (all_met tree)

keeps_sound : (l : Layout) (db : Database) (told : TableName → List Row) → Keeps l db told → IsDatabase db
keeps_sound l db told has = subst (λ s. IsSound s db.trees) (sym has.schema) has.listed

abbrev new_table : Table
new_table = table_in AsMoved NetworkPoint

abbrev shown_of : Row → Row
shown_of r = eval_all (Query.project copied) ([] ∷ r ∷ [])

stored_longer : (r : Row) → fits_columns (columns_in Point) (drop 1 r) ≡ true → drop 1 (cast_row new_table (shown_of r)) ≡ longer (drop 1 r)
stored_longer r fits =
    ap (cast_all (columns_in NetworkPoint)) (shown_longer r fits) ∙ cast_fits (columns_in NetworkPoint) (longer (drop 1 r)) (longer_fits (columns_in Point) (drop 1 r) fits)

-- the tree of version 2 has the rows that are shown of the tree of version 1
copied_rows : (olds tree rows shown : List Row) → HasRows (columns_in Point) olds rows → HasRows (columns_in NetworkPoint) tree []
    → IsPermutation (map shown_of olds) shown → are_fresh tree (numbered Chosen tree (map (cast_row new_table) shown)) ≡ true
    → have_rowids (numbered Chosen tree (map (cast_row new_table) shown)) ≡ true
    → HasRows (columns_in NetworkPoint) (put_all tree (numbered Chosen tree (map (cast_row new_table) shown))) (moved_points rows)
copied_rows olds tree rows shown has none same fresh keyed =
    let stored = λ (s : Row). cast_row new_table s in
    let news = numbered Chosen tree (map stored shown) in
    let old_fit : list_all (λ r. fits_columns (columns_in Point) (drop 1 r)) olds ≡ true =
    sym (list_all_map (fits_columns (columns_in Point)) (drop 1) olds) ∙ list_all-permutation (fits_columns (columns_in Point)) rows (bodies olds) has.same has.fit in
    let one : IsPermutation (moved_points rows) (map (λ r. longer (drop 1 r)) olds) =
    subst (IsPermutation (moved_points rows)) (map-map longer (drop 1) olds) (IsPermutation-map longer rows (bodies olds) has.same) in
    let two : map (λ r. longer (drop 1 r)) olds ≡ map (λ r. drop 1 (stored (shown_of r))) olds =
    map_on (λ r. fits_columns (columns_in Point) (drop 1 r)) (λ r. longer (drop 1 r)) (λ r. drop 1 (stored (shown_of r))) (λ r h. sym (stored_longer r h)) olds old_fit in
    let three : IsPermutation (map (λ r. drop 1 (stored (shown_of r))) olds) (map (λ s. drop 1 (stored s)) shown) =
    subst (λ l. IsPermutation l (map (λ s. drop 1 (stored s)) shown)) (map-map (λ s. drop 1 (stored s)) shown_of olds) (IsPermutation-map (λ s. drop 1 (stored s)) _ _ same) in
    let four : map (λ s. drop 1 (stored s)) shown ≡ bodies news ++ [] =
    sym (map-map (drop 1) stored shown) ∙ sym (numbers_only Chosen tree (map stored shown)) ∙ sym (append-nil (bodies news)) in
    let five : IsPermutation (bodies news ++ []) (bodies news ++ bodies tree) = IsPermutation-append_right (bodies news) _ _ none.same in
    let six : IsPermutation (bodies news ++ bodies tree) (bodies (put_all tree news)) =
    subst (λ l. IsPermutation l (bodies (put_all tree news))) (map-append (drop 1) news tree) (IsPermutation-map (drop 1) _ _ (put_all_fresh news tree fresh)) in
    record {
      same = IsPermutation-trans _ _ _ one (subst (λ l. IsPermutation l (bodies (put_all tree news))) (sym two)
          (IsPermutation-trans _ _ _ three (subst (λ l. IsPermutation l (bodies (put_all tree news))) (sym four) (IsPermutation-trans _ _ _ five six))));
      numbered = shaped_put_all news tree keyed none.numbered;
      fit = all_longer_fit rows has.fit;
    }

pub copies : (old new : State) (t : Tables) (count : ℕ) → ExecutesInside 0 copy_sql [] old new (Ok count)
    → Makes old new (IsMoving t.points [] t) (IsMoving t.points (moved_points t.points) t)
copies old new t count ran = record {
  inside = ran.1.mode;
  kept = record { was_open = λ _. ran.1.was_open; committed = λ _. ran.1.committed_is };
  sound = λ before. keeps_sound AsMoved new.now _ (done before);
  makes = done;
}
  where
    done : IsMoving t.points [] t old.now → IsMoving t.points (moved_points t.points) t new.now
    done before =
        let db = old.now.trees in
        let tree = db (tree_in AsMoved NetworkPoint) in
        let olds = db (tree_in AsMoved Point) in
        let w = runs_as copy_sql [] old new (schema_in AsMoved) before.schema copying copy_is.is copy_is.plain count ran.0 in
        let text = statement_of copy_sql (understood (schema_in AsMoved) copy_sql) in
        let placed = subst (λ s. Does old.step_limit (mode_of old) [] (record old.now { schema = s }) text None copying (Ok (w.tally, new.now))) before.schema w.changed in
        let done = went (subst (λ found. AtPlace (λ table. OnRows (record (task_on AsMoved NetworkPoint old []) { table = table }) (mode_of old) None copying db) found (Ok (w.tally, new.now)))
        (at_place AsMoved NetworkPoint refl) placed) in
        let now = ap (λ (p : Tally × Database). p.1) (same_value (went (went done.2).2).2) in
        let given = went done.1 in
        let written = went (went given.2).2 in
        let counted = went written.2 in
        let trees : done.0.trees ≡ written.0 = ap (λ (it : Written). it.trees) (same_value counted.2) ∙ same_value counted.1 in
        let it = edit_of db new_table [] Chosen 0 given.0 in
        let step = one_write AsMoved _ db written.0 it written.1 in
        let a : IsAnswer copied (overlay db []) [] given.0 = given.1.answer Null in
        let shown = subst (λ l. IsPermutation (map shown_of l) given.0) (all_met olds) (shown_rows (tree_in AsMoved Point) [] (Query.project copied) (Query.collations copied) db [] given.0 a) in
        let rows = copied_rows olds tree t.points given.0 (before.rows Point refl) (before.rows NetworkPoint refl) shown step.fresh step.keyed in
        let did = wrote AsMoved old new NetworkPoint _ written.0 (ap (λ (d : Database). d.schema) now) w.sound (ap (λ (d : Database). d.trees) now ∙ trees) step.rows step.tables in
        points_made old new t.points (moved_points t.points) t _ did [] before rows

-- ---- DELETE FROM point
none_left : (tree : List Row) → filter (λ r. not (is_met [] [] r)) tree ≡ []
none_left [] = refl
none_left (r ∷ tree) = none_left tree

pub empties : (old new : State) (t : Tables) (count : ℕ) → ExecutesInside 0 empty_sql [] old new (Ok count)
    → Makes old new (IsMoving t.points (moved_points t.points) t) (IsMoving [] (moved_points t.points) t)
empties old new t count ran = record {
  inside = ran.1.mode;
  kept = record { was_open = λ _. ran.1.was_open; committed = λ _. ran.1.committed_is };
  sound = λ before. keeps_sound AsMoved new.now _ (done before);
  makes = done;
}
  where
    done : IsMoving t.points (moved_points t.points) t old.now → IsMoving [] (moved_points t.points) t new.now
    done before =
        let did = deleted AsMoved old new Point empty_sql [] [] count refl before.schema empty_is (before.rows Point refl).numbered ran.0 in
        old_made old new [] (moved_points t.points) t _ did t.points before (empty_rows (columns_in Point) _ (none_left (old.now.trees (tree_in AsMoved Point))))

-- ---- the moved tables
abbrev pub points_moved : Tables → Tables
points_moved t = record t { points = moved_points t.points }

-- with `point` empty they are tables of version 2
pub as_moved : (db : Database) (t : Tables) → IsMoving [] (moved_points t.points) t db → Holds AsMoved db (points_moved t)
as_moved db t has = record { schema = has.schema; listed = has.listed; rows = at }
  where
    at : HasEachRow AsMoved db.trees (λ name. rows_in AsMoved name (points_moved t))
    at Meta there = has.rows Meta refl
    at Section there = has.rows Section refl
    at Point there = has.rows Point refl
    at Staff there = has.rows Staff refl
    at Clearance there = has.rows Clearance refl
    at Step there = has.rows Step refl
    at Hold there = has.rows Hold refl
    at NetworkPoint there = has.rows NetworkPoint refl
    at Journal there = absurd cc

-- the order of keys stays
first_longer : (row : Row) → fits_columns (columns_in Point) row ≡ true → take 1 (longer row) ≡ take 1 row
first_longer [] fits = absurd cc
first_longer (v ∷ row) fits = refl

order_longer : (rows : List Row) → list_all (fits_columns (columns_in Point)) rows ≡ true → in_key_order row_cmp (take 1) (moved_points rows) ≡ in_key_order row_cmp (take 1) rows
order_longer [] fits = refl
order_longer (row ∷ rows) fits =
    let parts = both_true (fits_columns (columns_in Point) row) (list_all (fits_columns (columns_in Point)) rows) fits in
    λ i. above (first_longer row parts.0) rows parts.1 i && order_longer rows parts.1 i
  where
    above : take 1 (longer row) ≡ take 1 row → (rest : List Row) → list_all (fits_columns (columns_in Point)) rest ≡ true
        → list_all (λ next. is_lt (row_cmp (take 1 (longer row)) (take 1 next))) (moved_points rest) ≡ list_all (λ next. is_lt (row_cmp (take 1 row) (take 1 next))) rest
    above first [] fits = refl
    above first (next ∷ rest) fits =
        let parts = both_true (fits_columns (columns_in Point) next) (list_all (fits_columns (columns_in Point)) rest) fits in
        λ i. is_lt (row_cmp (first i) (first_longer next parts.0 i)) && above first rest parts.1 i

pub moved_in_order : (t : Tables) → list_all (fits_columns (columns_in Point)) t.points ≡ true → IsInOrder OfOne t → IsInOrder AsMoved (tables_moved t)
moved_in_order t fits ordered Meta = in_key_order-with_row row_cmp (take 1) row_cmp_total (version_row 2) t.meta (ordered Meta)
moved_in_order t fits ordered Section = ordered Section
moved_in_order t fits ordered Point = refl
moved_in_order t fits ordered Staff = ordered Staff
moved_in_order t fits ordered Clearance = ordered Clearance
moved_in_order t fits ordered Step = ordered Step
moved_in_order t fits ordered Hold = ordered Hold
moved_in_order t fits ordered NetworkPoint = order_longer t.points fits ∙ ordered Point
moved_in_order t fits ordered Journal = refl

-- ---- the statements of a move, one after the other
points_read : (old new : State) (t : Tables) → Finds old new is_one (λ l t. is_ok (old_points t)) true → Makes old new (λ db. HasOldTables db t) (λ db. Holds OfOne db t)
points_read old new t found = record {
  inside = found.inside;
  kept = found.kept;
  makes = here;
  sound = λ has. keeps_sound OfOne new.now _ (here has);
}
  where
    here : HasOldTables old.now t → Holds OfOne new.now t
    here has = (found.found_is OfOne refl t has.holds has.in_order).1

-- what was read is what the tables have
pub points_read_are : (old new : State) (t : Tables) → Finds old new is_one (λ l t. is_ok (old_points t)) true → HasOldTables old.now t → IsTrue (is_ok (old_points t))
points_read_are old new t found has = sym (found.found_is OfOne refl t has.holds has.in_order).0

-- so nothing is said of points that do not read
pub never_unread : {Said : Type 0} (t : Tables) → IsTrue (is_ok (old_points t)) → is_ok (old_points t) ≡ false → Said
never_unread t read unread = absurd (let both = sym read ∙ unread in cc)

pub on_ok : {X : Type 0} (r : Result X StoreFault) (P : Type 0) → P → OnOk r P
on_ok (Ok x) P holds = holds
on_ok (Err fault) P holds = tt

both_make : {X : Type 0} (a b c : State) (From Mid To : Tables → Database → Type 0) (r : Result X StoreFault) → ((t : Tables) → Makes a b (From t) (Mid t))
    → MatchResult r (λ _. (t : Tables) → Makes b c (Mid t) (To t)) (λ _. KeepsCommit b c) → MatchResult r (λ _. (t : Tables) → Makes a c (From t) (To t)) (λ _. KeepsCommit a c)
both_make a b c From Mid To (Ok x) first second = λ t. then_makes a b c (From t) (Mid t) (To t) (first t) (second t)
both_make a b c From Mid To (Err e) first kept = then_kept a b c (first no_tables).kept kept

pub reads_move : {S X : Type 0} (g : Ghosts S) (a b : Transaction S) (F G : StoreFault → Type 0) (told : X → Bool) (x : X) → told x ≡ true
    → Lists g a b F is_one (λ l t. is_ok (old_points t)) told (Ok x) → Moves {X = Unit {0}} g a b G (λ t db. HasOldTables db t) (λ t db. Holds OfOne db t) (Ok tt)
reads_move g a b F G told x said it = record {
  same_reference = it.same_reference;
  step = λ clean inside t.
      points_read (state g a.conn.now) (state g b.conn.now) t
      (subst (λ found. Finds (state g a.conn.now) (state g b.conn.now) is_one (λ l t. is_ok (old_points t)) found) said (it.step clean inside));
  fault = tt;
  survives = it.survives;
}

pub then_moves : {S X Y : Type 0} (g : Ghosts S) (a b c : Transaction S) (F G H : StoreFault → Type 0) (From Mid To : Tables → Database → Type 0) (x : X) (r : Result Y StoreFault)
    → Moves g a b F From Mid (Ok x) → Moves g b c G Mid To r → (IfErr r G → IfErr r H) → Moves g a c H From To r
then_moves g a b c F G H From Mid To x r first second wider =
    then_runs g a b c F G H _ _ _ _ _ _ x r first second (λ done. (done no_tables).inside)
    (λ early done next. both_make (state g a.conn.now) (state g b.conn.now) (state g c.conn.now) From Mid To r done next) wider

pub then_stops : {S X Y : Type 0} (g : Ghosts S) (a b c : Transaction S) (F G H : StoreFault → Type 0) (From Mid To All : Tables → Database → Type 0) (x : X) (e : StoreFault)
    → Moves g a b F From Mid (Ok x) → Moves {X = Y} g b c G Mid To (Err e) → (G e → H e) → Moves {X = Y} g a c H From All (Err e)
then_stops g a b c F G H From Mid To All x e first second wider =
    fails_on g a b c F G H _ _ _ _ _ _ x e first second (λ done. (done no_tables).inside)
    (λ early done kept. then_kept (state g a.conn.now) (state g b.conn.now) (state g c.conn.now) (done no_tables).kept kept) wider

-- with the version set again they are the tables of version 2
pub told_anew : (before : Database) (old new : State) (t : Tables) → HasOldTables before t → IsMoving [] (moved_points t.points) t old.now
    → Changes old new (with_rows Meta (with_table_row 1 (version_row 2))) → HasTables new.now (tables_moved t)
told_anew before old new t has moved told = record {
  layout = AsMoved;
  two = refl;
  here = record {
    holds = told.tables AsMoved refl (points_moved t) (as_moved old.now t moved);
    in_order = moved_in_order t (has.holds.rows Point refl).fit has.in_order;
    placed = (None, refl);
  };
}

-- wherever a move is cut, the tables are as before, or all of them are moved
pub move_crash : {S : Type 0} (g : Ghosts S) (old first mid end : Held S) → Survives (state g (record old { in_transaction = true })) (state g first) (λ _. ⊥)
    → Survives (state g first) (state g mid) (λ _. ⊥) → Survives (state g mid) (state g end) (λ db. db ≡ (state g mid).now.trees)
    → (HasCleanDisk (state g mid) → IsTrue (state g old).is_open × MovesTables (state g old).now (state g mid).now)
    → Survives (state g old) (state g end) (λ trees. IsTrue (state g old).is_open × AreMoved (state g old).now trees)
move_crash g old first mid end one two ended moved =
    let inside = survives_then (state g (record old { in_transaction = true })) (state g first) (state g mid) (λ _. ⊥) (λ _. ⊥) (λ _. ⊥) (λ _ _ none. none) (λ _ _ none. none) one two in
    crash_leaves g old mid end _ inside ended (λ clean.
    let it = moved clean in
    (it.0, λ t has. ((it.1 t has).0, left_of (state g mid).now (tables_moved t) (it.1 t has).1)))

-- a call that did not fail was made on an open connection
pub surely_open : {here : Type 0} → here ⊎ ⊥ → here
surely_open (inl is) = is
surely_open (inr none) = absurd none

-- ---- a version that was read, and what comes then
-- `Sql` that the later of two calls answers, of a connection that the first left open, is caused in
-- both
pub opened_cause : {One Two : Trees → Type 0} (s t u : State) (fault : StoreFault) → Survives s t One → Survives t u Two → HasCleanDisk u
    → (IsTrue t.is_open → SqlHasCause t u fault) → SqlHasCause s u fault
opened_cause {One} s t u fault first later clean cause =
    let between : HasCleanDisk t = omega (arith, later.clean, clean) in
    then_cause s t u One fault first between later.counts (has_cause t u fault (λ sql able. subst (SqlHasCause t u) sql (cause able.is_open) able))

pub leaves_moved : (old read new : State) → Survives old read (λ _. ⊥) → Survives read new (λ trees. IsTrue read.is_open × AreMoved read.now trees)
    → (HasCleanDisk read → IsTrue read.is_open → read.now ≡ old.now) → (HasCleanDisk read → (meta : List Row) → HasMeta old.now meta → read_version meta ≡ Ok (pos 1))
    → Survives old new (LeavesMoved old.now)
leaves_moved old read new first later same told =
    survives_then old read new _ _ _ (λ _ db none. absurd none) (λ clean db left.
    let early : HasCleanDisk read = omega (arith, later.clean) in
    record { told = told early; moved = subst (λ (d : Database). AreMoved d db) (same early left.0) left.1 }) first later
