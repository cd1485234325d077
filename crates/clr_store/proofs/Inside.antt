-- What INSERT and DELETE make of the tables, inside a transaction.
use Rattle.std.proofs.Common.{◌≡◌, ℕ, zero, suc, List, [], ◌∷◌, map, drop, take, length, Bool, true, false, cond, not, if◌then◌else◌, None, Some, Ok, Err, Result, refl, sym, ap, subst, ◌∙◌, ◌++◌, ◌+◌, ◌<◌, ◌&&◌, IsTrue, inl, inr, get_or, arith}
use Rattle.std.specs.Prelude.{filter, slice_set, MatchResult}
use Rattle.std.specs.List.{list_all}
use Rattle.std.specs.List.Sorted.{IsPermutation}
use Rattle.std.specs.Ordering.{is_eq, is_lt, is_gt}
use Rattle.std.specs.declared.cmp.Ordering.{Ordering}
use Rattle.std.specs.declared.cmp.Ordering.TheVariants.{Less, Equal, Greater}
use Rattle.std.proofs.lemmas.List.{take_more}
use Rattle.std.proofs.lemmas.List.Elements.{filter_agree}
use Rattle.std.proofs.lemmas.List.Sorted.{IsPermutation-refl, IsPermutation-trans, IsPermutation-cons, IsPermutation-middle, IsPermutation-map, IsPermutation-sym, IsPermutation-append_right, All-permutation}
use Rattle.std.proofs.lemmas.List.Sums.{AllPass-from_list_all, list_all-from_AllPass}
use Rattle.sqlite.specs.Edit.{is_taken, next_rowid}
use Rattle.sqlite.specs.Order.{Row, column, row_cmp}
use Rattle.sqlite.specs.State.{State, ExecutesInside, HasCleanDisk, KeepsCommit, Survives}
use Rattle.sqlite.specs.Effect.{Database}
use Rattle.sqlite.specs.Held.{Held, state}
use Rattle.sqlite.specs.Store.{Ghosts}
use Rattle.sqlite.specs.declared.error.Error.{Error}
use Rattle.sqlite.specs.declared.transaction.Transaction.{Transaction}
use Rattle.sqlite.proofs.Callers.{survives_begin}
use Rattle.sqlite.proofs.StateLemmas.{survives_then}
use Rattle.sqlite.specs.Term.{col, holds, op2}
use Rattle.sqlite.specs.Collation.TheVariants.{Binary}
use Rattle.sqlite_sql.specs.declared.ops.BinaryOp.TheVariants.{Compare}
use Rattle.sqlite_sql.specs.declared.ops.CompareOp.TheVariants.{Eq}
use Rattle.sqlite.specs.Tree.{Trees, put_row}
use Rattle.sqlite.specs.declared.types.Value.{Value}
use Rattle.sqlite.specs.declared.types.Value.TheVariants.{Null, Int, Text}
use Rattle.sqlite_schema.specs.declared.schema.Column.{Column}
use Rattle.sqlite_trees.proofs.ListLemmas.{filter-map, IsPermutation-filter}
use Rattle.sqlite_trees.proofs.TreeLemmas.{IsShaped-put_row}
use Rattle.clr_shelf.proofs.Lists.{list_all-filter}
use Rattle.clr_shelf.proofs.KeyOrder.{in_key_order-with_row, in_key_order-without_row}
use Rattle.clr_shelf.specs.Rows.{in_key_order, with_row, without_row}
use Rattle.sqlite_value.proofs.OrderLemmas.{row_cmp_total}
use Rattle.clr_rules.specs.declared.change.Edit.{Edit}
use Rattle.clr_rules.specs.declared.change.Edit.TheVariants.{SetPosition, SetHand, PutHold, TakeHold, PutRecord, PutStep, AddSection, AddPoint}
use Rattle.clr_load.specs.TableEdits.{added_point, changed_point, handed_row, placed_row, table_edited, tables_edited, with_table_row, without_table_row}
use Rattle.clr_load.specs.Tables.{Tables, clearance_row, hand_values, hold_row, position_value, section_row, step_row}
use Rattle.clr_load.specs.declared.table_name.TableName.{TableName}
use Rattle.clr_load.specs.declared.table_name.TableName.TheVariants.{Section, Clearance, Step, Hold, NetworkPoint, Journal}
use Rattle.clr_store.specs.Change.{Changes, Does, Replaces, SamePlace, after_replace, with_rows}
use Rattle.clr_load.specs.Cause.{fault_of}
use Rattle.clr_load.specs.Fault.{IsOfDatabase}
use Rattle.clr_load.specs.Inside.{RunsInside}
use Rattle.clr_load.specs.Layout.{has_rows, has_table, is_two, tree_in}
use Rattle.clr_load.specs.declared.layout.Layout.{Layout}
use Rattle.clr_load.specs.declared.layout.Layout.TheVariants.{AsMade}
use Rattle.clr_load.specs.Schema.{columns_in, keys_in}
use Rattle.clr_load.specs.Sql.{insert_sql, delete_sql}
use Rattle.clr_load.specs.declared.fault.StoreFault.{StoreFault}
use Rattle.clr_load.specs.Stored.{HasEachRow, HasRows, HasTables, Holds, IsInOrder, IsPlaced, bodies, fits_columns, rows_in}
use Rattle.clr_load.proofs.Columns.{sets_from, tests_are}
use Rattle.clr_load.proofs.Texts.{tests_from}
use Rattle.clr_load.proofs.Causes.{told_of_database}
use Rattle.clr_load.proofs.Inside.{then_runs}
use Rattle.clr_load.proofs.Loading.{in_layout, then_kept, unchanged_keeps, undone_keeps}
use Rattle.clr_store.proofs.RowLemmas.{put_fresh, shaped-filter}
use Rattle.clr_store.proofs.Effects.{Wrote, deletes, inserts, is_met_in}
use Rattle.clr_store.proofs.Layouts.{apart, each_changed, in_two, not_journal, rows_in_two, same_rows, twice}

-- the rows of one table are changed, and those of the others stay
pub changed_to : (l : Layout) → is_two l ≡ true → (old new : State) (name : TableName) (tree : List Row) (change : List Row → List Row) (t : Tables) → has_table AsMade name ≡ true
    → Wrote l old new name tree → Holds l old.now t → HasRows (columns_in name) tree (change (rows_in l name t))
    → Holds l new.now (with_rows name change t) × SamePlace l old.now new.now
changed_to l two old new name tree change t here did has changed = (
  record {
    schema = did.schema;
    listed = did.listed;
    rows = each_changed name here l two (λ other rows. has_rows l other ≡ true → HasRows (columns_in other) (new.now.trees (tree_in l other)) rows) change t
        (λ there. subst (λ it. HasRows (columns_in name) it (change (rows_in l name t))) (sym did.tree) changed)
        (λ other differ there. subst (λ it. HasRows (columns_in other) it (rows_in l other t)) (sym (did.others other (in_layout l other there) (apart l name other (in_two name here l two) (in_layout l other there) differ))) (has.rows other there));
  },
  λ there. did.others Journal there (apart l name Journal (in_two name here l two) there (not_journal name here)),
)

-- a statement inside a transaction changes the tables, and commits nothing
pub runs_inside : (sql : List ℕ) (params : Row) (old new : State) (count : ℕ) (change : Tables → Tables) → ExecutesInside 0 sql params old new (Ok count)
    → ((l : Layout) → is_two l ≡ true → (t : Tables) → Holds l old.now t → Holds l new.now (change t) × SamePlace l old.now new.now) → Changes old new change
runs_inside sql params old new count change ran tables =
    record { inside = ran.1.mode; kept = record { was_open = λ _. ran.1.was_open; committed = λ _. ran.1.committed_is }; tables = λ l two t has. (tables l two t has).0; place = λ l two t has. (tables l two t has).1 }

-- ---- rows of a tree
pub list_all-permutation : (p : Row → Bool) (xs ys : List Row) → IsPermutation xs ys → list_all p xs ≡ true → list_all p ys ≡ true
list_all-permutation p xs ys same h = list_all-from_AllPass p ys (All-permutation (λ row. p row ≡ true) xs ys same (AllPass-from_list_all p xs h))

-- the order in which rows are listed does not matter
pub in_any_order : (columns : List Column) (tree xs ys : List Row) → IsPermutation xs ys → HasRows columns tree xs → HasRows columns tree ys
in_any_order columns tree xs ys same has = record {
  same = IsPermutation-trans _ _ _ (IsPermutation-sym _ _ same) has.same;
  numbered = has.numbered;
  fit = list_all-permutation (fits_columns columns) xs ys same has.fit;
}

pub put_in : (columns : List Column) (row : Row) (tree rows : List Row) → fits_columns columns row ≡ true → is_taken tree (Int (next_rowid tree) ∷ row) ≡ false
    → HasRows columns tree rows → HasRows columns (put_row (Int (next_rowid tree) ∷ row) tree) (row ∷ rows)
put_in columns row tree rows fits free has =
    let new = Int (next_rowid tree) ∷ row in
    record {
      same = IsPermutation-trans _ _ _ (IsPermutation-cons row _ _ has.same) (IsPermutation-map (drop 1) _ _ (put_fresh new tree free));
      numbered = IsShaped-put_row new tree refl has.numbered;
      fit = rw (fits, has.fit) refl;
    }

tests_empty : (n at : ℕ) (key : Row) → list_all (holds (key ∷ [] ∷ [])) (tests_from at n) ≡ list_all (holds (key ∷ (Null ∷ []) ∷ [])) (tests_from at n)
tests_empty zero at key = refl
tests_empty (suc n) at key = ap (λ b. holds (key ∷ [] ∷ []) (op2 (Compare Eq Binary) (col 1 (suc at)) (col 0 at)) && b) (tests_empty n (suc at) key)

-- the rows that a statement meets are those of the key
pub met_is : (name : TableName) (key r : Row) → length key ≡ keys_in name → sets_from 0 (keys_in name) key ≡ true
    → is_met_in name key r ≡ is_eq (row_cmp (take (keys_in name) (drop 1 r)) key)
met_is name key [] is set = tests_empty (keys_in name) 0 key ∙ tests_are (keys_in name) key [] Null is set
met_is name key (id ∷ row) is set = tests_are (keys_in name) key row id is set

pub taken_away : (name : TableName) (key : Row) (tree rows : List Row) → length key ≡ keys_in name → sets_from 0 (keys_in name) key ≡ true
    → HasRows (columns_in name) tree rows → HasRows (columns_in name) (filter (λ r. not (is_met_in name key r)) tree) (without_table_row (keys_in name) key rows)
unfolding without_row
taken_away name key tree rows is set has =
    let other = λ (row : Row). not (is_eq (row_cmp (take (keys_in name) row) key)) in
    let kept = IsPermutation-filter other rows (bodies tree) has.same in
    let there : filter other (bodies tree) ≡ bodies (filter (λ r. not (is_met_in name key r)) tree) =
    filter-map other (drop 1) tree ∙ ap bodies (filter_agree _ _ (λ r. ap not (sym (met_is name key r is set))) tree) in
    record {
      same = subst (IsPermutation (filter other rows)) there kept;
      numbered = shaped-filter _ tree has.numbered;
      fit = list_all-filter (fits_columns (columns_in name)) other rows has.fit;
    }

-- a row in front of those of other keys is the list with the row put, in another order
put_tested : (row other : Row) (lower rest higher : List Row) (o : Ordering) → IsPermutation (row ∷ rest) (lower ++ row ∷ higher)
    → IsPermutation (row ∷ cond (not (is_eq o)) (other ∷ rest) rest) (cond (is_lt o) (other ∷ lower) lower ++ row ∷ cond (is_gt o) (other ∷ higher) higher)
put_tested row other lower rest higher Less same =
    IsPermutation-trans _ _ _ (IsPermutation-middle (row ∷ []) other rest) (IsPermutation-cons other _ _ same)
put_tested row other lower rest higher Equal same = same
put_tested row other lower rest higher Greater same =
    let moved = IsPermutation-trans _ _ _ (IsPermutation-middle (row ∷ []) other rest) (IsPermutation-cons other _ _ same) in
    IsPermutation-trans _ _ _ moved
    (IsPermutation-trans _ _ _ (IsPermutation-sym _ _ (IsPermutation-middle lower other (row ∷ higher)))
    (IsPermutation-append_right lower _ _ (IsPermutation-middle (other ∷ []) row higher)))

pub put_again : (keys : ℕ) (row : Row) (rows : List Row) → IsPermutation (row ∷ without_table_row keys (take keys row) rows) (with_table_row keys row rows)
unfolding without_row with_row
put_again keys row [] = IsPermutation-refl _
put_again keys row (other ∷ rows) =
    put_tested row other (filter (λ it. is_lt (row_cmp (take keys it) (take keys row))) rows) (filter (λ it. not (is_eq (row_cmp (take keys it) (take keys row)))) rows)
    (filter (λ it. is_gt (row_cmp (take keys it) (take keys row))) rows) (row_cmp (take keys other) (take keys row)) (put_again keys row rows)

-- ---- statements
pub adds : (old new : State) (name : TableName) (row : Row) (count : ℕ) → has_table AsMade name ≡ true → fits_columns (columns_in name) row ≡ true → ExecutesInside 0 (insert_sql name) row old new (Ok count)
    → Changes old new (with_rows name (λ rows. row ∷ rows))
adds old new name row count here fits ran = runs_inside (insert_sql name) row old new count _ ran (λ l two t has.
    let there = in_two name here l two in
    let did = inserts l old new name row count there has.schema fits ran.0 in
    let put = put_in (columns_in name) row (old.now.trees (tree_in l name)) (rows_in l name t) fits did.1 (has.rows name (rows_in_two name here l two)) in
    changed_to l two old new name _ (λ rows. row ∷ rows) t here did.0 has put)

pub removes : (old new : State) (name : TableName) (key : Row) (count : ℕ) → has_table AsMade name ≡ true → length key ≡ keys_in name → sets_from 0 (keys_in name) key ≡ true
    → ExecutesInside 0 (delete_sql name) key old new (Ok count) → Changes old new (with_rows name (without_table_row (keys_in name) key))
removes old new name key count here is set ran = runs_inside (delete_sql name) key old new count _ ran (λ l two t has.
    let there = in_two name here l two in
    let did = deletes l old new name key count there has.schema (has.rows name (rows_in_two name here l two)).numbered ran.0 in
    let left = taken_away name key (old.now.trees (tree_in l name)) (rows_in l name t) is set (has.rows name (rows_in_two name here l two)) in
    changed_to l two old new name _ (without_table_row (keys_in name) key) t here did has left)

-- ---- statements in turn
pub then_changes : (a b c : State) (f g : Tables → Tables) → Changes a b f → Changes b c g → Changes a c (λ t. g (f t))
then_changes a b c f g p q = record {
  inside = q.inside;
  kept = then_kept a b c p.kept q.kept;
  tables = λ l two t has. q.tables l two (f t) (p.tables l two t has);
  place = λ l two t has there. q.place l two (f t) (p.tables l two t has) there ∙ p.place l two t has there;
}

pub then_step : {X : Type 0} (a b c : State) (f g : Tables → Tables) (r : Result X StoreFault) → Changes a b f → MatchResult r (λ _. Changes b c g) (λ _. KeepsCommit b c)
    → MatchResult r (λ _. Changes a c (λ t. g (f t))) (λ _. KeepsCommit a c)
then_step a b c f g (Ok x) p q = then_changes a b c f g p q
then_step a b c f g (Err e) p q = then_kept a b c p.kept q

-- the row of a key deleted and a row of that key inserted are the row put
puts_rows : (l : Layout) → is_two l ≡ true → (trees : Trees) (name : TableName) (row : Row) (t : Tables) → has_table AsMade name ≡ true
    → HasEachRow l trees (λ other. rows_in l other (with_rows name (λ rows. row ∷ rows) (with_rows name (without_table_row (keys_in name) (take (keys_in name) row)) t)))
    → HasEachRow l trees (λ other. rows_in l other (with_rows name (with_table_row (keys_in name) row) t))
puts_rows l two trees name row t here has other there =
    let news = λ (rows : List Row). row ∷ without_table_row (keys_in name) (take (keys_in name) row) rows in
    let both = subst (λ (u : Tables). HasEachRow l trees (λ other. rows_in l other u)) (twice name here (λ rows. row ∷ rows) (without_table_row (keys_in name) (take (keys_in name) row)) t) has in
    in_any_order (columns_in other) (trees (tree_in l other)) _ _ (same_rows name here l two news (with_table_row (keys_in name) row) t (put_again (keys_in name) row) other) (both other there)

pub puts : {X : Type 0} (a b c : State) (name : TableName) (row : Row) (r : Result X StoreFault) → has_table AsMade name ≡ true → Changes a b (with_rows name (without_table_row (keys_in name) (take (keys_in name) row)))
    → MatchResult r (λ _. Changes b c (with_rows name (λ rows. row ∷ rows))) (λ _. KeepsCommit b c)
    → MatchResult r (λ _. Changes a c (with_rows name (with_table_row (keys_in name) row))) (λ _. KeepsCommit a c)
puts a b c name row (Ok x) here p q = record {
  inside = q.inside;
  kept = then_kept a b c p.kept q.kept;
  tables = λ l two t has.
      let both = q.tables l two (with_rows name (without_table_row (keys_in name) (take (keys_in name) row)) t) (p.tables l two t has) in
      record { schema = both.schema; listed = both.listed; rows = puts_rows l two c.now.trees name row t here both.rows };
  place = λ l two t has there.
      q.place l two (with_rows name (without_table_row (keys_in name) (take (keys_in name) row)) t) (p.tables l two t has) there ∙ p.place l two t has there;
}
puts a b c name row (Err e) here p q = then_kept a b c p.kept q

-- ---- calls in turn
pub then_does : {S X Y : Type 0} (g : Ghosts S) (a b c : Transaction S) (f h : Tables → Tables) (x : X) (r : Result Y StoreFault)
    → Does g a b f (Ok x) → Does g b c h r → Does g a c (λ t. h (f t)) r
then_does g a b c f h x r first second =
    then_runs g a b c IsOfDatabase IsOfDatabase IsOfDatabase _ _ _ _ _ _ x r first second (λ done. done.inside)
    (λ early done next. then_step (state g a.conn.now) (state g b.conn.now) (state g c.conn.now) f h r done next) (λ fault. fault)

-- no row of the key was there, and then the row is inserted
pub then_puts : {S X : Type 0} (g : Ghosts S) (a b c : Transaction S) (name : TableName) (row : Row) (n : ℕ) (r : Result X StoreFault) → n ≡ 0 → has_table AsMade name ≡ true
    → Replaces g a b name row (Ok n) → Does g b c (with_rows name (λ rows. row ∷ rows)) r → Does g a c (with_rows name (with_table_row (keys_in name) row)) r
then_puts g a b c name row n r none here first second =
    then_runs g a b c IsOfDatabase IsOfDatabase IsOfDatabase _ _ _ _ _ _ n r first second (λ done. done.inside)
    (λ early done next.
    let without = subst (λ (k : ℕ). Changes (state g a.conn.now) (state g b.conn.now) (with_rows name (after_replace k name row))) none done in
    puts (state g a.conn.now) (state g b.conn.now) (state g c.conn.now) name row r here without next) (λ fault. fault)

-- a statement that fails commits nothing
statement_keeps : (sql : List ℕ) (params : Row) (old new : State) (e : Error) → ExecutesInside 0 sql params old new (Err e) → KeepsCommit old new
statement_keeps sql params old new e (inl (ran, inl same)) = unchanged_keeps old new same
statement_keeps sql params old new e (inl (ran, inr undone)) = undone_keeps old new undone
statement_keeps sql params old new e (inr h) = unchanged_keeps old new h.2

pub statement_fails : {S X : Type 0} (g : Ghosts S) (old new : Transaction S) (sql : List ℕ) (params : Row) (e : Error) (Done : X → Type 0) (r : Result X StoreFault)
    → new.conn.ghost_name ≡ old.conn.ghost_name
    → (HasCleanDisk (state g new.conn.now) → IsTrue (state g old.conn.now).in_transaction → ExecutesInside 0 sql params (state g old.conn.now) (state g new.conn.now) (Err e))
    → Survives (state g old.conn.now) (state g new.conn.now) (λ _. ⊥) → r ≡ Err (fault_of e)
    → RunsInside g old new IsOfDatabase Done (λ _. KeepsCommit (state g old.conn.now) (state g new.conn.now)) r
statement_fails g old new sql params e Done r same ran survives told =
    subst (λ (r : Result _ StoreFault). RunsInside g old new IsOfDatabase Done (λ _. KeepsCommit (state g old.conn.now) (state g new.conn.now)) r) (sym told)
    (record {
      same_reference = same;
      step = λ clean inside. statement_keeps sql params (state g old.conn.now) (state g new.conn.now) e (ran clean inside);
      fault = told_of_database e (fault_of e) refl;
      survives = survives;
    })

tables_more : (xs : List Edit) (e : Edit) (t : Tables) → tables_edited (xs ++ e ∷ []) t ≡ table_edited e (tables_edited xs t)
unfolding tables_edited
tables_more [] e t = refl
tables_more (x ∷ xs) e t = tables_more xs e (table_edited x t)

pub one_more : (old new : State) (es : List Edit) (k : ℕ) (e : Edit) → k < length es → e ≡ get_or es k e → Changes old new (λ t. table_edited e (tables_edited (take k es) t))
    → Changes old new (tables_edited (take (k + 1) es))
one_more old new es k e within is both = record {
  inside = both.inside;
  kept = both.kept;
  tables = λ l two t has.
      let more : tables_edited (take (k + 1) es) t ≡ table_edited e (tables_edited (take k es) t) =
      ap (λ l. tables_edited l t) (take_more es k e within ∙ ap (λ x. take k es ++ x ∷ []) (sym is)) ∙ tables_more (take k es) e t in
      subst (Holds l new.now) (sym more) (both.tables l two t has);
  place = both.place;
}

pub no_edits : (s : State) → IsTrue s.in_transaction → Changes s s (tables_edited [])
unfolding tables_edited
no_edits s inside = record { inside = inside; kept = record { was_open = λ open_now. open_now; committed = λ _. refl }; tables = λ l two t has. has; place = λ l two t has there. refl }

-- ---- the order of keys
order_changed : (l : Layout) → is_two l ≡ true → (name : TableName) (change : List Row → List Row) (t : Tables) → has_table AsMade name ≡ true → IsInOrder l t
    → in_key_order row_cmp (take (keys_in name)) (change (rows_in l name t)) ≡ true → IsInOrder l (with_rows name change t)
order_changed l two name change t here ordered changed =
    each_changed name here l two (λ other rows. in_key_order row_cmp (take (keys_in other)) rows ≡ true) change t changed (λ other _. ordered other)

order_mapped : (change : Row → Row) → ((row : Row) → take 1 (change row) ≡ take 1 row) → (rows : List Row)
    → in_key_order row_cmp (take 1) (map change rows) ≡ in_key_order row_cmp (take 1) rows
order_mapped change same [] = refl
order_mapped change same (row ∷ rows) = λ i. above rows i && order_mapped change same rows i
  where
    above : (rest : List Row) → list_all (λ next. is_lt (row_cmp (take 1 (change row)) (take 1 next))) (map change rest) ≡ list_all (λ next. is_lt (row_cmp (take 1 row) (take 1 next))) rest
    above [] = refl
    above (next ∷ rest) = λ i. is_lt (row_cmp (same row i) (same next i)) && above rest i

pub first_stays : (row : Row) (k : ℕ) (v : Value) → take 1 (slice_set row (suc k) v) ≡ take 1 row
first_stays [] k v = refl
first_stays (x ∷ row) k v = refl

keeps_first : (b : Bool) (row changed : Row) → take 1 changed ≡ take 1 row → take 1 (if b then changed else row) ≡ take 1 row
keeps_first true row changed same = same
keeps_first false row changed same = refl

edit_in_order : (l : Layout) → is_two l ≡ true → (edit : Edit) (t : Tables) → IsInOrder l t → IsInOrder l (table_edited edit t)
edit_in_order l two (SetPosition point position) t ordered =
    order_changed l two NetworkPoint (changed_point point (placed_row position)) t refl ordered
    (order_mapped _ (λ row. keeps_first (is_eq (row_cmp (take 1 row) (Text point ∷ []))) row (placed_row position row) (first_stays row 4 (position_value position))) t.points ∙ ordered NetworkPoint)
edit_in_order l two (SetHand point hand) t ordered =
    order_changed l two NetworkPoint (changed_point point (handed_row hand)) t refl ordered
    (order_mapped _ (λ row. keeps_first (is_eq (row_cmp (take 1 row) (Text point ∷ []))) row (handed_row hand row)
    (first_stays (slice_set row 6 (column (hand_values hand) 0)) 6 (column (hand_values hand) 1) ∙ first_stays row 5 (column (hand_values hand) 0))) t.points ∙ ordered NetworkPoint)
edit_in_order l two (PutHold h) t ordered = order_changed l two Hold (with_table_row 4 (hold_row h)) t refl ordered (in_key_order-with_row row_cmp (take 4) row_cmp_total (hold_row h) t.holds (ordered Hold))
edit_in_order l two (TakeHold h) t ordered = order_changed l two Hold (without_table_row 4 (hold_row h)) t refl ordered (in_key_order-without_row row_cmp (take 4) row_cmp_total (hold_row h) t.holds (ordered Hold))
edit_in_order l two (PutRecord r) t ordered =
    order_changed l two Clearance (with_table_row 2 (clearance_row r)) t refl ordered (in_key_order-with_row row_cmp (take 2) row_cmp_total (clearance_row r) t.clearances (ordered Clearance))
edit_in_order l two (PutStep row) t ordered = order_changed l two Step (with_table_row 4 (step_row row)) t refl ordered (in_key_order-with_row row_cmp (take 4) row_cmp_total (step_row row) t.steps (ordered Step))
edit_in_order l two (AddSection row) t ordered =
    order_changed l two Section (with_table_row 1 (section_row row)) t refl ordered (in_key_order-with_row row_cmp (take 1) row_cmp_total (section_row row) t.sections (ordered Section))
edit_in_order l two (AddPoint p) t ordered =
    order_changed l two NetworkPoint (with_table_row 1 (added_point p)) t refl ordered (in_key_order-with_row row_cmp (take 1) row_cmp_total (added_point p) t.points (ordered NetworkPoint))

-- edits keep the order of keys
pub edits_in_order : (l : Layout) → is_two l ≡ true → (edits : List Edit) (t : Tables) → IsInOrder l t → IsInOrder l (tables_edited edits t)
unfolding tables_edited
edits_in_order l two [] t ordered = ordered
edits_in_order l two (edit ∷ edits) t ordered = edits_in_order l two edits (table_edited edit t) (edit_in_order l two edit t ordered)

-- ---- a transaction
-- where the table of the journal stays, it has one row as before
pub still_placed : (l : Layout) (before after : Database) → SamePlace l before after → IsPlaced l before.trees → IsPlaced l after.trees
still_placed l before after same (None, none) = (None, none)
still_placed l before after same (Some place, has) = (Some place, (has.0, subst (λ tree. HasRows (columns_in Journal) tree (place ∷ [])) (sym (same has.0)) has.1))

pub edited_tables : (l : Layout) → is_two l ≡ true → (db : Database) (edits : List Edit) (t : Tables) → IsInOrder l t → Holds l db (tables_edited edits t) → IsPlaced l db.trees
    → HasTables db (tables_edited edits t)
edited_tables l two db edits t ordered has placed = record { layout = l; two = two; here = record { holds = has; in_order = edits_in_order l two edits t ordered; placed = placed } }

-- what a transaction leaves that is committed as it is in `mid`, wherever it is cut
pub crash_leaves : {S : Type 0} (g : Ghosts S) (old mid end : Held S) (P : Trees → Type 0) → Survives (state g (record old { in_transaction = true })) (state g mid) (λ _. ⊥)
    → Survives (state g mid) (state g end) (λ db. db ≡ (state g mid).now.trees) → (HasCleanDisk (state g mid) → P (state g mid).now.trees) → Survives (state g old) (state g end) P
crash_leaves g old mid end P inside ended has =
    survives_then (state g old) (state g mid) (state g end) _ _ P (λ _ db none. absurd none) (λ clean db is. subst P (sym is) (has (omega (arith, ended.clean))))
    (survives_begin g old (state g mid) _ inside) ended
