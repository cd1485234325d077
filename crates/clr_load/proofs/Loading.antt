-- What the listing of a table shows.
use Rattle.std.proofs.Common.{◌≡◌, ◌≤◌, ◌-◌, ◌^◌, ℕ, zero, suc, List, [], ◌∷◌, map, take, drop, length, Bool, true, false, if◌then◌else◌, nat_le, slice_get, unwrap_or, ◌⊎◌, inl, inr, Option, Some, None, Err, Ok, Result, IsTrue, refl, sym, ap, subst, ◌∙◌, arith}
use Rattle.std.specs.List.{AllByRecursion, flat_map, list_all}
use Rattle.std.specs.List.Sorted.{IsPermutation}
use Rattle.std.specs.Ordering.{is_lt}
use Rattle.std.specs.declared.cmp.Ordering.{Ordering}
use Rattle.std.specs.declared.cmp.Ordering.TheVariants.{Less, Equal, Greater}
use Rattle.std.proofs.lemmas.List.{length-map, length-take-le}
use Rattle.std.proofs.lemmas.List.Sorted.{IsPermutation-map, IsPermutation-trans, length_permutation}
use Rattle.sqlite.specs.Order.{Row, column, row_cmp}
use Rattle.sqlite.specs.Program.{overlay}
use Rattle.sqlite.specs.Query.{IsAnswer, Output, output, output_cmp}
use Rattle.sqlite.specs.Clock.{timed}
use Rattle.sqlite.specs.Effect.{Database}
use Rattle.sqlite.specs.Listing.{understood}
use Rattle.sqlite.specs.State.{State, Shown, ShowsRows, IsUnchanged, IsRolledBack, KeepsCommit, RunsCommand, FailsToShow, FailsToQuery, IsNotRun, IsTooLate}
use Rattle.sqlite.specs.Held.{state}
use Rattle.sqlite.specs.Store.{Ghosts}
use Rattle.sqlite.specs.declared.error.Error.{Error}
use Rattle.sqlite.specs.declared.transaction.Transaction.{Transaction}
use Rattle.sqlite_resolve.specs.declared.compiled.Compiled.{Compiled}
use Rattle.sqlite_schema.specs.declared.command.Returning.{Returning}
use Rattle.sqlite.specs.Term.{eval_all}
use Rattle.sqlite.specs.Tree.{Trees, IsAscending}
use Rattle.sqlite.specs.declared.types.Value.TheVariants.{Null}
use Rattle.sqlite.proofs.Callers.{IsPlain, reads_as}
use Rattle.sqlite_keyed.proofs.SortLemmas.{sorted_unique}
use Rattle.sqlite_sql.proofs.QueryLemmas.{output_cmp_total}
use Rattle.sqlite_trees.proofs.ListLemmas.{map-map, ascending-map}
use Rattle.clr_shelf.specs.Rows.{in_key_order}
use Rattle.clr_load.specs.Tables.{Tables}
use Rattle.clr_load.specs.declared.table_name.TableName.{TableName}
use Rattle.clr_load.specs.declared.table_name.TableName.TheVariants.{Meta, Section, Point, Staff, Clearance, Step, Hold, NetworkPoint, Journal}
use Rattle.clr_load.specs.Found.{Fails, Finds, Lists}
use Rattle.clr_load.specs.Layout.{AsMade, AsMadeLogged, AsMoved, AsMovedLogged, Layout, OfOne, has_rows, has_table, is_of_register, is_two, names_in, tree_in}
use Rattle.clr_load.specs.Schema.{behind_meta, columns_in, keys_in, no_schema, schema_in, schema_of}
use Rattle.clr_load.specs.Sql.{select_sql}
use Rattle.clr_load.specs.Stored.{HasMeta, HasPlaceIn, HasRows, HasTablesIn, Holds, IsInOrder, bodies, fits_columns, rows_in}
use Rattle.clr_load.specs.declared.fault.StoreFault.{StoreFault}
use Rattle.clr_load.proofs.Columns.{both_true, fits_length, key_order, met_values, values_all, values_from, values_shift, values_take}
use Rattle.clr_load.proofs.Texts.{listing, meta_is, meta_unlisted, order_from, select_is, select_unknown, select_unlisted, width_of}

-- a table of the register itself is a table of the layout
pub in_layout : (l : Layout) (name : TableName) → has_rows l name ≡ true → has_table l name ≡ true
in_layout l name has = (both_true (is_of_register name) (has_table l name) has).1

-- a tree of the database is read as it is, where no table is computed first
pub laid : (db : Trees) (tree : ℕ) → overlay db [] tree ≡ db tree
laid db tree = go (nat_le (2 ^ 31) tree)
  where
    go : (b : Bool) → unwrap_or (if b then slice_get [] (tree - 2 ^ 31) else None) (db tree) ≡ db tree
    go true = refl
    go false = refl

values_none : (n at : ℕ) → values_from (suc at) n [] ≡ values_from at n []
values_none zero at = refl
values_none (suc n) at = ap (λ l. Null ∷ l) (values_none n (suc at))

-- the columns of a row, less its number
body_values : (n at : ℕ) (r : Row) → values_from (suc at) n r ≡ values_from at n (drop 1 r)
body_values n at [] = values_none n at
body_values n at (id ∷ row) = values_shift n at id row

order_values : (n at : ℕ) (params r : Row) → eval_all (map (λ k. k.0) (order_from at n)) (params ∷ r ∷ []) ≡ values_from (suc at) n r
order_values zero at params r = refl
order_values (suc n) at params r = ap (λ l. column r (suc at) ∷ l) (order_values n (suc at) params r)

-- what a row is sorted by, and what is shown of it
abbrev shown_as : TableName → Row → Output
shown_as name row = (values_from 0 (keys_in name) row, values_from 0 (width_of name) row)

output_is : (l : Layout) (name : TableName) (r : Row) → output (listing l name) ([] ∷ r ∷ []) ≡ shown_as name (drop 1 r)
output_is l name r i = (
  (order_values (keys_in name) 0 [] r ∙ body_values (keys_in name) 0 r) i,
  (met_values (width_of name) 1 [] r ∙ body_values (width_of name) 0 r) i,
)

each_row : (tree : List Row) → flat_map (λ r. ([] ∷ r ∷ []) ∷ []) tree ≡ map (λ r. [] ∷ r ∷ []) tree
each_row [] = refl
each_row (r ∷ tree) = ap (λ l. ([] ∷ r ∷ []) ∷ l) (each_row tree)

outputs : (l : Layout) (name : TableName) (tree : List Row) → map (output (listing l name)) (map (λ r. [] ∷ r ∷ []) tree) ≡ map (shown_as name) (bodies tree)
outputs l name [] = refl
outputs l name (r ∷ tree) = λ i. output_is l name r i ∷ outputs l name tree i

keys_within : (name : TableName) → keys_in name ≤ width_of name
keys_within Meta = omega arith
keys_within Section = omega arith
keys_within Point = omega arith
keys_within Staff = omega arith
keys_within Clearance = omega arith
keys_within Step = omega arith
keys_within Hold = omega arith
keys_within NetworkPoint = omega arith
keys_within Journal = omega arith

is_less : (o : Ordering) → is_lt o ≡ true → o ≡ Less
is_less Less h = refl
is_less Equal h = absurd cc
is_less Greater h = absurd cc

long_enough : (name : TableName) (row : Row) → fits_columns (columns_in name) row ≡ true → keys_in name ≤ length row
long_enough name row fits =
    let long : length row ≡ width_of name = fits_length (columns_in name) row fits in
    let within = keys_within name in omega arith

-- the key of a row, as it is sorted
key_values : (name : TableName) (row : Row) → fits_columns (columns_in name) row ≡ true
    → values_from 0 (keys_in name) (values_from 0 (keys_in name) row) ≡ take (keys_in name) row
key_values name row fits =
    let n = keys_in name in
    let long = long_enough name row fits in
    let taken : length (take n row) ≡ n = length-take-le n row long in
    ap (values_from 0 n) (values_take n row long) ∙ values_all n (take n row) taken

sorted_as : (l : Layout) (name : TableName) (a b : Row) → fits_columns (columns_in name) a ≡ true → fits_columns (columns_in name) b ≡ true
    → output_cmp (listing l name) (shown_as name a) (shown_as name b) ≡ row_cmp (take (keys_in name) a) (take (keys_in name) b)
sorted_as l name a b fits_a fits_b =
    key_order (keys_in name) 0 (values_from 0 (keys_in name) a) (values_from 0 (keys_in name) b)
    ∙ (λ i. row_cmp (key_values name a fits_a i) (key_values name b fits_b i))

-- rows in the order of their keys are sorted as the listing sorts them
rises : (l : Layout) (name : TableName) (rows : List Row) → list_all (fits_columns (columns_in name)) rows ≡ true → in_key_order row_cmp (take (keys_in name)) rows ≡ true
    → IsAscending (λ a b. output_cmp (listing l name) (shown_as name a) (shown_as name b) ≡ Less) rows
rises l name [] fits ordered = tt
rises l name (row ∷ rows) fits ordered =
    let fit = both_true (fits_columns (columns_in name) row) (list_all (fits_columns (columns_in name)) rows) fits in
    let parts = both_true (list_all (λ next. is_lt (row_cmp (take (keys_in name) row) (take (keys_in name) next))) rows) (in_key_order row_cmp (take (keys_in name)) rows) ordered in
    (above rows fit.1 parts.0 fit.0, rises l name rows fit.1 parts.1)
  where
    above : (rest : List Row) → list_all (fits_columns (columns_in name)) rest ≡ true → list_all (λ next. is_lt (row_cmp (take (keys_in name) row) (take (keys_in name) next))) rest ≡ true
        → fits_columns (columns_in name) row ≡ true → AllByRecursion (λ b. output_cmp (listing l name) (shown_as name row) (shown_as name b) ≡ Less) rest
    above [] fits low here = tt
    above (next ∷ rest) fits low here =
        let fit = both_true (fits_columns (columns_in name) next) (list_all (fits_columns (columns_in name)) rest) fits in
        let parts = both_true (is_lt (row_cmp (take (keys_in name) row) (take (keys_in name) next))) (list_all (λ next. is_lt (row_cmp (take (keys_in name) row) (take (keys_in name) next))) rest) low in
        (sorted_as l name row next here fit.0 ∙ is_less _ parts.0, above rest fit.1 parts.1 here)

whole_rows : (name : TableName) (rows : List Row) → list_all (fits_columns (columns_in name)) rows ≡ true → map (values_from 0 (width_of name)) rows ≡ rows
whole_rows name [] fits = refl
whole_rows name (row ∷ rows) fits =
    let fit = both_true (fits_columns (columns_in name) row) (list_all (fits_columns (columns_in name)) rows) fits in
    λ i. values_all (width_of name) row (fits_length (columns_in name) row fit.0) i ∷ whole_rows name rows fit.1 i

answer_is : (l : Layout) (name : TableName) (db : Trees) (rows shown : List Row) → HasRows (columns_in name) (db (tree_in l name)) rows → in_key_order row_cmp (take (keys_in name)) rows ≡ true
    → IsAnswer (listing l name) (overlay db []) [] shown → shown ≡ rows
answer_is l name db rows shown has ordered a =
    let tree = db (tree_in l name) in
    let kept : a.kept ≡ map (shown_as name) (bodies tree) =
    a.distinct ∙ ap (map (output (listing l name))) (a.grouped ∙ ap (flat_map (λ r. ([] ∷ r ∷ []) ∷ [])) (laid db (tree_in l name)) ∙ each_row tree) ∙ outputs l name tree in
    let all = IsPermutation-map (shown_as name) rows (bodies tree) has.same in
    let rise = ascending-map (λ x y. output_cmp (listing l name) x y ≡ Less) (shown_as name) rows (rises l name rows has.fit ordered) in
    let mixed = IsPermutation-trans _ _ _ all (subst (λ k. IsPermutation k a.ordered) kept a.same) in
    let sorted = sorted_unique (output_cmp (listing l name)) (output_cmp_total (listing l name)) (map (shown_as name) rows) a.ordered rise mixed a.sorted in
    a.shown ∙ ap (map (λ (o : Output). o.1)) sorted ∙ map-map (λ (o : Output). o.1) (shown_as name) rows ∙ whole_rows name rows has.fit

pub lists : (l : Layout) (old new : State) (name : TableName) (t : Tables) (shown : List Row) → has_rows l name ≡ true → Holds l old.now t → IsInOrder l t
    → Shown (select_sql name) [] old new shown → shown ≡ rows_in l name t
lists l old new name t shown there has ordered ran =
    let table = in_layout l name there in
    let text = select_is l name table in
    let read = reads_as (select_sql name) [] old new (schema_in l) has.schema _ text.is text.plain (select_unlisted l name table) shown ran in
    answer_is l name old.now.trees (rows_in l name t) shown (has.rows name there) (ordered name) (read.answer Null)

-- the table of the journal is listed as its one row
pub lists_place : (l : Layout) (old new : State) (place : Row) (shown : List Row) → old.now.schema ≡ schema_in l → HasPlaceIn l old.now.trees (Some place)
    → Shown (select_sql Journal) [] old new shown → shown ≡ place ∷ []
lists_place l old new place shown schema has ran =
    let text = select_is l Journal has.0 in
    let read = reads_as (select_sql Journal) [] old new (schema_in l) schema _ text.is text.plain (select_unlisted l Journal has.0) shown ran in
    answer_is l Journal old.now.trees (place ∷ []) shown has.1 refl (read.answer Null)

-- as many rows are listed as a table has
as_many : (l : Layout) (name : TableName) (db : Trees) (shown : List Row) → IsAnswer (listing l name) (overlay db []) [] shown → length (db (tree_in l name)) ≡ length shown
as_many l name db shown a =
    let tree = db (tree_in l name) in
    let kept : a.kept ≡ map (shown_as name) (bodies tree) =
    a.distinct ∙ ap (map (output (listing l name))) (a.grouped ∙ ap (flat_map (λ r. ([] ∷ r ∷ []) ∷ [])) (laid db (tree_in l name)) ∙ each_row tree) ∙ outputs l name tree in
    sym (length-map tree (drop 1)) ∙ sym (length-map (bodies tree) (shown_as name)) ∙ ap length (sym kept)
    ∙ sym (length_permutation a.kept a.ordered a.same) ∙ sym (length-map a.ordered (λ (o : Output). o.1)) ∙ ap length (sym a.shown)

pub as_many_listed : (l : Layout) (old new : State) (name : TableName) (shown : List Row) → has_table l name ≡ true → old.now.schema ≡ schema_in l
    → Shown (select_sql name) [] old new shown → length (old.now.trees (tree_in l name)) ≡ length shown
as_many_listed l old new name shown there has ran =
    let text = select_is l name there in
    let read = reads_as (select_sql name) [] old new (schema_in l) has _ text.is text.plain (select_unlisted l name there) shown ran in
    as_many l name old.now.trees shown (read.answer Null)

pub no_length : {X : Type 0} (xs : List X) → length xs ≡ 0 → xs ≡ []
no_length [] few = refl
no_length (x ∷ xs) few = absurd (omega (arith, few))

-- where nothing is listed, nothing is there
no_items : {X Y : Type 0} (f : X → Y) (xs : List X) → [] ≡ map f xs → xs ≡ []
no_items f [] none = refl
no_items f (x ∷ xs) none = absurd cc

none_answered : (l : Layout) (name : TableName) (db : Trees) → IsAnswer (listing l name) (overlay db []) [] [] → db (tree_in l name) ≡ []
none_answered l name db a =
    let tree = db (tree_in l name) in
    let kept : a.kept ≡ map (shown_as name) (bodies tree) =
    a.distinct ∙ ap (map (output (listing l name))) (a.grouped ∙ ap (flat_map (λ r. ([] ∷ r ∷ []) ∷ [])) (laid db (tree_in l name)) ∙ each_row tree) ∙ outputs l name tree in
    let ordered = no_items (λ (o : Output). o.1) a.ordered a.shown in
    let few : length a.kept ≡ 0 = sym (length_permutation a.kept a.ordered a.same) ∙ ap length ordered in
    let none : [] ≡ map (shown_as name) (bodies tree) = sym (no_length a.kept few) ∙ kept in
    no_items (drop 1) tree (sym (no_items (shown_as name) (bodies tree) none))

pub none_listed : (l : Layout) (old new : State) (name : TableName) (shown : List Row) → has_table l name ≡ true → old.now.schema ≡ schema_in l
    → Shown (select_sql name) [] old new shown → shown ≡ [] → old.now.trees (tree_in l name) ≡ []
none_listed l old new name shown there has ran none =
    let text = select_is l name there in
    let read = reads_as (select_sql name) [] old new (schema_in l) has _ text.is text.plain (select_unlisted l name there) shown ran in
    none_answered l name old.now.trees (subst (IsAnswer (listing l name) (overlay old.now.trees []) []) none (read.answer Null))

-- the rows that have the version are listed whatever the other tables are
pub lists_meta : (old new : State) (meta shown : List Row) → HasMeta old.now meta → Shown (select_sql Meta) [] old new shown → shown ≡ meta
lists_meta old new meta shown has ran =
    let text = meta_is has.others in
    let read = reads_as (select_sql Meta) [] old new (behind_meta has.others) has.schema _ text.is text.plain (meta_unlisted has.others) shown ran in
    answer_is OfOne Meta old.now.trees meta shown has.rows has.in_order (read.answer Null)

-- nothing is listed in a database without tables
pub never_shown : (old new : State) (name : TableName) (rows : List Row) → old.now.schema ≡ no_schema → Shown (select_sql name) [] old new rows → ⊥
unfolding Shown
never_shown old new name rows bare h = let unknown = sym (select_unknown name) ∙ sym (ap (λ s. understood s (select_sql name)) bare) ∙ h.1.is in cc

-- the tables of a register begin with the one that has the version
pub has_meta : (l : Layout) (db : Database) (t : Tables) → HasTablesIn l db t → HasMeta db t.meta
has_meta l db t has = record {
  others = schema_of l (drop 1 (names_in l));
  schema = has.holds.schema ∙ first l;
  rows = has.holds.rows Meta refl;
  in_order = has.in_order Meta;
}
  where
    first : (l : Layout) → schema_in l ≡ behind_meta (schema_of l (drop 1 (names_in l)))
    first OfOne = refl
    first AsMade = refl
    first AsMoved = refl
    first AsMadeLogged = refl
    first AsMovedLogged = refl

-- ---- what a query inside a transaction leaves of the last commit
pub unchanged_keeps : (old new : State) → IsUnchanged old new → KeepsCommit old new
unchanged_keeps old new h = record { was_open = λ _. h.0.was_open; committed = λ _. h.0.committed_is }

pub undone_keeps : (old new : State) → IsRolledBack old new → KeepsCommit old new
undone_keeps old new h = record { was_open = h.was_open; committed = λ is_open. (h.undone is_open).1 }

-- what a query that showed rows says of the connection
record Keeps (old new : State) : Type 0 where
  pub was_open : IsTrue old.is_open
  pub inside : IsTrue new.in_transaction
  pub kept : KeepsCommit old new

shown_keeps : (sql : List ℕ) (params : Row) (old new : State) (rows : List Row) → IsTrue old.in_transaction
    → Shown sql params old new rows → Keeps old new
unfolding Shown
shown_keeps sql params old new rows inside h = go h.0.returning refl
  where
    go : (returning : Option Returning) → h.0.returning ≡ returning → Keeps old new
    go None is =
        let it = subst (ShowsRows old new sql h.0 (timed params h.0.formats h.1.now) rows) is h.2 in
        record { was_open = it.3.0.was_open; inside = rw it.3.0.mode inside; kept = unchanged_keeps old new it.3 }
    go (Some what) is =
        let it = subst (ShowsRows old new sql h.0 (timed params h.0.formats h.1.now) rows) is h.2 in
        record {
          was_open = it.1.shown.was_open;
          inside = rw it.1.shown.mode inside;
          kept = record { was_open = λ _. it.1.shown.was_open; committed = λ _. it.1.shown.committed_is ∙ rw inside refl };
        }

command_keeps : (old new : State) (sql : List ℕ) (c : Compiled) (params : Row) (e : Error) → RunsCommand old new sql c params (Err e) → KeepsCommit old new
command_keeps old new sql c params e (inl h) = unchanged_keeps old new h.1
command_keeps old new sql c params e (inr h) = undone_keeps old new h.3

show_keeps : (old new : State) (sql : List ℕ) (c : Compiled) (params : Row) (e : Error) (returning : Option Returning) → FailsToShow old new sql c params e returning → KeepsCommit old new
show_keeps old new sql c params e None h = unchanged_keeps old new h.3
show_keeps old new sql c params e (Some what) h = command_keeps old new sql c params e h

pub query_keeps : (sql : List ℕ) (params : Row) (old new : State) (e : Error) → FailsToQuery sql params old new e ⊎ IsTooLate sql params old new e → KeepsCommit old new
unfolding FailsToQuery IsNotRun
query_keeps sql params old new e (inl (inl (inl h))) = unchanged_keeps old new h.1
query_keeps sql params old new e (inl (inl (inr h))) = undone_keeps old new h.3
query_keeps sql params old new e (inl (inr h)) = show_keeps old new sql h.0 (timed params h.0.formats h.1.now) e h.0.returning h.2
query_keeps sql params old new e (inr h) = unchanged_keeps old new h.5

stays : (l : Layout) (old new : State) (name : TableName) (rows : List Row) → has_table l name ≡ true → old.now.schema ≡ schema_in l → Shown (select_sql name) [] old new rows → new.now ≡ old.now
unfolding Shown
stays l old new name rows there has h =
    let plain = subst (λ schema. IsPlain (understood schema (select_sql name))) (sym has) (select_is l name there).plain in
    let none = (subst IsPlain h.1.is plain).0 in
    let it = subst (ShowsRows old new (select_sql name) h.0 (timed [] h.0.formats h.1.now) rows) none h.2 in
    it.3.0.now_is

pub listed : (old new : State) (name : TableName) (rows : List Row) → IsTrue old.in_transaction
    → Shown (select_sql name) [] old new rows → Finds old new (λ l. has_rows l name) (λ l t. rows_in l name t) rows
listed old new name rows inside shown =
    let keeps = shown_keeps (select_sql name) [] old new rows inside shown in
    record {
      was_open = keeps.was_open;
      inside = keeps.inside;
      kept = keeps.kept;
      found_is = λ l there t has ordered.
          let same = stays l old new name rows (in_layout l name there) has.schema shown in
          (lists l old new name t rows there has ordered shown, subst (λ (db : Database). Holds l db t) (sym same) has);
    }

-- ---- one thing found after another
pub then_kept : (a b c : State) → KeepsCommit a b → KeepsCommit b c → KeepsCommit a c
then_kept a b c p q = record { was_open = λ o. p.was_open (q.was_open o); committed = λ o. q.committed o ∙ p.committed (q.was_open o) }

module _ (f g : Layout → Bool) (fewer : (l : Layout) → g l ≡ true → f l ≡ true) where
  -- what is found in some layouts is found in fewer
  pub finds_in : {A : Type 0} (a b : State) (F : Layout → Tables → A) (x : A) → Finds a b f F x → Finds a b g F x
  finds_in a b F x p = record { was_open = p.was_open; inside = p.inside; kept = p.kept; found_is = λ l fit. p.found_is l (fewer l fit) }

  pub fails_in : (a b : State) (fault : StoreFault) → Fails a b f fault → Fails a b g fault
  fails_in a b fault p = record { kept = p.kept; cause = λ l fit. p.cause l (fewer l fit) }

-- ---- the tables of version 2
pub both_in_two : (l : Layout) → is_two l ≡ true → has_rows l NetworkPoint ≡ true
both_in_two OfOne two = absurd cc
both_in_two AsMade two = refl
both_in_two AsMoved two = refl
both_in_two AsMadeLogged two = refl
both_in_two AsMovedLogged two = refl

-- ---- what calls list, in turn
-- what is listed in some layouts is listed in fewer
pub lists_in : {S A X : Type 0} (g : Ghosts S) (a b : Transaction S) (F : StoreFault → Type 0) (f h : Layout → Bool) (fewer : (l : Layout) → h l ≡ true → f l ≡ true)
    (of : Layout → Tables → A) (items : X → A) (r : Result X StoreFault) → Lists g a b F f of items r → Lists g a b F h of items r
lists_in g a b F f h fewer of items (Ok x) it = record {
  same_reference = it.same_reference;
  step = λ clean inside. finds_in f h fewer (state g a.conn.now) (state g b.conn.now) of (items x) (it.step clean inside);
  fault = tt;
  survives = it.survives;
}
lists_in g a b F f h fewer of items (Err e) it = record {
  same_reference = it.same_reference;
  step = λ clean inside. fails_in f h fewer (state g a.conn.now) (state g b.conn.now) e (it.step clean inside);
  fault = it.fault;
  survives = it.survives;
}
