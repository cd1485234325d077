-- What UPDATE of all columns of the row of a key makes of a table: that row is put, where there was one.
use Rattle.std.proofs.Common.{◌≡◌, ◌≤◌, ◌<◌, ◌+◌, ℕ, zero, suc, List, [], ◌∷◌, ◌++◌, All, map, drop, take, length, Bool, true, false, get_or, not, ◌&&◌, Ok, None, inl, inr, refl, sym, ap, subst, ◌∙◌, arith}
use Rattle.std.specs.Prelude.{filter, unwrap_or}
use Rattle.std.specs.List.{list_all}
use Rattle.std.specs.List.Sorted.{IsPermutation}
use Rattle.std.specs.Cmp.{tied_itself}
use Rattle.std.specs.Ordering.{is_eq, is_ne}
use Rattle.std.specs.declared.cmp.Ordering.{Ordering}
use Rattle.std.specs.declared.cmp.Ordering.TheVariants.{Less, Equal, Greater}
use Rattle.std.proofs.lemmas.Bool.{true≢false}
use Rattle.std.proofs.lemmas.List.Elements.{All-head, All-map, All-tail, filter_agree}
use Rattle.std.proofs.lemmas.List.Sorted.{All-permutation, Contains-permutation, IsPermutation-cons, IsPermutation-map, IsPermutation-trans}
use Rattle.sqlite.specs.Cast.{cast, cast_row}
use Rattle.sqlite.specs.Does.{AtPlace, Does, OnRows, Tally}
use Rattle.sqlite.specs.Edit.{edit_of, put_all, are_fresh, is_taken, have_rowids, without_all}
use Rattle.sqlite.specs.Effect.{Database}
use Rattle.sqlite.specs.Kind.TheVariants as kind
use Rattle.sqlite.specs.Listing.{understood}
use Rattle.sqlite.specs.Order.{Row, column, value_cmp}
use Rattle.sqlite.specs.Ops.{binary, is_true}
use Rattle.sqlite.specs.Program.{overlay}
use Rattle.sqlite.specs.Query.{Query, IsAnswer}
use Rattle.sqlite.specs.Rowids.TheVariants.{Given}
use Rattle.sqlite.specs.Rows.{Written}
use Rattle.sqlite.specs.State.{State, mode_of, ExecutesInside}
use Rattle.sqlite.specs.Term.{eval_all, holds}
use Rattle.sqlite.specs.Tree.{Trees, put_row, rowid}
use Rattle.sqlite.specs.declared.types.Value.{Value}
use Rattle.sqlite.specs.declared.types.Value.TheVariants.{Null, Int, Real, Text, Blob}
use Rattle.sqlite.proofs.Callers.{statement_of, runs_as}
use Rattle.sqlite.specs.Collation.TheVariants.{Binary}
use Rattle.sqlite_rules.specs.Calls.{ids_of}
use Rattle.sqlite_rules.specs.Edit.{id_in}
use Rattle.sqlite_rules.specs.Lists.{Has}
use Rattle.sqlite_rules.proofs.ListLemmas.{all_has, contains_had, has_contained, some_from}
use Rattle.sqlite_schema.specs.Rules.{agree, clashes, differ, equal, passes}
use Rattle.sqlite_schema.specs.declared.schema.Constraint.TheVariants.{Unique}
use Rattle.sqlite_sql.specs.declared.ops.BinaryOp.TheVariants.{Compare}
use Rattle.sqlite_sql.specs.declared.ops.CompareOp.TheVariants.{Eq}
use Rattle.sqlite_trees.proofs.ListLemmas.{map-map}
use Rattle.sqlite_trees.proofs.TreeLemmas.{IsShaped-put_row}
use Rattle.sqlite_trees.specs.View.{is_int}
use Rattle.sqlite_value.specs.Keys.{first_key, plain}
use Rattle.sqlite_value.proofs.OrderLemmas.{value_cmp_total}
use Rattle.clr_load.specs.TableEdits.{with_table_row, without_table_row}
use Rattle.clr_load.specs.declared.table_name.TableName.{TableName}
use Rattle.clr_load.specs.declared.table_name.TableName.TheVariants.{Meta, Section, Point, Staff, Clearance, Step, Hold, NetworkPoint, Journal}
use Rattle.clr_store.specs.Change.{Changes, after_replace, with_rows}
use Rattle.clr_load.specs.Layout.{has_table, tree_in}
use Rattle.clr_load.specs.declared.layout.Layout.{Layout}
use Rattle.clr_load.specs.declared.layout.Layout.TheVariants.{AsMade, AsMadeLogged, AsMoved, AsMovedLogged, OfOne}
use Rattle.clr_load.specs.Schema.{columns_in, first_columns, keys_in, schema_in, table_in}
use Rattle.clr_load.specs.Sql.{replace_sql}
use Rattle.clr_load.specs.Stored.{HasRows, bodies, fits_columns, is_set, rows_in}
use Rattle.clr_load.proofs.AllRead.{same_value}
use Rattle.clr_load.proofs.Columns.{both_true, cast_fits, equal_is, fits_length, says, sets_from, values_all, values_from}
use Rattle.clr_load.proofs.Texts.{key_tests, replace_is, replaced, replacing, terms_from, tests_from, width_of}
use Rattle.clr_store.proofs.Effects.{AreUnique, are_unique, ids_listed, is_met, no_reference, one_write, shown_rows, task_on, went, wrote}
use Rattle.clr_store.proofs.Inside.{changed_to, in_any_order, put_again, runs_inside, taken_away}
use Rattle.clr_store.proofs.Layouts.{at_place, in_two, rows_in_two}
use Rattle.clr_store.proofs.RowLemmas.{put_fresh, removed}
use Rattle.clr_store.proofs.Updates.{fresh_parts, given_numbers, put_all_fresh}

-- ---- the rows of a key are met by the first parameters
pub column_taken : (n at : ℕ) (row : Row) → at < n → column (take n row) at ≡ column row at
column_taken zero at row low = absurd (omega arith)
column_taken (suc n) at [] low = refl
column_taken (suc n) zero (v ∷ row) low = refl
column_taken (suc n) (suc at) (v ∷ row) low = column_taken n at row (omega arith)

pub tests_taken : (n at k : ℕ) (params r : Row) → at + n ≤ k → list_all (holds (take k params ∷ r ∷ [])) (tests_from at n) ≡ list_all (holds (params ∷ r ∷ [])) (tests_from at n)
tests_taken zero at k params r low = refl
tests_taken (suc n) at k params r low =
    λ i. is_true (binary (Compare Eq Binary) (column r (suc at)) (column_taken k at params (omega arith) i)) && tests_taken n (suc at) k params r (omega arith) i

-- ---- no two rows have the same key
clear : (b : Bool) → (not b && true) ≡ true → b ≡ false
clear true h = absurd cc
clear false h = refl

-- what the rule of unique keys says of a table of the register
pub unique_is : (l : Layout) (name : TableName) (db : Trees) (r : Row) → has_table l name ≡ true → passes Unique (schema_in l) db (table_in l name) r ≡ true
    → clashes plain (first_columns 1 (keys_in name)) (db (tree_in l name)) r ≡ false
unique_is OfOne Meta db r has h = clear _ h
unique_is AsMade Meta db r has h = clear _ h
unique_is AsMoved Meta db r has h = clear _ h
unique_is AsMadeLogged Meta db r has h = clear _ h
unique_is AsMovedLogged Meta db r has h = clear _ h
unique_is OfOne Section db r has h = clear _ h
unique_is AsMade Section db r has h = clear _ h
unique_is AsMoved Section db r has h = clear _ h
unique_is AsMadeLogged Section db r has h = clear _ h
unique_is AsMovedLogged Section db r has h = clear _ h
unique_is OfOne Point db r has h = clear _ h
unique_is AsMade Point db r has h = absurd cc
unique_is AsMoved Point db r has h = clear _ h
unique_is AsMadeLogged Point db r has h = absurd cc
unique_is AsMovedLogged Point db r has h = clear _ h
unique_is OfOne Staff db r has h = clear _ h
unique_is AsMade Staff db r has h = clear _ h
unique_is AsMoved Staff db r has h = clear _ h
unique_is AsMadeLogged Staff db r has h = clear _ h
unique_is AsMovedLogged Staff db r has h = clear _ h
unique_is OfOne Clearance db r has h = clear _ h
unique_is AsMade Clearance db r has h = clear _ h
unique_is AsMoved Clearance db r has h = clear _ h
unique_is AsMadeLogged Clearance db r has h = clear _ h
unique_is AsMovedLogged Clearance db r has h = clear _ h
unique_is OfOne Step db r has h = clear _ h
unique_is AsMade Step db r has h = clear _ h
unique_is AsMoved Step db r has h = clear _ h
unique_is AsMadeLogged Step db r has h = clear _ h
unique_is AsMovedLogged Step db r has h = clear _ h
unique_is OfOne Hold db r has h = clear _ h
unique_is AsMade Hold db r has h = clear _ h
unique_is AsMoved Hold db r has h = clear _ h
unique_is AsMadeLogged Hold db r has h = clear _ h
unique_is AsMovedLogged Hold db r has h = clear _ h
unique_is OfOne NetworkPoint db r has h = absurd cc
unique_is AsMade NetworkPoint db r has h = clear _ h
unique_is AsMoved NetworkPoint db r has h = clear _ h
unique_is AsMadeLogged NetworkPoint db r has h = clear _ h
unique_is AsMovedLogged NetworkPoint db r has h = clear _ h
unique_is OfOne Journal db r has h = absurd cc
unique_is AsMade Journal db r has h = absurd cc
unique_is AsMoved Journal db r has h = absurd cc
unique_is AsMadeLogged Journal db r has h = clear _ h
unique_is AsMovedLogged Journal db r has h = clear _ h

equal_itself : (v : Value) → is_set v ≡ true → equal Binary v v ≡ true
equal_itself v set = equal_is v v set ∙ ap is_eq (tied_itself value_cmp_total v)

-- rows with the same values under two numbers agree in their keys
agree_itself : (n at : ℕ) (row : Row) (x y : Value) → sets_from at n row ≡ true → agree plain (first_columns (suc at) n) (x ∷ row) (first_columns (suc at) n) (y ∷ row) ≡ true
unfolding first_key
agree_itself zero at row x y set = refl
agree_itself (suc n) at row x y set =
    let parts = both_true (is_set (column row at)) (sets_from (suc at) n row) set in
    rw (equal_itself (column row at) parts.0, agree_itself n (suc at) row x y parts.1) refl

other_than : (o : Ordering) → is_eq o ≡ false → is_ne o ≡ true
other_than Less h = refl
other_than Equal h = absurd cc
other_than Greater h = refl

pub differ_is : (x y : Value) → is_int x ≡ true → is_int y ≡ true → is_eq (value_cmp x y) ≡ false → differ x y ≡ true
unfolding binary value_cmp
differ_is (Int m) (Int n) xs ys apart = says _ ∙ other_than _ apart
differ_is (Int m) Null xs ys apart = absurd cc
differ_is (Int m) (Real y) xs ys apart = absurd cc
differ_is (Int m) (Text y) xs ys apart = absurd cc
differ_is (Int m) (Blob y) xs ys apart = absurd cc
differ_is Null y xs ys apart = absurd cc
differ_is (Real x) y xs ys apart = absurd cc
differ_is (Text x) y xs ys apart = absurd cc
differ_is (Blob x) y xs ys apart = absurd cc

-- rows that are put under numbers of their own have different ones
apart_in : (x y : Row) (left : List Row) → is_taken left x ≡ false → is_taken (put_row x left) y ≡ false → is_eq (value_cmp (rowid x) (rowid y)) ≡ false
apart_in x y left free taken = by_cases (is_eq (value_cmp (rowid x) (rowid y))) refl
  where
    there : Has (put_row x left) x
    there = has_contained _ _ (Contains-permutation (x ∷ left) (put_row x left) x (put_fresh x left free) (contains_had (x ∷ left) x (inl refl)))

    by_cases : (b : Bool) → is_eq (value_cmp (rowid x) (rowid y)) ≡ b → b ≡ false
    by_cases true tied = absurd (true≢false (sym (some_from (λ r. is_eq (value_cmp (rowid r) (rowid y))) (put_row x left) x there tied) ∙ taken))
    by_cases false apart = refl

module _ (name : TableName) (row : Row) (fits : fits_columns (columns_in name) row ≡ true) (is : length (take (keys_in name) row) ≡ keys_in name)
    (set : sets_from 0 (keys_in name) (take (keys_in name) row) ≡ true) where
  key : Row
  key = take (keys_in name) row

  met : Row → Bool
  met = is_met (key_tests name) row

  set_row : sets_from 0 (keys_in name) row ≡ true
  set_row = sets_taken (keys_in name) 0 (keys_in name) row (omega arith) set
    where
      sets_taken : (n at k : ℕ) (params : Row) → at + n ≤ k → sets_from at n (take k params) ≡ true → sets_from at n params ≡ true
      sets_taken zero at k params low h = refl
      sets_taken (suc n) at k params low h =
          let parts = both_true (is_set (column (take k params) at)) (sets_from (suc at) n (take k params)) h in
          rw (sym (ap is_set (column_taken k at params (omega arith))) ∙ parts.0, sets_taken n (suc at) k params (omega arith) parts.1) refl

  -- a row under a number
  IsMade : Row → Type 0
  IsMade r = r ≡ rowid r ∷ row

  -- the parameters of the statement are the columns of each row that it makes
  given_here : (n at : ℕ) (r : Row) → eval_all (terms_from 0 at n) (row ∷ r ∷ []) ≡ values_from at n row
  given_here zero at r = refl
  given_here (suc n) at r = ap (λ values. column row at ∷ values) (given_here n (suc at) r)

  made_is : (l : Layout) (r : Row) → IsMade (cast_row (table_in l name) (drop 1 (eval_all (Query.project (replaced l name)) (row ∷ r ∷ []))))
  unfolding IsMade
  made_is l r =
      ap (λ values. cast_row (table_in l name) (column r 0 ∷ values)) (given_here (width_of name) 0 r ∙ values_all (width_of name) row (fits_length (columns_in name) row fits))
      ∙ ap (λ values. cast kind.Integer (column r 0) ∷ values) (cast_fits (columns_in name) row fits)

  -- two of them break the rule of unique keys
  never_two : (l : Layout) (next : Trees) (left rest : List Row) (x y : Row) → has_table l name ≡ true → AreUnique l next name → next (tree_in l name) ≡ put_all left (x ∷ y ∷ rest)
      → are_fresh left (x ∷ y ∷ rest) ≡ true → have_rowids (x ∷ y ∷ rest) ≡ true → IsMade x → IsMade y → ⊥
  unfolding IsMade
  never_two l next left rest x y there unique rows fresh keyed x_made y_made =
      let news = x ∷ y ∷ rest in
      let keys = first_columns 1 (keys_in name) in
      let tree = next (tree_in l name) in
      let same : IsPermutation (news ++ left) tree = subst (IsPermutation (news ++ left)) (sym rows) (put_all_fresh news left fresh) in
      let has_x : Has tree x = has_contained _ _ (Contains-permutation _ _ _ same (contains_had (news ++ left) x (inl refl))) in
      let has_y : Has tree y = has_contained _ _ (Contains-permutation _ _ _ same (contains_had (news ++ left) y (inr (inl refl)))) in
      let first = fresh_parts left x (y ∷ rest) fresh in
      let second = fresh_parts (put_row x left) y rest first.1 in
      let numbers = both_true (is_int (rowid x)) (have_rowids (y ∷ rest)) keyed in
      let differs : differ (rowid x) (rowid y) ≡ true =
      differ_is (rowid x) (rowid y) numbers.0 (both_true (is_int (rowid y)) (have_rowids rest) numbers.1).0 (apart_in x y left first.0 second.0) in
      let agrees : agree plain keys x keys y ≡ true =
      (λ i. agree plain keys (x_made i) keys (y_made i)) ∙ agree_itself (keys_in name) 0 row (rowid x) (rowid y) set_row in
      let clash : (agree plain keys x keys y && differ (rowid x) (rowid y)) ≡ true = rw (agrees, differs) refl in
      true≢false (sym (some_from (λ other. agree plain keys other keys y && differ (rowid other) (rowid y)) tree x has_x clash)
      ∙ unique_is l name next y there (all_has _ _ y unique has_y))

  -- a tree without the rows that are met, and with what the statement makes of them
  module _ (l : Layout) (there : has_table l name ≡ true) (tree rows : List Row) (has : HasRows (columns_in name) tree rows) where
    left : List Row
    left = filter (λ r. not (met r)) tree

    left_has : HasRows (columns_in name) left (without_table_row (keys_in name) key rows)
    unfolding left met key
    left_has = subst (λ others. HasRows (columns_in name) others (without_table_row (keys_in name) (take (keys_in name) row) rows))
        (filter_agree _ _ (λ r. ap not (tests_taken (keys_in name) 0 (keys_in name) row r (omega arith))) tree)
        (taken_away name (take (keys_in name) row) tree rows is set has)

    one_has : (x : Row) → are_fresh left (x ∷ []) ≡ true → is_int (rowid x) ≡ true → IsMade x → HasRows (columns_in name) (put_row x left) (with_table_row (keys_in name) row rows)
    unfolding IsMade key
    one_has x fresh keyed x_made =
        let others = without_table_row (keys_in name) (take (keys_in name) row) rows in
        let body : row ≡ drop 1 x = sym (ap (drop 1) x_made) in
        let front = subst (λ b. IsPermutation (row ∷ others) (b ∷ bodies left)) body (IsPermutation-cons row _ _ left_has.same) in
        in_any_order (columns_in name) (put_row x left) (row ∷ others) (with_table_row (keys_in name) row rows) (put_again (keys_in name) row rows) (record {
          same = IsPermutation-trans _ _ _ front (IsPermutation-map (drop 1) _ _ (put_fresh x left (fresh_parts left x [] fresh).0));
          numbered = IsShaped-put_row x left keyed left_has.numbered;
          fit = rw (fits, left_has.fit) refl;
        })

    rebuilt : (next : Trees) (news : List Row) (count : ℕ) → AreUnique l next name → next (tree_in l name) ≡ put_all left news → are_fresh left news ≡ true → have_rowids news ≡ true
        → All IsMade news → count ≡ length news → HasRows (columns_in name) (put_all left news) (after_replace count name row rows)
    unfolding key
    rebuilt next [] count unique now fresh keyed made counted = subst (λ n. HasRows (columns_in name) left (after_replace n name row rows)) (sym counted) left_has
    rebuilt next (x ∷ []) count unique now fresh keyed made counted =
        subst (λ n. HasRows (columns_in name) (put_row x left) (after_replace n name row rows)) (sym counted)
        (one_has x fresh (both_true (is_int (rowid x)) true keyed).0 (All-head IsMade x [] made))
    rebuilt next (x ∷ y ∷ rest) count unique now fresh keyed made counted =
        absurd (never_two l next left rest x y there unique now fresh keyed (All-head IsMade x (y ∷ rest) made) (All-head IsMade y rest (All-tail IsMade x (y ∷ rest) made)))

  pub replaces : (old new : State) (count : ℕ) → has_table AsMade name ≡ true → ExecutesInside 0 (replace_sql name) row old new (Ok count)
      → Changes old new (with_rows name (after_replace count name row))
  unfolding met left
  replaces old new count here ran = runs_inside (replace_sql name) row old new count _ ran (λ l two t has.
      let there = in_two name here l two in
      let db = old.now.trees in
      let table = table_in l name in
      let tree = db (tree_in l name) in
      let command = replacing l name in
      let read = replace_is l name there in
      let w = runs_as (replace_sql name) row old new (schema_in l) has.schema command read.is read.plain count ran.0 in
      let text = statement_of (replace_sql name) (understood (schema_in l) (replace_sql name)) in
      let placed = subst (λ s. Does old.step_limit (mode_of old) row (record old.now { schema = s }) text None command (Ok (w.tally, new.now))) has.schema w.changed in
      let done = went (subst (λ found. AtPlace (λ table. OnRows (record (task_on l name old row) { table = table }) (mode_of old) None command db) found (Ok (w.tally, new.now))) (at_place l name there) placed) in
      let ended = same_value (went (went done.2).2).2 in
      let now = ap (λ (p : Tally × Database). p.1) ended in
      let given = went done.1 in
      let written = went given.2 in
      let wrote_is = same_value written.2 in
      let trees : done.0.trees ≡ written.0 = ap (λ (it : Written). it.trees) wrote_is in
      let it = edit_of db table (ids_of given.0) Given 1 given.0 in
      let step = one_write l _ db written.0 it written.1 in
      let a : IsAnswer (replaced l name) (overlay db []) row given.0 = given.1.answer Null in
      let project = λ (r : Row). eval_all (Query.project (replaced l name)) (row ∷ r ∷ []) in
      let stored = λ (s : Row). cast_row table (drop 1 s) in
      let others = filter (λ r. not (is_met (key_tests name) row r)) tree in
      let shown = shown_rows (tree_in l name) (key_tests name) (Query.project (replaced l name)) [] db row given.0 a in
      let ids = ids_listed _ given.0 (filter (is_met (key_tests name) row) tree) shown (map-map (λ r. id_in (rowid r)) project (filter (is_met (key_tests name) row) tree)) in
      let gone : without_all tree (ids_of given.0) ≡ others = removed tree (has.rows name (rows_in_two name here l two)).numbered (is_met (key_tests name) row) (ids_of given.0) ids in
      let news : it.news ≡ map stored given.0 = given_numbers (without_all tree (ids_of given.0)) (map stored given.0) in
      let rows : written.0 (tree_in l name) ≡ put_all others (map stored given.0) = step.rows ∙ ap (λ x. put_all x it.news) gone ∙ ap (put_all others) news in
      let made : All IsMade (map stored given.0) =
      All-permutation IsMade (map stored (map project (filter (is_met (key_tests name) row) tree))) (map stored given.0) (IsPermutation-map stored _ _ shown)
      (All-map IsMade stored _ (All-map (λ s. IsMade (stored s)) project (filter (is_met (key_tests name) row) tree) (λ i d low. made_is l (get_or (filter (is_met (key_tests name) row) tree) i d)))) in
      let counted : count ≡ length (map stored given.0) =
      w.counted ∙ ap (λ (p : Tally × Database). unwrap_or (Tally.rows p.0) 0) ended ∙ ap (λ (it : Written). length it.rows) wrote_is ∙ ap length news in
      let uniques = are_unique l name written.0 there (step.fits.rules Unique no_reference) in
      let built = rebuilt l there tree (rows_in l name t) (has.rows name (rows_in_two name here l two)) written.0 (map stored given.0) count uniques rows
      (subst (λ n. are_fresh others n ≡ true) news (subst (λ x. are_fresh x it.news ≡ true) gone step.fresh))
      (subst (λ n. have_rowids n ≡ true) news step.keyed) made counted in
      let did = wrote l old new name _ written.0 (ap (λ (d : Database). d.schema) now) w.sound (ap (λ (d : Database). d.trees) now ∙ trees) rows step.tables in
      changed_to l two old new name _ (after_replace count name row) t here did has built)

-- where there was a row of the key, it is replaced
pub was_put : (old new : State) (name : TableName) (row : Row) (n : ℕ) → (n ≡ 0 → ⊥) → Changes old new (with_rows name (after_replace n name row))
    → Changes old new (with_rows name (with_table_row (keys_in name) row))
was_put old new name row zero some did = absurd (some refl)
was_put old new name row (suc n) some did = did
