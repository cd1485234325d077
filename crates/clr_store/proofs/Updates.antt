-- What UPDATE makes of the table of points.
use Rattle.std.proofs.Common.{◌≡◌, ℕ, zero, suc, List, [], ◌∷◌, ◌++◌, map, drop, take, Bool, true, false, not, ◌&&◌, if◌then◌else◌, Ok, Some, None, pos, refl, sym, ap, subst, ◌∙◌}
use Rattle.std.specs.Prelude.{filter, slice_set, slice_index_or}
use Rattle.std.specs.List.{list_all}
use Rattle.std.specs.List.Sorted.{IsPermutation}
use Rattle.std.specs.Ordering.{is_eq}
use Rattle.std.proofs.lemmas.List.{map-append}
use Rattle.std.proofs.lemmas.List.Sorted.{IsPermutation-refl, IsPermutation-trans, IsPermutation-cons, IsPermutation-middle, IsPermutation-map, IsPermutation-sym, IsPermutation-append_left, IsPermutation-append_right}
use Rattle.sqlite.specs.Cast.{cast_row, cast_all}
use Rattle.sqlite.specs.Does.{AtPlace, Does, OnRows, Tally}
use Rattle.sqlite.specs.Edit.{edit_of, put_all, are_fresh, is_taken, numbered, have_rowids, without_all}
use Rattle.sqlite.specs.Effect.{Database}
use Rattle.sqlite.specs.Kind.TheVariants as Kind
use Rattle.sqlite.specs.Listing.{understood}
use Rattle.sqlite.specs.Order.{Row, row_cmp}
use Rattle.sqlite.specs.Program.{overlay}
use Rattle.sqlite.specs.Query.{Query, IsAnswer}
use Rattle.sqlite.specs.Rowids.TheVariants.{Given}
use Rattle.sqlite.specs.Rows.{Written}
use Rattle.sqlite.specs.State.{State, mode_of, ExecutesInside}
use Rattle.sqlite.specs.Term.{Term, eval_all}
use Rattle.sqlite.specs.Tree.{put_row, rowid}
use Rattle.sqlite.specs.declared.types.Value.{Value}
use Rattle.sqlite.specs.declared.types.Value.TheVariants.{Null, Int, Text}
use Rattle.sqlite.proofs.Callers.{statement_of, runs_as}
use Rattle.sqlite_rules.specs.Calls.{ids_of}
use Rattle.sqlite_rules.specs.Edit.{id_in}
use Rattle.sqlite_schema.specs.declared.schema.Column.{Column}
use Rattle.sqlite_trees.proofs.ListLemmas.{map-map}
use Rattle.sqlite_trees.proofs.TreeLemmas.{IsShaped-put_row}
use Rattle.sqlite_trees.specs.View.{IsShaped}
use Rattle.sqlite_trees.specs.declared.store.Shape.TheVariants as Shape
use Rattle.clr_net.specs.declared.point.Position.{Position}
use Rattle.clr_rules.specs.Id.{Id}
use Rattle.clr_rules.specs.declared.change.Edit.TheVariants.{SetPosition, SetHand}
use Rattle.clr_load.specs.TableEdits.{changed_point, handed_row, placed_row, table_edited}
use Rattle.clr_load.specs.Tables.{position_value}
use Rattle.clr_load.specs.declared.table_name.TableName.TheVariants.{NetworkPoint}
use Rattle.clr_store.specs.Change.{Changes, with_rows}
use Rattle.clr_load.specs.Layout.{is_two, tree_in}
use Rattle.clr_load.specs.declared.layout.Layout.{Layout}
use Rattle.clr_load.specs.Schema.{columns_in, schema_in, table_in}
use Rattle.clr_load.specs.Stored.{HasRows, bodies, fits_columns, is_of_kind, rows_in}
use Rattle.clr_load.proofs.Columns.{both_true, cast_fits, values_all, values_from, fits_length}
use Rattle.clr_store.proofs.Inside.{changed_to, list_all-permutation, met_is, runs_inside}
use Rattle.clr_store.proofs.RowLemmas.{put_fresh, removed, shaped-filter}
use Rattle.clr_store.proofs.Effects.{ids_listed, is_met, one_write, shown_rows, task_on, went, wrote}
use Rattle.clr_store.proofs.Given.{position_fits}
use Rattle.clr_load.proofs.AllRead.{same_value}
use Rattle.clr_load.specs.Sql.{set_hand_sql, set_position_sql}
use Rattle.clr_load.proofs.Texts.{IsRead, changing, hand_terms, key_tests, position_terms, set_hand_is, set_position_is, updating}
use Rattle.clr_store.proofs.Layouts.{at_place, in_two, rows_in_two}

-- ---- rows put under numbers that they have
pub given_numbers : (rows news : List Row) → numbered Given rows news ≡ news
given_numbers rows [] = refl
given_numbers rows (r ∷ news) = ap (λ l. r ∷ l) (given_numbers (put_row r rows) news)

pub fresh_parts : (rows : List Row) (r : Row) (rs : List Row) → are_fresh rows (r ∷ rs) ≡ true → (is_taken rows r ≡ false) × (are_fresh (put_row r rows) rs ≡ true)
fresh_parts rows r rs h = go (is_taken rows r) (are_fresh (put_row r rows) rs) h
  where
    go : (a b : Bool) → (not a && b) ≡ true → (a ≡ false) × (b ≡ true)
    go true b e = absurd cc
    go false b e = (refl, e)

pub put_all_fresh : (news rows : List Row) → are_fresh rows news ≡ true → IsPermutation (news ++ rows) (put_all rows news)
put_all_fresh [] rows h = IsPermutation-refl _
put_all_fresh (r ∷ news) rows h =
    let parts = fresh_parts rows r news h in
    let moved = IsPermutation-sym _ _ (IsPermutation-middle news r rows) in
    IsPermutation-trans _ _ _ moved
    (IsPermutation-trans _ _ _ (IsPermutation-append_right news _ _ (put_fresh r rows parts.0)) (put_all_fresh news (put_row r rows) parts.1))

pub shaped_put_all : (news rows : List Row) → have_rowids news ≡ true → IsShaped Shape.Table rows → IsShaped Shape.Table (put_all rows news)
shaped_put_all [] rows h shaped = shaped
shaped_put_all (r ∷ news) rows h shaped =
    let parts = both_true _ (have_rowids news) h in shaped_put_all news (put_row r rows) parts.1 (IsShaped-put_row r rows parts.0 shaped)

-- ---- rows that are met, and the others
parted : {A : Type 0} (met : Row → Bool) (f g : Row → A) (rows : List Row) → IsPermutation (map (λ r. if met r then f r else g r) rows) (map f (filter met rows) ++ map g (filter (λ r. not (met r)) rows))
parted met f g [] = IsPermutation-refl _
parted met f g (r ∷ rows) = go (met r) refl (parted met f g rows)
  where
    go : (b : Bool) → met r ≡ b → IsPermutation (map (λ r. if met r then f r else g r) rows) (map f (filter met rows) ++ map g (filter (λ r. not (met r)) rows))
        → IsPermutation (map (λ r. if met r then f r else g r) (r ∷ rows)) (map f (filter met (r ∷ rows)) ++ map g (filter (λ r. not (met r)) (r ∷ rows)))
    go true e more = rw e (IsPermutation-cons (f r) _ _ more)
    go false e more = rw e (IsPermutation-trans _ _ _ (IsPermutation-cons (g r) _ _ more) (IsPermutation-sym _ _ (IsPermutation-middle (map f (filter met rows)) (g r) (map g (filter (λ r. not (met r)) rows)))))

pub map_on : {A B : Type 0} (p : A → Bool) (f g : A → B) → ((x : A) → p x ≡ true → f x ≡ g x) → (xs : List A) → list_all p xs ≡ true → map f xs ≡ map g xs
map_on p f g same [] h = refl
map_on p f g same (x ∷ xs) h = let parts = both_true (p x) (list_all p xs) h in λ i. same x parts.0 i ∷ map_on p f g same xs parts.1 i

pub list_all_map : {A B : Type 0} (p : B → Bool) (f : A → B) (xs : List A) → list_all p (map f xs) ≡ list_all (λ x. p (f x)) xs
list_all_map p f [] = refl
list_all_map p f (x ∷ xs) = ap (λ b. p (f x) && b) (list_all_map p f xs)

abbrev pub point_columns : List Column
point_columns = columns_in NetworkPoint

abbrev pub key_of_point : List ℕ → Row
key_of_point point = Text point ∷ []

abbrev pub is_point : List ℕ → Row → Bool
is_point point row = is_eq (row_cmp (take 1 row) (key_of_point point))

module _ (point : List ℕ) (more : Row) (terms : List Term) (change : Row → Row)
    (reads : (r : Row) → fits_columns point_columns (drop 1 r) ≡ true → eval_all terms ((Text point ∷ more) ∷ r ∷ []) ≡ change (drop 1 r))
    (fits : (row : Row) → fits_columns point_columns row ≡ true → fits_columns point_columns (change row) ≡ true) where
  params : Row
  params = Text point ∷ more

  met : Row → Bool
  met = is_met (key_tests NetworkPoint) params

  met_point : (r : Row) → met r ≡ is_point point (drop 1 r)
  unfolding met params
  met_point r = met_is NetworkPoint (key_of_point point) r refl refl

  -- the row of a point as the statement makes it, less its number
  made : Row → Row
  made r = cast_all point_columns (eval_all terms (params ∷ r ∷ []))

  made_is : (r : Row) → fits_columns point_columns (drop 1 r) ≡ true → made r ≡ change (drop 1 r)
  unfolding made params
  made_is r h = ap (cast_all point_columns) (reads r h) ∙ cast_fits point_columns (change (drop 1 r)) (fits (drop 1 r) h)

  -- a tree without the rows that are met, and with what the statement makes of them
  rebuilt : (l : Layout) (tree rows shown : List Row) → HasRows point_columns tree rows
      → IsPermutation (map (λ r. eval_all (Query.project (changing l terms)) (params ∷ r ∷ [])) (filter met tree)) shown
      → are_fresh (filter (λ r. not (met r)) tree) (map (λ s. cast_row (table_in l NetworkPoint) (drop 1 s)) shown) ≡ true
      → have_rowids (map (λ s. cast_row (table_in l NetworkPoint) (drop 1 s)) shown) ≡ true
      → HasRows point_columns (put_all (filter (λ r. not (met r)) tree) (map (λ s. cast_row (table_in l NetworkPoint) (drop 1 s)) shown)) (changed_point point change rows)
  unfolding made
  rebuilt l tree rows shown has same fresh keyed =
      let stored = λ (s : Row). cast_row (table_in l NetworkPoint) (drop 1 s) in
      let left = filter (λ r. not (met r)) tree in
      let changed = λ (row : Row). if is_point point row then change row else row in
      let tree_fits : list_all (λ r. fits_columns point_columns (drop 1 r)) tree ≡ true =
      sym (list_all_map (fits_columns point_columns) (drop 1) tree) ∙ list_all-permutation (fits_columns point_columns) rows (bodies tree) has.same has.fit in
      let one : map (λ r. changed (drop 1 r)) tree ≡ map (λ r. if met r then made r else drop 1 r) tree =
      map_on (λ r. fits_columns point_columns (drop 1 r)) (λ r. changed (drop 1 r)) (λ r. if met r then made r else drop 1 r)
      (λ r h. rw (met_point r, made_is r h) refl) tree tree_fits in
      let two : IsPermutation (map changed rows) (map (λ r. changed (drop 1 r)) tree) =
      subst (IsPermutation (map changed rows)) (map-map changed (drop 1) tree) (IsPermutation-map changed rows (bodies tree) has.same) in
      let three : IsPermutation (map (λ r. if met r then made r else drop 1 r) tree) (map made (filter met tree) ++ bodies left) = parted met made (drop 1) tree in
      let four : IsPermutation (map made (filter met tree)) (bodies (map stored shown)) =
      subst (λ x. IsPermutation x (bodies (map stored shown)))
      (map-map (λ s. drop 1 (stored s)) (λ r. eval_all (Query.project (changing l terms)) (params ∷ r ∷ [])) (filter met tree))
      (subst (IsPermutation (map (λ s. drop 1 (stored s)) (map (λ r. eval_all (Query.project (changing l terms)) (params ∷ r ∷ [])) (filter met tree)))) (sym (map-map (drop 1) stored shown))
      (IsPermutation-map (λ s. drop 1 (stored s)) _ _ same)) in
      let five : IsPermutation (bodies (map stored shown) ++ bodies left) (bodies (put_all left (map stored shown))) =
      subst (λ x. IsPermutation x (bodies (put_all left (map stored shown)))) (map-append (drop 1) (map stored shown) left)
      (IsPermutation-map (drop 1) _ _ (put_all_fresh (map stored shown) left fresh)) in
      record {
        same = IsPermutation-trans _ _ _ two (subst (λ x. IsPermutation x (bodies (put_all left (map stored shown)))) (sym one)
            (IsPermutation-trans _ _ _ three (IsPermutation-trans _ _ _ (IsPermutation-append_left (bodies left) _ _ four) five)));
        numbered = shaped_put_all (map stored shown) left keyed (shaped-filter _ tree has.numbered);
        fit = list_all_map (fits_columns point_columns) changed rows ∙ still_fit rows has.fit;
      }
    where
      one_fits : (row : Row) (b : Bool) → fits_columns point_columns row ≡ true → fits_columns point_columns (if b then change row else row) ≡ true
      one_fits row true h = fits row h
      one_fits row false h = h

      still_fit : (rows : List Row) → list_all (fits_columns point_columns) rows ≡ true → list_all (λ row. fits_columns point_columns (if is_point point row then change row else row)) rows ≡ true
      still_fit [] h = refl
      still_fit (row ∷ rows) h =
          let parts = both_true (fits_columns point_columns row) (list_all (fits_columns point_columns) rows) h in
          rw (one_fits row (is_point point row) parts.0, still_fit rows parts.1) refl

  pub updates : (sql : List ℕ) → ((l : Layout) → is_two l ≡ true → IsRead (schema_in l) sql (updating l terms))
      → (old new : State) (count : ℕ) → ExecutesInside 0 sql (Text point ∷ more) old new (Ok count) → Changes old new (with_rows NetworkPoint (changed_point point change))
  unfolding met params
  updates sql reads old new count ran = runs_inside sql params old new count _ ran (λ l two t has.
      let there = in_two NetworkPoint refl l two in
      let db = old.now.trees in
      let table = table_in l NetworkPoint in
      let tree = db (tree_in l NetworkPoint) in
      let command = updating l terms in
      let w = runs_as sql params old new (schema_in l) has.schema command (reads l two).is (reads l two).plain count ran.0 in
      let text = statement_of sql (understood (schema_in l) sql) in
      let placed = subst (λ s. Does old.step_limit (mode_of old) params (record old.now { schema = s }) text None command (Ok (w.tally, new.now))) has.schema w.changed in
      let done = went (subst (λ found. AtPlace (λ table. OnRows (record (task_on l NetworkPoint old params) { table = table }) (mode_of old) None command db) found (Ok (w.tally, new.now))) (at_place l NetworkPoint there) placed) in
      let now = ap (λ (p : Tally × Database). p.1) (same_value (went (went done.2).2).2) in
      let given = went done.1 in
      let written = went given.2 in
      let trees : done.0.trees ≡ written.0 = ap (λ (it : Written). it.trees) (same_value written.2) in
      let it = edit_of db table (ids_of given.0) Given 1 given.0 in
      let step = one_write l _ db written.0 it written.1 in
      let a : IsAnswer (changing l terms) (overlay db []) params given.0 = given.1.answer Null in
      let shown = shown_rows (tree_in l NetworkPoint) (key_tests NetworkPoint) (Query.project (changing l terms)) [] db params given.0 a in
      let ids = ids_listed _ given.0 (filter met tree) shown (map-map (λ r. id_in (rowid r)) (λ r. eval_all (Query.project (changing l terms)) (params ∷ r ∷ [])) (filter met tree)) in
      let left : without_all tree (ids_of given.0) ≡ filter (λ r. not (met r)) tree = removed tree (has.rows NetworkPoint (rows_in_two NetworkPoint refl l two)).numbered met (ids_of given.0) ids in
      let news : it.news ≡ map (λ s. cast_row table (drop 1 s)) given.0 = given_numbers (without_all tree (ids_of given.0)) (map (λ s. cast_row table (drop 1 s)) given.0) in
      let built = rebuilt l tree (rows_in l NetworkPoint t) given.0 (has.rows NetworkPoint (rows_in_two NetworkPoint refl l two)) shown
      (subst (λ n. are_fresh (filter (λ r. not (met r)) tree) n ≡ true) news (subst (λ x. are_fresh x it.news ≡ true) left step.fresh))
      (subst (λ n. have_rowids n ≡ true) news step.keyed) in
      let did = wrote l old new NetworkPoint _ written.0 (ap (λ (d : Database). d.schema) now) w.sound (ap (λ (d : Database). d.trees) now ∙ trees)
      (step.rows ∙ ap (λ x. put_all x it.news) left ∙ ap (put_all (filter (λ r. not (met r)) tree)) news) step.tables in
      changed_to l two old new NetworkPoint _ (changed_point point change) t refl did has built)

-- ---- the two updates
pub fits_set : (columns : List Column) (row : Row) (at : ℕ) (v : Value) → fits_columns columns row ≡ true → is_of_kind (slice_index_or (map (λ (c : Column). c.kind) columns) at Kind.Any) v ≡ true
    → fits_columns columns (slice_set row at v) ≡ true
fits_set [] [] at v fits kind = refl
fits_set [] (x ∷ row) at v fits kind = absurd cc
fits_set (c ∷ columns) [] at v fits kind = absurd cc
fits_set (c ∷ columns) (x ∷ row) zero v fits kind = rw (kind, (both_true (is_of_kind c.kind x) (fits_columns columns row) fits).1) refl
fits_set (c ∷ columns) (x ∷ row) (suc at) v fits kind =
    let parts = both_true (is_of_kind c.kind x) (fits_columns columns row) fits in
    rw (parts.0, fits_set columns row at v parts.1 kind) refl

pub nine : (row : Row) → fits_columns point_columns row ≡ true → values_from 0 9 row ≡ row
nine row fits = values_all 9 row (fits_length point_columns row fits)

position_reads : (point : List ℕ) (v : Value) (r : Row) → fits_columns point_columns (drop 1 r) ≡ true
    → eval_all position_terms ((Text point ∷ v ∷ []) ∷ r ∷ []) ≡ slice_set (drop 1 r) 5 v
position_reads point v [] fits = absurd cc
position_reads point v (id ∷ row) fits =
    subst (λ (body : Row). eval_all position_terms ((Text point ∷ v ∷ []) ∷ (id ∷ body) ∷ []) ≡ slice_set body 5 v) (nine row fits) refl

hand_reads : (point : List ℕ) (v w : Value) (r : Row) → fits_columns point_columns (drop 1 r) ≡ true
    → eval_all hand_terms ((Text point ∷ v ∷ w ∷ []) ∷ r ∷ []) ≡ slice_set (slice_set (drop 1 r) 6 v) 7 w
hand_reads point v w [] fits = absurd cc
hand_reads point v w (id ∷ row) fits =
    subst (λ (body : Row). eval_all hand_terms ((Text point ∷ v ∷ w ∷ []) ∷ (id ∷ body) ∷ []) ≡ slice_set (slice_set body 6 v) 7 w) (nine row fits) refl

pub sets_position : (old new : State) (point : List ℕ) (position : Position) (count : ℕ)
    → ExecutesInside 0 set_position_sql (Text point ∷ position_value position ∷ []) old new (Ok count) → Changes old new (table_edited (SetPosition point position))
sets_position old new point position count =
    updates point (position_value position ∷ []) position_terms (placed_row position) (position_reads point (position_value position))
    (λ row fits. fits_set point_columns row 5 (position_value position) fits (position_fits position)) set_position_sql set_position_is old new count

pub clears_hand : (old new : State) (point : List ℕ) (count : ℕ)
    → ExecutesInside 0 set_hand_sql (Text point ∷ Null ∷ Null ∷ []) old new (Ok count) → Changes old new (table_edited (SetHand point None))
clears_hand old new point count =
    updates point (Null ∷ Null ∷ []) hand_terms (handed_row None) (hand_reads point Null Null)
    (λ row fits. fits_set point_columns (slice_set row 6 Null) 7 Null (fits_set point_columns row 6 Null fits refl) refl) set_hand_sql set_hand_is old new count

pub gives_hand : (old new : State) (point : List ℕ) (c : Id) (count : ℕ)
    → ExecutesInside 0 set_hand_sql (Text point ∷ Text c.requester ∷ Int (pos c.number) ∷ []) old new (Ok count) → Changes old new (table_edited (SetHand point (Some c)))
gives_hand old new point c count =
    updates point (Text c.requester ∷ Int (pos c.number) ∷ []) hand_terms (handed_row (Some c)) (hand_reads point (Text c.requester) (Int (pos c.number)))
    (λ row fits. fits_set point_columns (slice_set row 6 (Text c.requester)) 7 (Int (pos c.number)) (fits_set point_columns row 6 (Text c.requester) fits refl) refl)
    set_hand_sql set_hand_is old new count
