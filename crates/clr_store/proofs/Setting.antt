-- What UPDATE of all rows makes of the table of the journal: each row is the place.
use Rattle.std.proofs.Common.{◌≡◌, ◌∙◌, ℕ, zero, suc, List, [], ◌∷◌, ◌++◌, All, map, drop, replicate, length, get_or, true, not, None, Ok, Result, append-nil, refl, sym, ap, subst}
use Rattle.std.specs.Prelude.{codes, filter, unwrap_or}
use Rattle.std.specs.List.{list_all}
use Rattle.std.specs.List.Sorted.{IsPermutation}
use Rattle.std.proofs.lemmas.List.Elements.{All-head, All-map, All-tail}
use Rattle.std.proofs.lemmas.List.Sorted.{All-permutation, IsPermutation-map}
use Rattle.sqlite.specs.Cast.{cast_all, cast_row}
use Rattle.sqlite.specs.Command.{Command}
use Rattle.sqlite.specs.Command.TheVariants.{Update}
use Rattle.sqlite.specs.Does.{AtPlace, Does, OnRows, Tally}
use Rattle.sqlite.specs.Edit.{are_fresh, edit_of, have_rowids, put_all, without_all}
use Rattle.sqlite.specs.Effect.{Database}
use Rattle.sqlite.specs.Held.{state}
use Rattle.sqlite.specs.Listing.{understood}
use Rattle.sqlite.specs.Order.{Row}
use Rattle.sqlite.specs.Program.{overlay}
use Rattle.sqlite.specs.Query.{IsAnswer, Query}
use Rattle.sqlite.specs.Rowids.TheVariants.{Given}
use Rattle.sqlite.specs.Rows.{Written}
use Rattle.sqlite.specs.State.{ExecutesInside, State, mode_of}
use Rattle.sqlite.specs.Store.{Ghosts}
use Rattle.sqlite.specs.Term.{col, eval_all}
use Rattle.sqlite.specs.Tree.{rowid}
use Rattle.sqlite.specs.declared.transaction.Transaction.{Transaction}
use Rattle.sqlite.specs.declared.types.Value.TheVariants.{Null}
use Rattle.sqlite.proofs.Callers.{IsPlain, command_of, runs_as, statement_of}
use Rattle.sqlite_resolve.specs.Compile.{compiled}
use Rattle.sqlite_rules.specs.Calls.{ids_of}
use Rattle.sqlite_rules.specs.Edit.{id_in}
use Rattle.sqlite_tied.specs.Compute.{everything}
use Rattle.sqlite_trees.proofs.ListLemmas.{map-map}
use Rattle.clr_load.specs.declared.table_name.TableName.TheVariants.{Journal}
use Rattle.clr_load.specs.Layout.{has_table, place_in, tree_in}
use Rattle.clr_load.specs.Schema.{columns_in, schema_in, table_in}
use Rattle.clr_load.specs.Stored.{HasRows, bodies, fits_columns}
use Rattle.clr_load.specs.declared.fault.StoreFault.{StoreFault}
use Rattle.clr_load.specs.declared.layout.Layout.{Layout}
use Rattle.clr_load.specs.declared.layout.Layout.TheVariants.{AsMade, AsMadeLogged, AsMoved, AsMovedLogged, OfOne}
use Rattle.clr_load.proofs.AllRead.{same_value}
use Rattle.clr_load.proofs.Columns.{cast_fits, fits_length, values_all}
use Rattle.clr_load.proofs.Texts.{IsRead, all_of, query_of, terms_from}
use Rattle.clr_store.proofs.Creating.{empty_rows}
use Rattle.clr_store.proofs.Effects.{ids_listed, is_met, one_write, shown_rows, task_on, went, wrote}
use Rattle.clr_store.proofs.Layouts.{at_place}
use Rattle.clr_store.proofs.Places.{stays_with, then_place}
use Rattle.clr_store.proofs.Placing.{understood_as}
use Rattle.clr_store.proofs.RowLemmas.{removed}
use Rattle.clr_store.proofs.Updates.{given_numbers, put_all_fresh, shaped_put_all}
use Rattle.clr_store.specs.Change.{ChangesPlace, PutsPlace, SetsRows}

abbrev pub set_rows_sql : List ℕ
set_rows_sql = codes "UPDATE journal SET id = ?1, number = ?2, sum = ?3"

-- all rows, each with its number, as they are to be: every column is a parameter
abbrev all_set : Layout → Query
all_set l = query_of (tree_in l Journal) [] (col 1 0 ∷ col 1 0 ∷ terms_from 0 0 3) []

abbrev setting : Layout → Command
setting l = Update (place_in l Journal) (record { lets = []; body = all_set l })

set_rows_reads : (l : Layout) → has_table l Journal ≡ true → compiled (schema_in l) set_rows_sql ≡ Ok (all_of set_rows_sql 3 (setting l))
unfolding everything
set_rows_reads OfOne has = absurd cc
set_rows_reads AsMade has = absurd cc
set_rows_reads AsMoved has = absurd cc
set_rows_reads AsMadeLogged has = refl
set_rows_reads AsMovedLogged has = refl

set_rows_is : (l : Layout) → has_table l Journal ≡ true → IsRead (schema_in l) set_rows_sql (setting l)
set_rows_is l has =
    let known = understood_as (schema_in l) set_rows_sql (all_of set_rows_sql 3 (setting l)) (set_rows_reads l has) in
    record { is = ap command_of known; plain = subst IsPlain (sym known) (refl, refl) }

module _ (row : Row) (fits : fits_columns (columns_in Journal) row ≡ true) where
  -- what a row has beside its number
  IsMade : Row → Type 0
  IsMade r = drop 1 r ≡ row

  made_is : (l : Layout) (r : Row) → IsMade (cast_row (table_in l Journal) (drop 1 (eval_all (Query.project (all_set l)) (row ∷ r ∷ []))))
  unfolding IsMade
  made_is l r = ap (cast_all (columns_in Journal)) (values_all 3 row (fits_length (columns_in Journal) row fits)) ∙ cast_fits (columns_in Journal) row fits

  none_left : (tree : List Row) → filter (λ r. not (is_met [] row r)) tree ≡ []
  none_left [] = refl
  none_left (r ∷ tree) = none_left tree

  each_made : (news : List Row) → All IsMade news → bodies news ≡ replicate (length news) row
  unfolding IsMade
  each_made [] made = refl
  each_made (r ∷ news) made = λ i. All-head IsMade r news made i ∷ each_made news (All-tail IsMade r news made) i

  all_fit : (n : ℕ) → list_all (fits_columns (columns_in Journal)) (replicate n row) ≡ true
  all_fit zero = refl
  all_fit (suc n) = rw (fits, all_fit n) refl

  -- rows that are put where there are none
  rebuilt : (news : List Row) (count : ℕ) → are_fresh [] news ≡ true → have_rowids news ≡ true → All IsMade news → count ≡ length news
      → HasRows (columns_in Journal) (put_all [] news) (replicate count row)
  rebuilt news count fresh keyed made counted =
      let is : bodies (news ++ []) ≡ replicate count row = ap bodies (append-nil news) ∙ each_made news made ∙ ap (λ n. replicate n row) (sym counted) in
      record {
        same = subst (λ rows. IsPermutation rows (bodies (put_all [] news))) is (IsPermutation-map (drop 1) _ _ (put_all_fresh news [] fresh));
        numbered = shaped_put_all news [] keyed (empty_rows (columns_in Journal) [] refl).numbered;
        fit = all_fit count;
      }

  pub sets_rows : (old new : State) (count : ℕ) → ExecutesInside 0 set_rows_sql row old new (Ok count) → ChangesPlace old new (λ _. replicate count row)
  sets_rows old new count ran = record {
    inside = ran.1.mode;
    kept = record { was_open = λ _. ran.1.was_open; committed = λ _. ran.1.committed_is };
    places = λ l two t has there rows placed.
        let db = old.now.trees in
        let table = table_in l Journal in
        let tree = db (tree_in l Journal) in
        let command = setting l in
        let read = set_rows_is l there in
        let w = runs_as set_rows_sql row old new (schema_in l) has.schema command read.is read.plain count ran.0 in
        let text = statement_of set_rows_sql (understood (schema_in l) set_rows_sql) in
        let on = subst (λ s. Does old.step_limit (mode_of old) row (record old.now { schema = s }) text None command (Ok (w.tally, new.now))) has.schema w.changed in
        let done = went (subst (λ found. AtPlace (λ table. OnRows (record (task_on l Journal old row) { table = table }) (mode_of old) None command db) found (Ok (w.tally, new.now))) (at_place l Journal there) on) in
        let ended = same_value (went (went done.2).2).2 in
        let now = ap (λ (p : Tally × Database). p.1) ended in
        let given = went done.1 in
        let written = went given.2 in
        let wrote_is = same_value written.2 in
        let trees : done.0.trees ≡ written.0 = ap (λ (it : Written). it.trees) wrote_is in
        let it = edit_of db table (ids_of given.0) Given 1 given.0 in
        let step = one_write l _ db written.0 it written.1 in
        let a : IsAnswer (all_set l) (overlay db []) row given.0 = given.1.answer Null in
        let project = λ (r : Row). eval_all (Query.project (all_set l)) (row ∷ r ∷ []) in
        let stored = λ (s : Row). cast_row table (drop 1 s) in
        let met = filter (is_met [] row) tree in
        let shown = shown_rows (tree_in l Journal) [] (Query.project (all_set l)) [] db row given.0 a in
        let ids = ids_listed _ given.0 met shown (map-map (λ r. id_in (rowid r)) project met) in
        let gone : without_all tree (ids_of given.0) ≡ [] = removed tree placed.numbered (is_met [] row) (ids_of given.0) ids ∙ none_left tree in
        let news : it.news ≡ map stored given.0 = given_numbers (without_all tree (ids_of given.0)) (map stored given.0) in
        let made : All IsMade (map stored given.0) =
        All-permutation IsMade (map stored (map project met)) (map stored given.0) (IsPermutation-map stored _ _ shown)
        (All-map IsMade stored _ (All-map (λ s. IsMade (stored s)) project met (λ i d low. made_is l (get_or met i d)))) in
        let counted : count ≡ length (map stored given.0) =
        w.counted ∙ ap (λ (p : Tally × Database). unwrap_or (Tally.rows p.0) 0) ended ∙ ap (λ (it : Written). length it.rows) wrote_is ∙ ap length news in
        let built = rebuilt (map stored given.0) count (subst (λ n. are_fresh [] n ≡ true) news (subst (λ x. are_fresh x it.news ≡ true) gone step.fresh))
        (subst (λ n. have_rowids n ≡ true) news step.keyed) made counted in
        let did = wrote l old new Journal _ written.0 (ap (λ (d : Database). d.schema) now) w.sound (ap (λ (d : Database). d.trees) now ∙ trees)
        (step.rows ∙ ap (λ x. put_all x it.news) gone ∙ ap (put_all []) news) step.tables in
        (stays_with l old new _ t there did has, subst (λ tree. HasRows (columns_in Journal) tree (replicate count row)) (sym did.tree) built);
  }

-- ---- calls in turn
-- there were as many rows as this
pub were_set : {S X : Type 0} (g : Ghosts S) (a b : Transaction S) (row : Row) (n k : ℕ) (x : X) → n ≡ k → SetsRows g a b row (Ok n) → PutsPlace g a b (λ _. replicate k row) (Ok x)
were_set g a b row n k x as_many set = record {
  same_reference = set.same_reference;
  step = λ clean inside. subst (λ count. ChangesPlace (state g a.conn.now) (state g b.conn.now) (λ _. replicate count row)) as_many (set.step clean inside);
  fault = tt;
  survives = set.survives;
}

-- there was none, and then the row is inserted
pub then_inserts : {S X : Type 0} (g : Ghosts S) (a b c : Transaction S) (row : Row) (n : ℕ) (r : Result X StoreFault) → n ≡ 0
    → SetsRows g a b row (Ok n) → PutsPlace g b c (λ rows. row ∷ rows) r → PutsPlace g a c (λ _. row ∷ []) r
then_inserts g a b c row n r none set next =
    then_place g a b c (λ _. []) (λ rows. row ∷ rows) n r (were_set g a b row n 0 n none set) next
