-- What INSERT makes of a table: a row is put where none has its key, and otherwise it is refused and nothing is done.
use Rattle.std.proofs.Common.{◌≡◌, ℕ, zero, suc, List, [], ◌∷◌, take, length, Bool, true, false, not, ◌&&◌, Ok, Err, Result, inl, inr, refl, sym, ap, subst, ◌∙◌, IsTrue, arith}
use Rattle.std.specs.Prelude.{filter, MatchBool}
use Rattle.std.specs.List.{list_all}
use Rattle.std.specs.Ordering.{is_eq}
use Rattle.std.proofs.lemmas.Bool.{true≢false}
use Rattle.std.proofs.lemmas.List.Sorted.{Contains-permutation}
use Rattle.sqlite.specs.Collation.TheVariants.{Binary}
use Rattle.sqlite.specs.Edit.{is_taken}
use Rattle.sqlite.specs.Order.{Row, column, value_cmp}
use Rattle.sqlite.specs.State.{State, ExecutesIn, ExecutesInside, IsNotRun, IsUnchanged, RunsCommand, shows_rows, store_error}
use Rattle.sqlite.specs.Store.{Ghosts}
use Rattle.sqlite.specs.Held.{state}
use Rattle.sqlite.specs.Term.{holds}
use Rattle.sqlite.specs.Tree.{put_row, rowid}
use Rattle.sqlite.specs.declared.error.Error.{Error}
use Rattle.sqlite.specs.declared.error.Error.TheVariants.{SqliteFailure, ExecuteReturnedResults}
use Rattle.sqlite.specs.declared.error.ErrorCode.TheVariants.{ConstraintViolation}
use Rattle.sqlite.specs.declared.transaction.Transaction.{Transaction}
use Rattle.sqlite.specs.declared.types.Value.{Value}
use Rattle.sqlite_rules.specs.Lists.{Has}
use Rattle.sqlite_rules.proofs.ListLemmas.{all_has, contains_had, has_contained, some_from}
use Rattle.sqlite_schema.specs.Rules.{agree, clashes, differ, equal}
use Rattle.sqlite_schema.specs.declared.schema.Constraint.{Constraint}
use Rattle.sqlite_trees.specs.View.{IsShaped, is_int}
use Rattle.sqlite_trees.specs.declared.error.StoreError.{StoreError}
use Rattle.sqlite_trees.specs.declared.error.StoreError.TheVariants.{OutOfMemory, Io, Corrupt, Full, Broken, Unstorable}
use Rattle.sqlite_trees.specs.declared.store.Shape.TheVariants.{Table}
use Rattle.sqlite_value.specs.Keys.{first_key, plain}
use Rattle.clr_load.specs.TableEdits.{with_table_row, without_table_row}
use Rattle.clr_load.specs.Tables.{Tables}
use Rattle.clr_load.specs.declared.table_name.TableName.{TableName}
use Rattle.clr_store.specs.Change.{Changes, Does, Inserts, after_insert, with_rows}
use Rattle.clr_load.specs.Fault.{IsOfDatabase}
use Rattle.clr_load.specs.Layout.{has_table, tree_in}
use Rattle.clr_load.specs.declared.layout.Layout.TheVariants.{AsMade}
use Rattle.clr_load.specs.Schema.{columns_in, first_columns, keys_in}
use Rattle.clr_load.specs.Sql.{insert_sql}
use Rattle.clr_load.specs.Stored.{HasRows, Holds, fits_columns, rows_in}
use Rattle.clr_load.specs.declared.fault.StoreFault.{StoreFault}
use Rattle.clr_load.proofs.Columns.{sets_from}
use Rattle.clr_load.proofs.Inside.{then_runs}
use Rattle.clr_load.proofs.Loading.{unchanged_keeps}
use Rattle.clr_load.proofs.Texts.{key_tests, tests_from}
use Rattle.clr_store.proofs.Effects.{inserts, is_met, is_met_in, next_row}
use Rattle.clr_store.proofs.Inside.{changed_to, in_any_order, put_again, put_in, runs_inside, taken_away, then_step}
use Rattle.sqlite.specs.Effect.{Database}
use Rattle.clr_load.specs.declared.table_name.TableName.TheVariants.{Journal}
use Rattle.clr_store.proofs.Layouts.{in_two, rows_in_two}
use Rattle.clr_store.proofs.Replacing.{differ_is, tests_taken, unique_is}
use Rattle.clr_store.proofs.RowLemmas.{put_fresh}

-- ---- no other row has the key of a row that is inserted
-- a row agrees in its key with a row under a number where it passes the tests of that key
pub agree_tests : (n at : ℕ) (row r : Row) (x : Value) → agree plain (first_columns (suc at) n) r (first_columns (suc at) n) (x ∷ row) ≡ list_all (holds (row ∷ r ∷ [])) (tests_from at n)
unfolding first_key
agree_tests zero at row r x = refl
agree_tests (suc n) at row r x = ap (λ b. equal Binary (column r (suc at)) (column row at) && b) (agree_tests n (suc at) row r x)

-- a row of a tree has another number than one that is not taken
apart_from : (tree : List Row) (x r : Row) → is_taken tree x ≡ false → Has tree r → is_eq (value_cmp (rowid r) (rowid x)) ≡ false
apart_from tree x r free here = by_cases (is_eq (value_cmp (rowid r) (rowid x))) refl
  where
    by_cases : (b : Bool) → is_eq (value_cmp (rowid r) (rowid x)) ≡ b → b ≡ false
    by_cases true tied = absurd (true≢false (sym (some_from (λ other. is_eq (value_cmp (rowid other) (rowid x))) tree r here tied) ∙ free))
    by_cases false apart = refl

none_met : (n : ℕ) (tree : List Row) (row r : Row) (x : Value) → IsShaped Table tree → is_int x ≡ true → is_taken tree (x ∷ row) ≡ false
    → clashes plain (first_columns 1 n) (put_row (x ∷ row) tree) (x ∷ row) ≡ false → Has tree r → list_all (holds (row ∷ r ∷ [])) (tests_from 0 n) ≡ false
none_met n tree row r x shaped number free alone here = by_cases (list_all (holds (row ∷ r ∷ [])) (tests_from 0 n)) refl
  where
    there : Has (put_row (x ∷ row) tree) r
    there = has_contained _ _ (Contains-permutation ((x ∷ row) ∷ tree) (put_row (x ∷ row) tree) r (put_fresh (x ∷ row) tree free) (contains_had ((x ∷ row) ∷ tree) r (inr here)))

    differs : differ (rowid r) x ≡ true
    differs = differ_is (rowid r) x (all_has _ tree r shaped.1 here) number (apart_from tree (x ∷ row) r free here)

    by_cases : (b : Bool) → list_all (holds (row ∷ r ∷ [])) (tests_from 0 n) ≡ b → b ≡ false
    by_cases true met =
        let clash : (agree plain (first_columns 1 n) r (first_columns 1 n) (x ∷ row) && differ (rowid r) x) ≡ true = rw (agree_tests n 0 row r x ∙ met, differs) refl in
        absurd (true≢false (sym (some_from (λ other. agree plain (first_columns 1 n) other (first_columns 1 n) (x ∷ row) && differ (rowid other) x) (put_row (x ∷ row) tree) r there clash) ∙ alone))
    by_cases false met = refl

filter_none : (p : Row → Bool) (tree : List Row) → ((r : Row) → Has tree r → p r ≡ false) → filter (λ r. not (p r)) tree ≡ tree
filter_none p [] none = refl
filter_none p (r ∷ tree) none = rw (none r (inl refl)) (ap (λ l. r ∷ l) (filter_none p tree (λ other here. none other (inr here))))

module _ (name : TableName) (row : Row) (fits : fits_columns (columns_in name) row ≡ true) (is : length (take (keys_in name) row) ≡ keys_in name)
    (set : sets_from 0 (keys_in name) (take (keys_in name) row) ≡ true) where
  -- a tree in which no row has the key has the rows less the one of that key
  without_it : (tree rows : List Row) → ((r : Row) → Has tree r → is_met (key_tests name) row r ≡ false) → HasRows (columns_in name) tree rows
      → HasRows (columns_in name) tree (without_table_row (keys_in name) (take (keys_in name) row) rows)
  without_it tree rows none has =
      subst (λ others. HasRows (columns_in name) others (without_table_row (keys_in name) (take (keys_in name) row) rows))
      (filter_none (is_met_in name (take (keys_in name) row)) tree (λ r here. tests_taken (keys_in name) 0 (keys_in name) row r (omega arith) ∙ none r here))
      (taken_away name (take (keys_in name) row) tree rows is set has)

  pub puts_new : (old new : State) (count : ℕ) → has_table AsMade name ≡ true → ExecutesInside 0 (insert_sql name) row old new (Ok count)
      → Changes old new (with_rows name (with_table_row (keys_in name) row))
  puts_new old new count here ran = runs_inside (insert_sql name) row old new count _ ran (λ l two t has.
      let there = in_two name here l two in
      let did = inserts l old new name row count there has.schema fits ran.0 in
      let tree = old.now.trees (tree_in l name) in
      let x = next_row tree row in
      let rows = has.rows name (rows_in_two name here l two) in
      let unique = subst (λ all. (r : Row) → Has all r → clashes plain (first_columns 1 (keys_in name)) all r ≡ false) did.0.tree
      (λ r here. unique_is l name new.now.trees r there (all_has _ _ r did.2 here)) in
      let has_x : Has (put_row x tree) x = has_contained _ _ (Contains-permutation (x ∷ tree) (put_row x tree) x (put_fresh x tree did.1) (contains_had (x ∷ tree) x (inl refl))) in
      let none = λ (r : Row). none_met (keys_in name) tree row r (rowid x) rows.numbered refl did.1 (unique x has_x) in
      let put = put_in (columns_in name) row tree _ fits did.1 (without_it tree (rows_in l name t) none rows) in
      changed_to l two old new name _ (with_table_row (keys_in name) row) t here did.0 has
      (in_any_order (columns_in name) (put_row x tree) _ (with_table_row (keys_in name) row (rows_in l name t)) (put_again (keys_in name) row (rows_in l name t)) put))

-- ---- a row that breaks a rule
no_store_error : (cause : StoreError) (rule : Constraint) → SqliteFailure (ConstraintViolation rule) ≡ store_error cause → ⊥
no_store_error OutOfMemory rule same = absurd cc
no_store_error Io rule same = absurd cc
no_store_error Corrupt rule same = absurd cc
no_store_error Full rule same = absurd cc
no_store_error Broken rule same = absurd cc
no_store_error Unstorable rule same = absurd cc

abbrev refusal : Constraint → Result ℕ Error
refusal rule = Err (SqliteFailure (ConstraintViolation rule))

-- a command that a rule refuses does nothing
refused_command : (old new : State) (sql : List ℕ) (c : _) (params : Row) (rule : Constraint) (shows : Bool)
    → MatchBool shows ((refusal rule ≡ Err ExecuteReturnedResults) × IsUnchanged old new) (RunsCommand old new sql c params (refusal rule)) → IsUnchanged old new
refused_command old new sql c params rule true ran = ran.1
refused_command old new sql c params rule false (inl ran) = ran.1
refused_command old new sql c params rule false (inr failed) = absurd (no_store_error failed.0 rule failed.1)

-- where a rule refuses a statement, nothing is done
pub refused_unchanged : (sql : List ℕ) (params : Row) (old new : State) (rule : Constraint) → ExecutesInside 0 sql params old new (Err (SqliteFailure (ConstraintViolation rule))) → IsUnchanged old new
unfolding ExecutesIn IsNotRun
refused_unchanged sql params old new rule (inl (ran, inl same)) = same
refused_unchanged sql params old new rule (inl (inl (inl unread), undone)) = unread.1
refused_unchanged sql params old new rule (inl (inl (inr failed), undone)) = absurd (no_store_error failed.0 rule failed.1)
refused_unchanged sql params old new rule (inl (inr ran, undone)) = refused_command old new sql ran.0 _ rule (shows_rows false ran.0) ran.2
refused_unchanged sql params old new rule (inr h) = h.2

pub not_put : (old new : State) (name : TableName) (row : Row) → IsTrue old.in_transaction → IsUnchanged old new → Changes old new (after_insert false name row)
not_put old new name row inside same = record {
  inside = same.0.mode ∙ inside;
  kept = unchanged_keeps old new same;
  tables = λ l two t has. subst (λ db. Holds l db t) (sym same.0.now_is) has;
  place = λ l two t has there. ap (λ (db : Database). db.trees (tree_in l Journal)) same.0.now_is;
}

-- a row that was inserted is put
pub was_new : (old new : State) (name : TableName) (row : Row) (is_put : Bool) → is_put ≡ true → Changes old new (after_insert is_put name row)
    → Changes old new (with_rows name (with_table_row (keys_in name) row))
was_new old new name row true is did = did
was_new old new name row false is did = absurd cc

-- where it was not inserted, the next call begins as this one did
pub then_put : {S X : Type 0} (g : Ghosts S) (a b c : Transaction S) (name : TableName) (row : Row) (change : Tables → Tables) (is_put : Bool) (r : Result X StoreFault) → is_put ≡ false
    → Inserts g a b name row (Ok is_put) → Does g b c change r → Does g a c change r
then_put g a b c name row change is_put r none first second =
    then_runs g a b c IsOfDatabase IsOfDatabase IsOfDatabase _ _ _ _ _ _ is_put r first second (λ done. done.inside)
    (λ early done next.
    let same = subst (λ (put : Bool). Changes (state g a.conn.now) (state g b.conn.now) (after_insert put name row)) none done in
    then_step (state g a.conn.now) (state g b.conn.now) (state g c.conn.now) (λ t. t) change r same next) (λ fault. fault)
