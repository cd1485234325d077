-- A database that is laid out as a register has tables: its rows, in the order of their keys.
use Rattle.std.proofs.Common.{◌≡◌, ◌≤◌, ◌+◌, ◌∙◌, ℕ, zero, suc, List, [], ◌∷◌, drop, take, length, Bool, true, false, not, ◌&&◌, ◌||◌, ◌==◌, None, Some, Ok, pos, inl, inr, refl, sym, ap, subst, arith}
use Rattle.std.specs.Prelude.{IsTrue, ⊤, codes, filter, if◌then◌else◌}
use Rattle.std.specs.List.{AllByRecursion, list_all}
use Rattle.std.specs.List.Sorted.{IsPermutation}
use Rattle.std.specs.Ordering.{is_eq}
use Rattle.std.specs.declared.cmp.Ordering.TheVariants.{Less}
use Rattle.std.proofs.lemmas.Bool.{true≢false}
use Rattle.std.proofs.lemmas.Slice.Eq.{bytes_eq-Decides}
use Rattle.std.specs.Str.{bytes_eq}
use Rattle.std.proofs.lemmas.List.{length-map}
use Rattle.std.proofs.lemmas.List.Sorted.{IsPermutation-cons, IsPermutation-refl, IsPermutation-sym, IsPermutation-trans, length_permutation}
use Rattle.sqlite.specs.Effect.{Database, IsDatabase}
use Rattle.sqlite.specs.Kind.{Kind}
use Rattle.sqlite.specs.Schema.{Schema}
use Rattle.sqlite.specs.Kind.TheVariants as kind
use Rattle.sqlite.specs.Order.{Row, column, row_cmp, value_cmp}
use Rattle.sqlite.specs.Tree.{Trees, rowid}
use Rattle.sqlite.specs.View.{IsShaped}
use Rattle.sqlite.specs.declared.types.Value.{Value}
use Rattle.sqlite.specs.declared.types.Value.TheVariants.{Null, Int, Real, Text, Blob}
use Rattle.sqlite_catalog.specs.Listing.{IsSound}
use Rattle.sqlite_rules.specs.Lists.{Has}
use Rattle.sqlite_rules.proofs.ListLemmas.{all_has, some_from, test_from}
use Rattle.sqlite_schema.specs.Rules.{agree, are_present, are_typed, clashes, differ, is_of, kind_code, passes}
use Rattle.sqlite_schema.specs.declared.schema.Column.{Column}
use Rattle.sqlite_schema.specs.declared.schema.Constraint.{Constraint}
use Rattle.sqlite_schema.specs.declared.schema.Constraint.TheVariants.{Datatype, NotNull, Unique}
use Rattle.sqlite_sql.specs.Ops.{is_null}
use Rattle.sqlite_trees.specs.View.{is_int}
use Rattle.sqlite_trees.specs.declared.store.Shape.TheVariants.{Table}
use Rattle.sqlite_value.specs.Keys.{plain}
use Rattle.sqlite_value.proofs.OrderLemmas.{row_cmp_total, value_cmp_total}
use Rattle.clr_shelf.specs.Rows.{in_key_order, without_row}
use Rattle.clr_shelf.proofs.KeyOrder.{in_key_order-with_row}
use Rattle.clr_shelf.proofs.Keys.{apart_back}
use Rattle.clr_load.specs.TableEdits.{with_table_row, without_table_row}
use Rattle.clr_load.specs.RowsRead.{integer_of, read_version, version_if_there}
use Rattle.clr_load.specs.Tables.{Tables, version_row}
use Rattle.clr_load.specs.declared.table_name.TableName.{TableName}
use Rattle.clr_load.specs.declared.table_name.TableName.TheVariants.{Meta, Section, Point, Staff, Clearance, Step, Hold, NetworkPoint, Journal}
use Rattle.clr_load.specs.Layout.{has_rows, has_table, is_moved, tree_in}
use Rattle.clr_load.specs.declared.layout.Layout.{Layout}
use Rattle.clr_load.specs.declared.layout.Layout.TheVariants.{AsMade, AsMadeLogged, AsMoved, AsMovedLogged, OfOne}
use Rattle.clr_load.specs.Schema.{behind_meta, columns_in, first_columns, keys_in, schema_in, table_at, table_in}
use Rattle.clr_load.specs.Stored.{AreWhole, HasMeta, HasRows, HasVersion, HasWholeRows, IsInOrder, IsLaidOut, IsPlaced, bodies, fits_columns, is_of_kind, is_set, rows_in}
use Rattle.clr_load.proofs.Columns.{both_true, sets_from, sets_shift}
use Rattle.clr_load.proofs.Loading.{has_meta}
use Rattle.clr_store.specs.There.{MetaIsThere, TablesAreThere}
use Rattle.clr_store.proofs.Effects.{is_met_in}
use Rattle.clr_store.proofs.Inside.{list_all-permutation, met_is, put_again}
use Rattle.clr_store.proofs.Inserting.{agree_tests}
use Rattle.clr_store.proofs.Layouts.{all_at, at_place}
use Rattle.clr_store.proofs.Replacing.{column_taken, differ_is, tests_taken, unique_is}

-- ---- rows in the order of their keys
abbrev sorted : ℕ → List Row → List Row
sorted keys [] = []
sorted keys (row ∷ rows) = with_table_row keys row (sorted keys rows)

sorted_in_order : (keys : ℕ) (rows : List Row) → in_key_order row_cmp (take keys) (sorted keys rows) ≡ true
sorted_in_order keys [] = refl
sorted_in_order keys (row ∷ rows) = in_key_order-with_row row_cmp (take keys) row_cmp_total row (sorted keys rows) (sorted_in_order keys rows)

-- another row has another key
abbrev is_other : ℕ → Row → Row → Bool
is_other keys row other = not (is_eq (row_cmp (take keys other) (take keys row)))

-- no two rows have the same key
abbrev AreApart : ℕ → List Row → Type 0
AreApart keys [] = ⊤
AreApart keys (row ∷ rows) = (list_all (is_other keys row) rows ≡ true) × AreApart keys rows

filter_all : (p : Row → Bool) (rows : List Row) → list_all p rows ≡ true → filter p rows ≡ rows
filter_all p [] h = refl
filter_all p (row ∷ rows) h =
    let parts = both_true (p row) (list_all p rows) h in
    rw parts.0 (ap (λ l. row ∷ l) (filter_all p rows parts.1))

sorted_same : (keys : ℕ) (rows : List Row) → AreApart keys rows → IsPermutation (sorted keys rows) rows
unfolding without_row
sorted_same keys [] apart = IsPermutation-refl _
sorted_same keys (row ∷ rows) apart =
    let rest = sorted_same keys rows apart.1 in
    let others = list_all-permutation (is_other keys row) rows (sorted keys rows) (IsPermutation-sym _ _ rest) apart.0 in
    let none : without_table_row keys (take keys row) (sorted keys rows) ≡ sorted keys rows = filter_all (is_other keys row) (sorted keys rows) others in
    let put = subst (λ xs. IsPermutation (row ∷ xs) (with_table_row keys row (sorted keys rows))) none (put_again keys row (sorted keys rows)) in
    IsPermutation-trans _ _ _ (IsPermutation-sym _ _ put) (IsPermutation-cons row _ _ rest)

-- ---- a row has the values that its columns ask for
abbrev is_plain : Column → Bool
is_plain c = c.is_strict && ((kind_code c.kind == 1) || (kind_code c.kind == 3))

of_kind : (k : Kind) (v : Value) → ((kind_code k == 1) || (kind_code k == 3)) ≡ true → is_of k v ≡ true → is_of_kind k v ≡ true
of_kind kind.Integer Null plain is = refl
of_kind kind.Integer (Int n) plain is = refl
of_kind kind.Integer (Real x) plain is = absurd cc
of_kind kind.Integer (Text t) plain is = absurd cc
of_kind kind.Integer (Blob b) plain is = absurd cc
of_kind kind.Text Null plain is = refl
of_kind kind.Text (Int n) plain is = absurd cc
of_kind kind.Text (Real x) plain is = absurd cc
of_kind kind.Text (Text t) plain is = refl
of_kind kind.Text (Blob b) plain is = absurd cc
of_kind kind.Real v plain is = absurd cc
of_kind kind.Blob v plain is = absurd cc
of_kind kind.Any v plain is = absurd cc

typed_fits : (columns : List Column) (at : ℕ) (row : Row) → list_all is_plain columns ≡ true → length row ≡ length columns → are_typed None at columns row ≡ true → fits_columns columns row ≡ true
typed_fits [] at [] plain long typed = refl
typed_fits [] at (v ∷ values) plain long typed = absurd (omega (arith, long))
typed_fits (c ∷ columns) at [] plain long typed = absurd (omega (arith, long))
typed_fits (c ∷ columns) at (v ∷ values) plain long typed =
    let here = both_true (is_plain c) (list_all is_plain columns) plain in
    let strict = both_true c.is_strict ((kind_code c.kind == 1) || (kind_code c.kind == 3)) here.0 in
    let parts = both_true _ (are_typed None (at + 1) columns values) (rw strict.0 at typed) in
    rw (of_kind c.kind v strict.1 parts.0, typed_fits columns (at + 1) values here.1 (omega (arith, long)) parts.1) refl

plain_columns : (name : TableName) → list_all is_plain (columns_in name) ≡ true
plain_columns Meta = refl
plain_columns Section = refl
plain_columns Point = refl
plain_columns Staff = refl
plain_columns Clearance = refl
plain_columns Step = refl
plain_columns Hold = refl
plain_columns NetworkPoint = refl
plain_columns Journal = refl

-- ---- a key has no NULL
abbrev has_value : Column → Bool
has_value c = c.not_null

set_of : (not_null : Bool) (v : Value) → not_null ≡ true → (not not_null || not (is_null v)) ≡ true → is_set v ≡ true
set_of true Null is h = absurd cc
set_of true (Int n) is h = refl
set_of true (Real x) is h = refl
set_of true (Text t) is h = refl
set_of true (Blob b) is h = refl
set_of false v is h = absurd cc

present_sets : (n at : ℕ) (columns : List Column) (row : Row) → n ≤ length columns → list_all has_value (take n columns) ≡ true → are_present None at columns row ≡ true → sets_from (at + 1) n row ≡ true
present_sets zero at columns row low has h = refl
present_sets (suc n) at [] row low has h = absurd (omega arith)
present_sets (suc n) at (c ∷ columns) row low has h =
    let here = both_true c.not_null (list_all has_value (take n columns)) has in
    let parts = both_true _ (are_present None (at + 1) columns row) h in
    let next : suc (at + 1) ≡ (at + 1) + 1 = omega arith in
    let rest = subst (λ k. sets_from k n row ≡ true) (sym next) (present_sets n (at + 1) columns row (omega arith) here.1 parts.1) in
    rw (set_of c.not_null (column row (at + 1)) here.0 parts.0, rest) refl

keyed_columns : (name : TableName) → (keys_in name ≤ length (columns_in name)) × (list_all has_value (take (keys_in name) (columns_in name)) ≡ true)
keyed_columns Meta = (omega arith, refl)
keyed_columns Section = (omega arith, refl)
keyed_columns Point = (omega arith, refl)
keyed_columns Staff = (omega arith, refl)
keyed_columns Clearance = (omega arith, refl)
keyed_columns Step = (omega arith, refl)
keyed_columns Hold = (omega arith, refl)
keyed_columns NetworkPoint = (omega arith, refl)
keyed_columns Journal = (omega arith, refl)

sets_taken : (n at k : ℕ) (row : Row) → at + n ≤ k → sets_from at n row ≡ true → sets_from at n (take k row) ≡ true
sets_taken zero at k row low h = refl
sets_taken (suc n) at k row low h =
    let parts = both_true (is_set (column row at)) (sets_from (suc at) n row) h in
    rw (ap is_set (column_taken k at row (omega arith)) ∙ parts.0, sets_taken n (suc at) k row (omega arith) parts.1) refl

taken_length : (n : ℕ) (row : Row) → n ≤ length row → length (take n row) ≡ n
taken_length zero row low = refl
taken_length (suc n) [] low = absurd (omega arith)
taken_length (suc n) (v ∷ row) low = ap suc (taken_length n row (omega arith))

-- ---- no two rows of a tree have the same key
module _ (name : TableName) (tree : List Row) (shaped : IsShaped Table tree)
    (alone : (r : Row) → Has tree r → clashes plain (first_columns 1 (keys_in name)) tree r ≡ false)
    (keyed : (r : Row) → Has tree r → (length (take (keys_in name) (drop 1 r)) ≡ keys_in name) × (sets_from 0 (keys_in name) (take (keys_in name) (drop 1 r)) ≡ true)) where
  -- a row clashes with no row of another number
  keys_apart : (x : Value) (row r : Row) → Has tree (x ∷ row) → Has tree r → is_eq (value_cmp (rowid r) x) ≡ false → is_other (keys_in name) row (drop 1 r) ≡ true
  keys_apart x row r here there apart = by_cases (is_eq (row_cmp (take (keys_in name) (drop 1 r)) (take (keys_in name) row))) refl
    where
      differs : differ (rowid r) x ≡ true
      differs = differ_is (rowid r) x (all_has _ tree r shaped.1 there) (all_has _ tree (x ∷ row) shaped.1 here) apart

      tests : is_met_in name row r ≡ is_eq (row_cmp (take (keys_in name) (drop 1 r)) (take (keys_in name) row))
      tests = sym (tests_taken (keys_in name) 0 (keys_in name) row r (omega arith))
          ∙ met_is name (take (keys_in name) row) r (keyed (x ∷ row) here).0 (keyed (x ∷ row) here).1

      by_cases : (b : Bool) → is_eq (row_cmp (take (keys_in name) (drop 1 r)) (take (keys_in name) row)) ≡ b → is_other (keys_in name) row (drop 1 r) ≡ true
      by_cases true tied =
          let agrees = agree_tests (keys_in name) 0 row r x ∙ tests ∙ tied in
          let clash : (agree plain (first_columns 1 (keys_in name)) r (first_columns 1 (keys_in name)) (x ∷ row) && differ (rowid r) x) ≡ true = rw (agrees, differs) refl in
          absurd (true≢false (sym (some_from (λ other. agree plain (first_columns 1 (keys_in name)) other (first_columns 1 (keys_in name)) (x ∷ row) && differ (rowid other) x) tree r there clash) ∙ alone (x ∷ row) here))
      by_cases false apart = ap not apart

  apart_from : (left : List Row) → ((r : Row) → Has left r → Has tree r) → IsShaped Table left → AreApart (keys_in name) (bodies left)
  apart_from [] within rising = tt
  apart_from ([] ∷ left) within rising = absurd (let number = all_has (λ r. IsTrue (is_int (rowid r))) tree [] shaped.1 (within [] (inl refl)) in cc)
  apart_from ((x ∷ row) ∷ left) within rising = (
    test_from (is_other (keys_in name) row) (bodies left) (λ body has. each left body has (λ r here. within r (inr here)) rising.0.0),
    apart_from left (λ r here. within r (inr here)) (rising.0.1, rising.1.1),
  )
    where
      each : (rest : List Row) (body : Row) → Has (bodies rest) body → ((r : Row) → Has rest r → Has tree r) → AllByRecursion (λ b. value_cmp x (rowid b) ≡ Less) rest → is_other (keys_in name) row body ≡ true
      each [] body has in_tree above = absurd has
      each (r ∷ rest) body (inl is) in_tree above =
          let apart = apart_back value_cmp value_cmp_total x (rowid r) (ap is_eq above.0) in
          subst (λ b. is_other (keys_in name) row b ≡ true) (sym is) (keys_apart x row r (within (x ∷ row) (inl refl)) (in_tree r (inl refl)) apart)
      each (r ∷ rest) body (inr has) in_tree above = each rest body has (λ s here. in_tree s (inr here)) above.1

-- ---- the rows of a table
bodies_fit : (columns : List Column) (tree : List Row) → ((r : Row) → Has tree r → fits_columns columns (drop 1 r) ≡ true) → list_all (fits_columns columns) (bodies tree) ≡ true
bodies_fit columns [] fit = refl
bodies_fit columns (r ∷ tree) fit = rw (fit r (inl refl), bodies_fit columns tree (λ s here. fit s (inr here))) refl

body_sets : (n : ℕ) (r : Row) → sets_from 1 n r ≡ true → sets_from 0 n (drop 1 r) ≡ true
body_sets n [] h = unset n h
  where
    unset : (n : ℕ) → sets_from 1 n [] ≡ true → sets_from 0 n [] ≡ true
    unset zero h = refl
    unset (suc n) h = absurd cc
body_sets n (x ∷ row) h = sym (sets_shift n 0 x row) ∙ h

-- what the rules of a table say of a row that has all columns
record Obeyed (name : TableName) (tree : List Row) (r : Row) : Type 0 where
  typed : are_typed None 0 (columns_in name) (drop 1 r) ≡ true
  present : are_present None 0 (columns_in name) r ≡ true
  alone : clashes plain (first_columns 1 (keys_in name)) tree r ≡ false
  long : length (drop 1 r) ≡ length (columns_in name)

module _ (name : TableName) (tree : List Row) (shaped : IsShaped Table tree) (obeyed : (r : Row) → Has tree r → Obeyed name tree r) where
  fits : (r : Row) → Has tree r → fits_columns (columns_in name) (drop 1 r) ≡ true
  fits r here = let it = obeyed r here in typed_fits (columns_in name) 0 (drop 1 r) (plain_columns name) it.long it.typed

  keyed : (r : Row) → Has tree r → (length (take (keys_in name) (drop 1 r)) ≡ keys_in name) × (sets_from 0 (keys_in name) (take (keys_in name) (drop 1 r)) ≡ true)
  keyed r here =
      let columns = keyed_columns name in
      let it = obeyed r here in
      let is_long = it.long in
      let sets = present_sets (keys_in name) 0 (columns_in name) r columns.0 columns.1 it.present in
      (taken_length (keys_in name) (drop 1 r) (omega (arith, is_long, columns.0)), sets_taken (keys_in name) 0 (keys_in name) (drop 1 r) (omega arith) (body_sets (keys_in name) r sets))

  rows_are : HasRows (columns_in name) tree (sorted (keys_in name) (bodies tree))
  rows_are =
      let apart = apart_from name tree shaped (λ r here. (obeyed r here).alone) keyed tree (λ r here. here) shaped in
      let same = sorted_same (keys_in name) (bodies tree) apart in
      record {
        same = same;
        numbered = shaped;
        fit = list_all-permutation (fits_columns (columns_in name)) (bodies tree) (sorted (keys_in name) (bodies tree)) (IsPermutation-sym _ _ same) (bodies_fit (columns_in name) tree fits);
      }

-- ---- the rows of a table of a layout
abbrev rows_there : Layout → Trees → TableName → List Row
rows_there l trees name = sorted (keys_in name) (bodies (trees (tree_in l name)))

table_there : (l : Layout) (trees : Trees) (name : TableName) → has_table l name ≡ true → IsSound (schema_in l) trees → AreWhole l trees → HasRows (columns_in name) (trees (tree_in l name)) (rows_there l trees name)
table_there l trees name there sound whole = rows_are name (trees (tree_in l name)) (whole.numbered name there) (λ r here. record {
  typed = (both_true (are_typed None 0 (columns_in name) (drop 1 r)) _ (rule Datatype r here)).0;
  present = rule NotNull r here;
  alone = unique_is l name trees r there (rule Unique r here);
  long = all_has _ _ r (whole.columns name there) here;
})
  where
    rule : (kind : Constraint) → (r : Row) → Has (trees (tree_in l name)) r → passes kind (schema_in l) trees (table_in l name) r ≡ true
    rule kind r here = all_has _ _ r (all_at _ (schema_in l).tables _ (table_in l name) (at_place l name there) (sound.obeys.rules kind)) here

-- ---- the rows of `meta`, whatever the other tables are
-- it has no column that may be NULL, so no row lacks one
meta_long : (r : Row) → are_typed None 0 (columns_in Meta) (drop 1 r) ≡ true → are_present None 0 (columns_in Meta) r ≡ true → length (drop 1 r) ≡ 2
meta_long [] typed present = absurd cc
meta_long (x ∷ []) typed present = absurd cc
meta_long (x ∷ v ∷ []) typed present = absurd (true≢false (sym (both_true (not (is_null v)) false present).1))
meta_long (x ∷ v ∷ w ∷ []) typed present = refl
meta_long (x ∷ v ∷ w ∷ y ∷ row) typed present = absurd (true≢false (sym (both_true _ false (both_true _ _ typed).1).1))

first_unique : (db : Trees) (others : Schema) (r : Row) → passes Unique (behind_meta others) db (table_at 0 Meta) r ≡ true → clashes plain (first_columns 1 1) (db 0) r ≡ false
first_unique db others r h = clear (clashes plain (first_columns 1 1) (db 0) r) (both_true (not (clashes plain (first_columns 1 1) (db 0) r)) _ h).0
  where
    clear : (b : Bool) → not b ≡ true → b ≡ false
    clear true h = absurd cc
    clear false h = refl

-- THERE IS A `META` in a database whose first table it is
pub meta_there : MetaIsThere
meta_there db others is sound shaped = (
  sorted 1 (bodies (db.trees 0)),
  record {
    others = others;
    schema = is;
    rows = rows_are Meta (db.trees 0) shaped (λ r here. obeyed r here);
    in_order = sorted_in_order 1 (bodies (db.trees 0));
  },
)
  where
    rule : (kind : Constraint) → (r : Row) → Has (db.trees 0) r → passes kind (behind_meta others) db.trees (table_at 0 Meta) r ≡ true
    rule kind r here = all_has _ _ r ((subst (λ s. IsSound s db.trees) is sound).obeys.rules kind).0 here

    obeyed : (r : Row) → Has (db.trees 0) r → Obeyed Meta (db.trees 0) r
    obeyed r here =
        let typed = (both_true (are_typed None 0 (columns_in Meta) (drop 1 r)) _ (rule Datatype r here)).0 in
        record {
          typed = typed;
          present = rule NotNull r here;
          alone = first_unique db.trees others r (rule Unique r here);
          long = meta_long r typed (rule NotNull r here);
        }

-- ---- the tables
-- the table of points that is read
abbrev points_in : Layout → TableName
points_in OfOne = Point
points_in AsMade = NetworkPoint
points_in AsMoved = NetworkPoint
points_in AsMadeLogged = NetworkPoint
points_in AsMovedLogged = NetworkPoint

abbrev tables_there : Layout → Trees → Tables
tables_there l trees = record {
  meta = rows_there l trees Meta;
  sections = rows_there l trees Section;
  points = rows_there l trees (points_in l);
  staff = rows_there l trees Staff;
  clearances = rows_there l trees Clearance;
  steps = rows_there l trees Step;
  holds = rows_there l trees Hold;
}

none_there : (columns : List Column) (tree : List Row) → tree ≡ [] → HasRows columns tree []
none_there columns tree none = record { same = rw none (IsPermutation-refl _); numbered = rw none (tt, tt); fit = refl }

each_there : (l : Layout) (trees : Trees) → (is_moved l ≡ true → trees (tree_in l Point) ≡ []) → IsSound (schema_in l) trees → AreWhole l trees → (name : TableName) → has_rows l name ≡ true
    → HasRows (columns_in name) (trees (tree_in l name)) (rows_in l name (tables_there l trees))
each_there OfOne trees emptied sound whole Meta there = table_there OfOne trees Meta there sound whole
each_there OfOne trees emptied sound whole Section there = table_there OfOne trees Section there sound whole
each_there OfOne trees emptied sound whole Point there = table_there OfOne trees Point there sound whole
each_there OfOne trees emptied sound whole Staff there = table_there OfOne trees Staff there sound whole
each_there OfOne trees emptied sound whole Clearance there = table_there OfOne trees Clearance there sound whole
each_there OfOne trees emptied sound whole Step there = table_there OfOne trees Step there sound whole
each_there OfOne trees emptied sound whole Hold there = table_there OfOne trees Hold there sound whole
each_there OfOne trees emptied sound whole NetworkPoint there = absurd cc
each_there AsMade trees emptied sound whole Meta there = table_there AsMade trees Meta there sound whole
each_there AsMade trees emptied sound whole Section there = table_there AsMade trees Section there sound whole
each_there AsMade trees emptied sound whole Point there = absurd cc
each_there AsMade trees emptied sound whole Staff there = table_there AsMade trees Staff there sound whole
each_there AsMade trees emptied sound whole Clearance there = table_there AsMade trees Clearance there sound whole
each_there AsMade trees emptied sound whole Step there = table_there AsMade trees Step there sound whole
each_there AsMade trees emptied sound whole Hold there = table_there AsMade trees Hold there sound whole
each_there AsMade trees emptied sound whole NetworkPoint there = table_there AsMade trees NetworkPoint there sound whole
each_there AsMoved trees emptied sound whole Meta there = table_there AsMoved trees Meta there sound whole
each_there AsMoved trees emptied sound whole Section there = table_there AsMoved trees Section there sound whole
each_there AsMoved trees emptied sound whole Point there = none_there (columns_in Point) (trees (tree_in AsMoved Point)) (emptied refl)
each_there AsMoved trees emptied sound whole Staff there = table_there AsMoved trees Staff there sound whole
each_there AsMoved trees emptied sound whole Clearance there = table_there AsMoved trees Clearance there sound whole
each_there AsMoved trees emptied sound whole Step there = table_there AsMoved trees Step there sound whole
each_there AsMoved trees emptied sound whole Hold there = table_there AsMoved trees Hold there sound whole
each_there AsMoved trees emptied sound whole NetworkPoint there = table_there AsMoved trees NetworkPoint there sound whole
each_there AsMadeLogged trees emptied sound whole Meta there = table_there AsMadeLogged trees Meta there sound whole
each_there AsMadeLogged trees emptied sound whole Section there = table_there AsMadeLogged trees Section there sound whole
each_there AsMadeLogged trees emptied sound whole Point there = absurd cc
each_there AsMadeLogged trees emptied sound whole Staff there = table_there AsMadeLogged trees Staff there sound whole
each_there AsMadeLogged trees emptied sound whole Clearance there = table_there AsMadeLogged trees Clearance there sound whole
each_there AsMadeLogged trees emptied sound whole Step there = table_there AsMadeLogged trees Step there sound whole
each_there AsMadeLogged trees emptied sound whole Hold there = table_there AsMadeLogged trees Hold there sound whole
each_there AsMadeLogged trees emptied sound whole NetworkPoint there = table_there AsMadeLogged trees NetworkPoint there sound whole
each_there AsMovedLogged trees emptied sound whole Meta there = table_there AsMovedLogged trees Meta there sound whole
each_there AsMovedLogged trees emptied sound whole Section there = table_there AsMovedLogged trees Section there sound whole
each_there AsMovedLogged trees emptied sound whole Point there = none_there (columns_in Point) (trees (tree_in AsMovedLogged Point)) (emptied refl)
each_there AsMovedLogged trees emptied sound whole Staff there = table_there AsMovedLogged trees Staff there sound whole
each_there AsMovedLogged trees emptied sound whole Clearance there = table_there AsMovedLogged trees Clearance there sound whole
each_there AsMovedLogged trees emptied sound whole Step there = table_there AsMovedLogged trees Step there sound whole
each_there AsMovedLogged trees emptied sound whole Hold there = table_there AsMovedLogged trees Hold there sound whole
each_there AsMovedLogged trees emptied sound whole NetworkPoint there = table_there AsMovedLogged trees NetworkPoint there sound whole
each_there l trees emptied sound whole Journal there = absurd cc

order_there : (l : Layout) (trees : Trees) → IsInOrder l (tables_there l trees)
order_there OfOne trees Meta = sorted_in_order 1 (bodies (trees 0))
order_there OfOne trees Section = sorted_in_order 1 (bodies (trees 2))
order_there OfOne trees Point = sorted_in_order 1 (bodies (trees 4))
order_there OfOne trees Staff = sorted_in_order 1 (bodies (trees 6))
order_there OfOne trees Clearance = sorted_in_order 2 (bodies (trees 8))
order_there OfOne trees Step = sorted_in_order 4 (bodies (trees 10))
order_there OfOne trees Hold = sorted_in_order 4 (bodies (trees 12))
order_there OfOne trees NetworkPoint = sorted_in_order 1 (bodies (trees 4))
order_there AsMade trees Meta = sorted_in_order 1 (bodies (trees 0))
order_there AsMade trees Section = sorted_in_order 1 (bodies (trees 2))
order_there AsMade trees Point = refl
order_there AsMade trees Staff = sorted_in_order 1 (bodies (trees 6))
order_there AsMade trees Clearance = sorted_in_order 2 (bodies (trees 8))
order_there AsMade trees Step = sorted_in_order 4 (bodies (trees 10))
order_there AsMade trees Hold = sorted_in_order 4 (bodies (trees 12))
order_there AsMade trees NetworkPoint = sorted_in_order 1 (bodies (trees 4))
order_there AsMoved trees Meta = sorted_in_order 1 (bodies (trees 0))
order_there AsMoved trees Section = sorted_in_order 1 (bodies (trees 2))
order_there AsMoved trees Point = refl
order_there AsMoved trees Staff = sorted_in_order 1 (bodies (trees 6))
order_there AsMoved trees Clearance = sorted_in_order 2 (bodies (trees 8))
order_there AsMoved trees Step = sorted_in_order 4 (bodies (trees 10))
order_there AsMoved trees Hold = sorted_in_order 4 (bodies (trees 12))
order_there AsMoved trees NetworkPoint = sorted_in_order 1 (bodies (trees 14))
order_there AsMadeLogged trees Meta = sorted_in_order 1 (bodies (trees 0))
order_there AsMadeLogged trees Section = sorted_in_order 1 (bodies (trees 2))
order_there AsMadeLogged trees Point = refl
order_there AsMadeLogged trees Staff = sorted_in_order 1 (bodies (trees 6))
order_there AsMadeLogged trees Clearance = sorted_in_order 2 (bodies (trees 8))
order_there AsMadeLogged trees Step = sorted_in_order 4 (bodies (trees 10))
order_there AsMadeLogged trees Hold = sorted_in_order 4 (bodies (trees 12))
order_there AsMadeLogged trees NetworkPoint = sorted_in_order 1 (bodies (trees 4))
order_there AsMovedLogged trees Meta = sorted_in_order 1 (bodies (trees 0))
order_there AsMovedLogged trees Section = sorted_in_order 1 (bodies (trees 2))
order_there AsMovedLogged trees Point = refl
order_there AsMovedLogged trees Staff = sorted_in_order 1 (bodies (trees 6))
order_there AsMovedLogged trees Clearance = sorted_in_order 2 (bodies (trees 8))
order_there AsMovedLogged trees Step = sorted_in_order 4 (bodies (trees 10))
order_there AsMovedLogged trees Hold = sorted_in_order 4 (bodies (trees 12))
order_there AsMovedLogged trees NetworkPoint = sorted_in_order 1 (bodies (trees 14))
order_there l trees Journal = refl

-- the table of the journal has its one row, if it is there
place_there : (l : Layout) (trees : Trees) → (has_table l Journal ≡ true → length (trees (tree_in l Journal)) ≡ 1) → IsSound (schema_in l) trees → AreWhole l trees → IsPlaced l trees
place_there l trees one sound whole = at (has_table l Journal) refl
  where
    only : (rows : List Row) → length rows ≡ 1 → HasRows (columns_in Journal) (trees (tree_in l Journal)) rows
        → (row : Row) × HasRows (columns_in Journal) (trees (tree_in l Journal)) (row ∷ [])
    only [] long has = absurd (omega (arith, long))
    only (row ∷ []) long has = (row, has)
    only (row ∷ next ∷ rows) long has = absurd (omega (arith, long))

    at : (b : Bool) → has_table l Journal ≡ b → IsPlaced l trees
    at false is = (None, is)
    at true is =
        let has = table_there l trees Journal is sound whole in
        let tree = trees (tree_in l Journal) in
        let long : length (rows_there l trees Journal) ≡ 1 = sym (length_permutation (rows_there l trees Journal) (bodies tree) has.same) ∙ length-map tree (drop 1) ∙ one is in
        let it = only (rows_there l trees Journal) long has in
        (Some it.0, (is, it.1))

-- THERE ARE TABLES in a database that is laid out as a register, whose rows are whole
pub there_are : TablesAreThere
there_are version db laid sound whole =
    let l = IsLaidOut.layout laid in
    let listed = subst (λ s. IsSound s db.trees) laid.schema sound in (
      tables_there l db.trees,
      record {
        holds = record { schema = laid.schema; listed = listed; rows = each_there l db.trees laid.emptied listed (whole l laid.schema) };
        in_order = order_there l db.trees;
        placed = place_there l db.trees laid.one_place listed (whole l laid.schema);
      },
    )

-- ---- the row of the version
-- one row that says the version is its row
one_row : (row : Row) (n : ℕ) → fits_columns (columns_in Meta) row ≡ true → read_version (row ∷ []) ≡ Ok (pos n) → row ≡ version_row n
unfolding read_version
one_row [] n fits read = absurd cc
one_row (v ∷ []) n fits read = absurd (true≢false (sym (both_true (is_of_kind kind.Text v) false fits).1))
one_row (v ∷ w ∷ x ∷ row) n fits read =
    absurd (true≢false (sym (both_true (is_of_kind kind.Integer w) false (both_true (is_of_kind kind.Text v) _ fits).1).1))
one_row (Null ∷ w ∷ []) n fits read = absurd cc
one_row (Int m ∷ w ∷ []) n fits read = absurd cc
one_row (Real m ∷ w ∷ []) n fits read = absurd cc
one_row (Blob m ∷ w ∷ []) n fits read = absurd cc
one_row (Text name ∷ w ∷ []) n fits read = by_name (bytes_eq name (codes "version")) refl read
  where
    number : (w : Value) → integer_of w ≡ Ok (pos n) → w ≡ Int (pos n)
    number Null read = absurd cc
    number (Int m) read = let same : m ≡ pos n = cc in ap Int same
    number (Real m) read = absurd cc
    number (Text m) read = absurd cc
    number (Blob m) read = absurd cc

    by_name : (is : Bool) → bytes_eq name (codes "version") ≡ is → version_if_there (if is then Some (Text name ∷ w ∷ []) else None) ≡ Ok (pos n) → (Text name ∷ w ∷ []) ≡ version_row n
    by_name true is read = rw ((bytes_eq-Decides name (codes "version")).0 is, number w read) refl
    by_name false is read = absurd cc

one_alone : (meta : List Row) (n : ℕ) → list_all (fits_columns (columns_in Meta)) meta ≡ true → length meta ≡ 1 → read_version meta ≡ Ok (pos n) → meta ≡ version_row n ∷ []
one_alone [] n fits one read = absurd (omega (arith, one))
one_alone (row ∷ []) n fits one read = ap (λ r. r ∷ []) (one_row row n (both_true _ true fits).0 read)
one_alone (row ∷ next ∷ rows) n fits one read = absurd (omega (arith, one))

-- AND THEY HAVE THE VERSION, if their `meta` is one row that says it
pub version_there : (n : ℕ) (db : Database) → IsLaidOut n db → IsDatabase db → HasWholeRows db
    → ((meta : List Row) → HasMeta db meta → (length meta ≡ 1) × (read_version meta ≡ Ok (pos n))) → HasVersion n db
version_there n db laid sound whole says =
    let it = there_are n db laid sound whole in
    let meta = has_meta (IsLaidOut.layout laid) db it.0 it.1 in
    let told = says it.0.meta meta in
    record { layout = IsLaidOut.layout laid; version_is = laid.version_is; tables = it.0; here = it.1; told = one_alone it.0.meta n meta.rows.fit told.0 told.1 }
