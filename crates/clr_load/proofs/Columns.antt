-- The columns of a row, by number and as a list.
use Rattle.std.proofs.Common.{◌≡◌, ◌≤◌, ◌<◌, ◌+◌, ℕ, zero, suc, ℤ, List, [], ◌∷◌, ◌++◌, map, take, drop, length, Bool, true, false, cond, ◌&&◌, ◌==◌, refl, sym, ap, ◌∙◌, arith}
use Rattle.std.specs.List.{list_all}
use Rattle.std.specs.Ordering.{is_eq, ordering_then}
use Rattle.std.specs.declared.cmp.Ordering.{Ordering}
use Rattle.std.specs.declared.cmp.Ordering.TheVariants.{Less, Equal, Greater}
use Rattle.std.proofs.lemmas.Bool.Decides.{nat_tests}
use Rattle.sqlite.specs.Cast.{cast, cast_all}
use Rattle.sqlite.specs.Kind.{Kind}
use Rattle.sqlite.specs.Kind.TheVariants as kind
use Rattle.sqlite.specs.Ops.{unary, binary, is_true, from_truth}
use Rattle.sqlite.specs.Order.{Row, column, value_cmp, row_cmp}
use Rattle.sqlite.specs.Query.{key_cmp}
use Rattle.sqlite.specs.Term.{eval_all, holds}
use Rattle.sqlite.specs.declared.types.Value.{Value}
use Rattle.sqlite.specs.declared.types.Value.TheVariants.{Null, Int, Real, Text, Blob}
use Rattle.sqlite_schema.specs.declared.schema.Column.{Column}
use Rattle.sqlite.specs.Collation.TheVariants.{Binary}
use Rattle.sqlite_sql.specs.declared.ops.BinaryOp.TheVariants.{Compare}
use Rattle.sqlite_sql.specs.declared.ops.CompareOp.TheVariants.{Eq}
use Rattle.clr_load.specs.Stored.{fits_columns, has_key, is_of_kind, is_set}
use Rattle.clr_load.proofs.Texts.{terms_from, tests_from, order_from}

pub both_true : (a b : Bool) → (a && b) ≡ true → (a ≡ true) × (b ≡ true)
both_true true b h = (refl, h)
both_true false b h = absurd cc

-- ---- casts

either : (b : Bool) (x : Value) → cond b x x ≡ x
either true x = refl
either false x = refl

cast_null : cast kind.Integer Null ≡ Null
unfolding unary
cast_null = either _ Null

cast_int : (n : ℤ) → cast kind.Integer (Int n) ≡ Int n
unfolding unary
cast_int n = either _ (Int n)

cast_kind : (k : Kind) (v : Value) → is_of_kind k v ≡ true → cast k v ≡ v
cast_kind kind.Integer Null h = cast_null
cast_kind kind.Integer (Int n) h = cast_int n
cast_kind kind.Integer (Real x) h = absurd cc
cast_kind kind.Integer (Text t) h = absurd cc
cast_kind kind.Integer (Blob b) h = absurd cc
cast_kind kind.Text Null h = refl
cast_kind kind.Text (Int n) h = absurd cc
cast_kind kind.Text (Real x) h = absurd cc
cast_kind kind.Text (Text t) h = refl
cast_kind kind.Text (Blob b) h = absurd cc
cast_kind kind.Real v h = absurd cc
cast_kind kind.Blob v h = absurd cc
cast_kind kind.Any v h = absurd cc

pub cast_number : cast kind.Integer Null ≡ Null
cast_number = cast_null

pub cast_id : (n : ℤ) → cast kind.Integer (Int n) ≡ Int n
cast_id n = cast_int n

-- a row that fits its columns is stored as it is
pub cast_fits : (columns : List Column) (row : Row) → fits_columns columns row ≡ true → cast_all columns row ≡ row
cast_fits [] row h = refl
cast_fits (c ∷ columns) [] h = refl
cast_fits (c ∷ columns) (v ∷ values) h =
    let parts = both_true (is_of_kind c.kind v) (fits_columns columns values) h in
    λ i. cast_kind c.kind v parts.0 i ∷ cast_fits columns values parts.1 i

pub fits_length : (columns : List Column) (row : Row) → fits_columns columns row ≡ true → length row ≡ length columns
fits_length [] [] h = refl
fits_length [] (v ∷ values) h = absurd cc
fits_length (c ∷ columns) [] h = absurd cc
fits_length (c ∷ columns) (v ∷ values) h = ap suc (fits_length columns values (both_true (is_of_kind c.kind v) (fits_columns columns values) h).1)

-- ---- the values in this many columns, from one on
abbrev pub values_from : ℕ → ℕ → Row → Row
values_from at zero row = []
values_from at (suc n) row = column row at ∷ values_from (suc at) n row

pub values_shift : (n at : ℕ) (v : Value) (row : Row) → values_from (suc at) n (v ∷ row) ≡ values_from at n row
values_shift zero at v row = refl
values_shift (suc n) at v row = ap (λ l. column row at ∷ l) (values_shift n (suc at) v row)

pub values_take : (n : ℕ) (row : Row) → n ≤ length row → values_from 0 n row ≡ take n row
values_take zero row h = refl
values_take (suc n) [] h = absurd (omega arith)
values_take (suc n) (v ∷ row) h = ap (λ l. v ∷ l) (values_shift n 0 v row ∙ values_take n row (omega arith))

pub values_all : (n : ℕ) (row : Row) → length row ≡ n → values_from 0 n row ≡ row
values_all zero [] h = refl
values_all zero (v ∷ row) h = absurd (omega arith)
values_all (suc n) [] h = absurd (omega arith)
values_all (suc n) (v ∷ row) h = ap (λ l. v ∷ l) (values_shift n 0 v row ∙ values_all n row (omega arith))

-- the columns of the row that is met, as terms
pub met_values : (n at : ℕ) (params row : Row) → eval_all (terms_from 1 at n) (params ∷ row ∷ []) ≡ values_from at n row
met_values zero at params row = refl
met_values (suc n) at params row = ap (λ l. column row at ∷ l) (met_values n (suc at) params row)

-- ---- tests of the key

pub says : (b : Bool) → is_true (from_truth (Rattle.std.proofs.Common.Some b)) ≡ b
says true = refl
says false = refl

-- a value is equal to one that is set exactly where they tie
pub equal_is : (v k : Value) → is_set k ≡ true → is_true (binary (Compare Eq Binary) v k) ≡ is_eq (value_cmp v k)
unfolding binary value_cmp
equal_is v Null h = absurd cc
equal_is Null (Int n) h = refl
equal_is Null (Real x) h = refl
equal_is Null (Text t) h = refl
equal_is Null (Blob b) h = refl
equal_is (Int m) (Int n) h = says _
equal_is (Int m) (Real x) h = says _
equal_is (Int m) (Text t) h = says _
equal_is (Int m) (Blob b) h = says _
equal_is (Real m) (Int n) h = says _
equal_is (Real m) (Real x) h = says _
equal_is (Real m) (Text t) h = says _
equal_is (Real m) (Blob b) h = says _
equal_is (Text m) (Int n) h = says _
equal_is (Text m) (Real x) h = says _
equal_is (Text m) (Text t) h = says _
equal_is (Text m) (Blob b) h = says _
equal_is (Blob m) (Int n) h = says _
equal_is (Blob m) (Real x) h = says _
equal_is (Blob m) (Text t) h = says _
equal_is (Blob m) (Blob b) h = says _

-- whether this many columns tie, from one on
abbrev pub ties_from : ℕ → ℕ → Row → Row → Bool
ties_from at zero key row = true
ties_from at (suc n) key row = is_eq (value_cmp (column row at) (column key at)) && ties_from (suc at) n key row

abbrev pub sets_from : ℕ → ℕ → Row → Bool
sets_from at zero key = true
sets_from at (suc n) key = is_set (column key at) && sets_from (suc at) n key

tests_tie : (n at : ℕ) (key row : Row) (id : Value) → sets_from at n key ≡ true → list_all (holds (key ∷ (id ∷ row) ∷ [])) (tests_from at n) ≡ ties_from at n key row
tests_tie zero at key row id h = refl
tests_tie (suc n) at key row id h =
    let parts = both_true (is_set (column key at)) (sets_from (suc at) n key) h in
    λ i. equal_is (column row at) (column key at) parts.0 i && tests_tie n (suc at) key row id parts.1 i

ties_shift : (n at : ℕ) (k v : Value) (key row : Row) → ties_from (suc at) n (k ∷ key) (v ∷ row) ≡ ties_from at n key row
ties_shift zero at k v key row = refl
ties_shift (suc n) at k v key row = ap (λ b. is_eq (value_cmp (column row at) (column key at)) && b) (ties_shift n (suc at) k v key row)

pub sets_shift : (n at : ℕ) (k : Value) (key : Row) → sets_from (suc at) n (k ∷ key) ≡ sets_from at n key
sets_shift zero at k key = refl
sets_shift (suc n) at k key = ap (λ b. is_set (column key at) && b) (sets_shift n (suc at) k key)

then_eq : (o p : Ordering) → is_eq (ordering_then o p) ≡ (is_eq o && is_eq p)
then_eq Less p = refl
then_eq Equal p = refl
then_eq Greater p = refl

null_apart : (k : Value) → is_set k ≡ true → is_eq (value_cmp Null k) ≡ false
unfolding value_cmp
null_apart Null h = absurd cc
null_apart (Int n) h = refl
null_apart (Real x) h = refl
null_apart (Text t) h = refl
null_apart (Blob b) h = refl

and_false : (a b : Bool) → a ≡ false → (a && b) ≡ false
and_false a b h = rw h refl

-- the first columns tie exactly where the key of the row is that key
ties_key : (key row : Row) → sets_from 0 (length key) key ≡ true → ties_from 0 (length key) key row ≡ is_eq (row_cmp (take (length key) row) key)
ties_key [] row h = refl
ties_key (k ∷ key) [] h =
    and_false (is_eq (value_cmp Null k)) (ties_from 1 (length key) (k ∷ key) []) (null_apart k (both_true (is_set k) (sets_from 1 (length key) (k ∷ key)) h).0)
ties_key (k ∷ key) (v ∷ row) h =
    let parts = both_true (is_set k) (sets_from 1 (length key) (k ∷ key)) h in
    let rest = ties_shift (length key) 0 k v key row ∙ ties_key key row (sym (sets_shift (length key) 0 k key) ∙ parts.1) in
    ap (λ b. is_eq (value_cmp v k) && b) rest ∙ sym (then_eq (value_cmp v k) (row_cmp (take (length key) row) key))

-- the tests of a statement on the row that has a number: its key is that key
pub tests_are : (n : ℕ) (key row : Row) (id : Value) → length key ≡ n → sets_from 0 n key ≡ true
    → list_all (holds (key ∷ (id ∷ row) ∷ [])) (tests_from 0 n) ≡ is_eq (row_cmp (take n row) key)
tests_are n key row id is set =
    let there : ties_from 0 n key row ≡ is_eq (row_cmp (take n row) key) = rw (sym is) (ties_key key row (rw is set)) in
    tests_tie n 0 key row id set ∙ there

sets_all : (key : Row) → list_all is_set key ≡ true → sets_from 0 (length key) key ≡ true
sets_all [] h = refl
sets_all (k ∷ key) h =
    let parts = both_true (is_set k) (list_all is_set key) h in
    rw (parts.0, sets_shift (length key) 0 k key) (sets_all key parts.1)

-- what a key is
pub key_parts : (n : ℕ) (key : Row) → has_key n key ≡ true → (length key ≡ n) × (sets_from 0 n key ≡ true)
key_parts n key h =
    let parts = both_true (length key == n) (list_all is_set key) h in
    let long : length key ≡ n = grind (arith, nat_tests) in
    (long, rw (sym long) (sets_all key parts.1))

-- ---- the order of ORDER BY
pub key_order : (n at : ℕ) (x y : Row) → key_cmp at (map (λ k. k.1) (order_from at n)) x y ≡ row_cmp (values_from at n x) (values_from at n y)
key_order zero at x y = refl
key_order (suc n) at x y = ap (ordering_then (value_cmp (column x at) (column y at))) (key_order n (suc at) x y)
