-- The rows of a table, read one after the other.
use Rattle.std.proofs.Common.{◌≡◌, ◌+◌, ◌<◌, ◌≤◌, ℕ, zero, suc, List, [], ◌∷◌, ◌++◌, take, get_or, length, Result, Ok, Err, refl, sym, ap, ◌∙◌, arith}
use Rattle.std.proofs.lemmas.List.{take_more}
use Rattle.sqlite.specs.Order.{Row}
use Rattle.clr_net.specs.Results.{◌>>=◌}
use Rattle.clr_load.specs.RowsRead.{all_read}
use Rattle.clr_load.specs.declared.table_name.TableName.{TableName}

pub same_value : {B E : Type 0} {a b : B} → ◌≡◌ {A = Result B E} (Ok a) (Ok b) → a ≡ b
same_value e = cc

-- what a row reads as, in front of what the others read as
abbrev in_front : {A : Type 0} → Result A TableName → Result (List A) TableName → Result (List A) TableName
in_front first rest = first >>= λ x. rest >>= λ xs. Ok (x ∷ xs)

-- where the rows before are read, so is one before them
in_front_more : {A : Type 0} (first : Result A TableName) (before after : Result (List A) TableName) (xs : List A) (x : A)
    → ((ys : List A) → before ≡ Ok ys → after ≡ Ok (ys ++ x ∷ [])) → in_front first before ≡ Ok xs → in_front first after ≡ Ok (xs ++ x ∷ [])
in_front_more (Err t) before after xs x more h = absurd cc
in_front_more (Ok y) (Err t) after xs x more h = absurd cc
in_front_more (Ok y) (Ok ys) after xs x more h = rw (more ys refl) (ap (λ l. Ok (l ++ x ∷ [])) (same_value h))

in_front_fails : {A : Type 0} (first : Result A TableName) (before after : Result (List A) TableName) (xs : List A) (t : TableName)
    → ((ys : List A) → before ≡ Ok ys → after ≡ Err t) → in_front first before ≡ Ok xs → in_front first after ≡ Err t
in_front_fails (Err u) before after xs t more h = absurd cc
in_front_fails (Ok y) (Err u) after xs t more h = absurd cc
in_front_fails (Ok y) (Ok ys) after xs t more h = rw (more ys refl) refl

-- one row more
pub read_append : {A : Type 0} (read : Row → Result A TableName) (rows : List Row) (row : Row) (xs : List A) (x : A)
    → read row ≡ Ok x → all_read read rows ≡ Ok xs → all_read read (rows ++ row ∷ []) ≡ Ok (xs ++ x ∷ [])
unfolding all_read
read_append read [] row xs x gives so = rw gives (ap (λ l. Ok (l ++ x ∷ [])) (same_value so))
read_append read (r ∷ rows) row xs x gives so =
    in_front_more (read r) (all_read read rows) (all_read read (rows ++ row ∷ [])) xs x
    (λ ys f. read_append read rows row ys x gives f) so

pub read_more : {A : Type 0} (read : Row → Result A TableName) (rows : List Row) (k : ℕ) (row : Row) (xs : List A) (x : A)
    → k < length rows → row ≡ get_or rows k row → read row ≡ Ok x → all_read read (take k rows) ≡ Ok xs
    → all_read read (take (k + 1) rows) ≡ Ok (xs ++ x ∷ [])
read_more read rows k row xs x within is gives so =
    let more : take (k + 1) rows ≡ take k rows ++ row ∷ [] =
    take_more rows k row within ∙ ap (λ r. take k rows ++ r ∷ []) (sym is) in
    ap (all_read read) more ∙ read_append read (take k rows) row xs x gives so

-- a row that does not read, after others that do
pub read_fails : {A : Type 0} (read : Row → Result A TableName) (rows : List Row) (k : ℕ) (row : Row) (xs : List A) (t : TableName)
    → k < length rows → row ≡ get_or rows k row → read row ≡ Err t → all_read read (take k rows) ≡ Ok xs → all_read read rows ≡ Err t
unfolding all_read
read_fails read [] k row xs t within is fails so = absurd (omega arith)
read_fails read (r ∷ rows) zero row xs t within is fails so = rw (ap read (sym is) ∙ fails) refl
read_fails read (r ∷ rows) (suc k) row xs t within is fails so =
    in_front_fails (read r) (all_read read (take k rows)) (all_read read rows) xs t (λ ys f. read_fails read rows k row ys t (omega arith) is fails f) so

-- and whatever comes after it
pub read_stops : {A : Type 0} (read : Row → Result A TableName) (rows : List Row) (row : Row) (rest : List Row) (xs : List A) (t : TableName)
    → read row ≡ Err t → all_read read rows ≡ Ok xs → all_read read ((rows ++ row ∷ []) ++ rest) ≡ Err t
unfolding all_read
read_stops read [] row rest xs t fails so = rw fails refl
read_stops read (r ∷ rows) row rest xs t fails so =
    in_front_fails (read r) (all_read read rows) (all_read read ((rows ++ row ∷ []) ++ rest)) xs t (λ ys f. read_stops read rows row rest ys t fails f) so

pub read_whole : {A : Type 0} (read : Row → Result A TableName) (rows : List Row) (k : ℕ) (xs : List A)
    → length rows ≤ k → all_read read (take k rows) ≡ Ok xs → all_read read rows ≡ Ok xs
read_whole read rows k xs whole so = ap (all_read read) (sym (take-all rows k whole)) ∙ so
  where
    take-all : (l : List Row) (k : ℕ) → length l ≤ k → take k l ≡ l
    take-all [] zero h = refl
    take-all [] (suc k) h = refl
    take-all (x ∷ l) zero h = absurd (omega arith)
    take-all (x ∷ l) (suc k) h = ap (λ m. x ∷ m) (take-all l k (omega arith))

pub read_none : {A : Type 0} (read : Row → Result A TableName) → all_read read [] ≡ Ok []
unfolding all_read
read_none read = refl
