-- The first line of a text, and what comes after it.
use Rattle.std.proofs.Common.{◌≡◌, ◌∙◌, append_assoc, ◌+◌, ◌-◌, ◌<◌, ℕ, Bool, true, false, cond, List, [], ◌∷◌, ◌++◌, ◌||◌, length, take, drop, None, Some, nat_lt, refl, ap, sym, subst, arith, All, inl, inr, length-drop, ltb-true, lt-ltb}
use Rattle.std.proofs.lemmas.Bool.{cases_lt}
use Rattle.std.proofs.lemmas.List.Elements.{All-cons, All-nil}
use Rattle.std.proofs.Math.Seq.{take-length}
use Rattle.std.proofs.lemmas.List.Splits.{slice_split_at, slice_split_first, slice_split_none, length-slice_split, join_with_byte-slice_split}
use Rattle.std.proofs.lemmas.List.Sums.{fails_before_first}
use Rattle.std.specs.List.{join_with_byte, list_any, position_or_len}
use Rattle.std.specs.Prelude.{position}
use Rattle.clr_journal.specs.Lines.{but_last, ended_lines, ended_text, is_line_feed, last_of, pieces, text_of, unfinished}

pub rest_of_slice : (n : ℕ) (xs : List ℕ) → take (length xs - n) (drop n xs) ≡ drop n xs
rest_of_slice n xs = ap (λ k. take k (drop n xs)) (sym (length-drop n xs)) ∙ take-length (drop n xs)

abbrev place : List ℕ → ℕ
place xs = position_or_len is_line_feed xs

-- there is a piece more
pub some_piece : (ps : List (List ℕ)) → 0 < length ps → (line : List ℕ) → (but_last (line ∷ ps) ≡ line ∷ but_last ps) × (last_of (line ∷ ps) ≡ last_of ps)
some_piece [] some line = let none : 0 < 0 = some in absurd (omega (arith, none))
some_piece (p ∷ ps) some line = (refl, refl)

has_piece : (xs : List ℕ) → 0 < length (pieces xs)
has_piece xs = let n = length-slice_split is_line_feed xs in omega (arith, n)

pub record Found (n : ℕ) (xs : List ℕ) : Type 0 where
  pub lines : ended_lines xs ≡ take n xs ∷ ended_lines (drop (n + 1) xs)
  pub rest : unfinished xs ≡ unfinished (drop (n + 1) xs)
  pub inside : n < length xs

at_place : (xs : List ℕ) → place xs < length xs → Found (place xs) xs
at_place xs inside =
    let parts : pieces xs ≡ take (place xs) xs ∷ pieces (drop (place xs + 1) xs) = slice_split_first is_line_feed xs 0 inside in
    let more = some_piece (pieces (drop (place xs + 1) xs)) (has_piece (drop (place xs + 1) xs)) (take (place xs) xs) in
    record { lines = ap but_last parts ∙ more.0; rest = ap last_of parts ∙ more.1; inside = inside }

pub found : (xs : List ℕ) (n : ℕ) → position is_line_feed xs ≡ Some n → Found n xs
found xs n is = by_test (nat_lt (place xs) (length xs)) refl is
  where
    by_test : (b : Bool) → nat_lt (place xs) (length xs) ≡ b → cond b (Some (place xs)) None ≡ Some n → Found n xs
    by_test true e h = let same : place xs ≡ n = cc in subst (λ (k : ℕ). Found k xs) same (at_place xs (ltb-true _ _ e))
    by_test false e h = cc

-- ---- no line feed

pub none_pass : (p : ℕ → Bool) (xs : List ℕ) → list_any p xs ≡ false → All (λ x. p x ≡ false) xs
none_pass p [] h = All-nil (λ x. p x ≡ false)
none_pass p (x ∷ xs) h = at (p x) refl h (none_pass p xs)
  where
    at : (b : Bool) → p x ≡ b → (b || list_any p xs) ≡ false → (list_any p xs ≡ false → All (λ x. p x ≡ false) xs) → All (λ x. p x ≡ false) (x ∷ xs)
    at true e h more = cc h
    at false e h more = All-cons (λ x. p x ≡ false) x xs e (more h)

-- a line, its line feed, and more
pub line_first : (line rest : List ℕ) → list_any is_line_feed line ≡ false → (ended_lines (line ++ 10 ∷ rest) ≡ line ∷ ended_lines rest) × (unfinished (line ++ 10 ∷ rest) ≡ unfinished rest)
line_first line rest none =
    let parts : pieces (line ++ 10 ∷ rest) ≡ line ∷ pieces rest = slice_split_at is_line_feed line 10 rest (none_pass is_line_feed line none) refl in
    let more = some_piece (pieces rest) (has_piece rest) line in
    (ap but_last parts ∙ more.0, ap last_of parts ∙ more.1)

pub no_line : (text : List ℕ) → list_any is_line_feed text ≡ false → (ended_lines text ≡ []) × (unfinished text ≡ Some text)
no_line text none =
    let one : pieces text ≡ text ∷ [] = slice_split_none is_line_feed text (none_pass is_line_feed text none) in
    (ap but_last one, ap last_of one)

onto_nothing : (xs : List ℕ) → position is_line_feed xs ≡ None → All (λ x. is_line_feed x ≡ false) xs
onto_nothing xs is k d below = elim (cases_lt (place xs) (length xs)) [
  | inl inside ↦ absurd (some_place (nat_lt (place xs) (length xs)) (lt-ltb _ _ inside) is)
  | inr beyond ↦ fails_before_first is_line_feed xs k d (omega arith)
]
  where
    some_place : (b : Bool) → b ≡ true → cond b (Some (place xs)) None ≡ None → ⊥
    some_place true e h = cc h
    some_place false e h = cc e

pub not_found : (xs : List ℕ) → position is_line_feed xs ≡ None → (ended_lines xs ≡ []) × (unfinished xs ≡ Some xs)
not_found xs is =
    let one : pieces xs ≡ xs ∷ [] = slice_split_none is_line_feed xs (onto_nothing xs is) in
    (ap but_last one, ap last_of one)

-- ---- a text is its lines, and what no line feed ends

glued : (ps : List (List ℕ)) (rest : List ℕ) → last_of ps ≡ Some rest → text_of (but_last ps) ++ rest ≡ join_with_byte 10 ps
glued [] rest h = cc
glued (p ∷ []) rest h = some_same h
  where
    some_same : Some p ≡ Some rest → rest ≡ p
    some_same e = cc
glued (p ∷ q ∷ more) rest h =
    append_assoc (p ++ 10 ∷ []) (text_of (but_last (q ∷ more))) rest
    ∙ append_assoc p (10 ∷ []) (text_of (but_last (q ∷ more)) ++ rest)
    ∙ ap (λ t. p ++ 10 ∷ t) (glued (q ∷ more) rest h)

pub whole_text : (xs rest : List ℕ) → unfinished xs ≡ Some rest → ended_text xs ++ rest ≡ xs
whole_text xs rest h = glued (pieces xs) rest h ∙ join_with_byte-slice_split 10 xs
