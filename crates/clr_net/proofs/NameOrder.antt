-- Names compare as the numbers that their cells spell.
use Rattle.std.proofs.Common.{◌≡◌, ℕ, zero, suc, ◌+◌, ◌-◌, ◌*◌, ◌<◌, ◌≤◌, true, ◌&&◌, ◌==◌, IsTrue, List, [], ◌∷◌, ◌++◌, length, take, drop, replicate, get_or, refl, sym, ap, ap₂, ◌∙◌, arith, nat_cmp, is_eq, Ordering, Less, Equal, Greater}
use Rattle.std.proofs.Common.{get_or-drop, length-drop, length-append, drop-drop, take_all, drop-cons}
use Rattle.std.specs.List.{list_all}
use Rattle.std.specs.Ordering.{ordering_then, MatchOrdering}
use Rattle.std.specs.Cmp.{nat_cmp_is, ranks, both_tied, unsigned_ties}
use Rattle.std.specs.Cmp.Lexicographic.{slice_cmp, texts_ties}
use Rattle.std.proofs.lemmas.List.{length-replicate}
use Rattle.std.proofs.lemmas.Bool.{and_parts}
use Rattle.std.proofs.lemmas.Bool.Decides.{nat_tests}
use Rattle.clr_net.specs.Name.{is_name, is_name_byte, padded, name_cmp, same_name}
use Rattle.clr_net.specs.NameWords.{spelt, word_from, words_of}
use Rattle.clr_net.proofs.Names.{name_parts}

-- ---- cells, and the number that they spell

abbrev cells_from : List ℕ → ℕ → ℕ → ℕ → List ℕ
cells_from cells place k zero = []
cells_from cells place k (suc n) = get_or cells (place + k) 0 ∷ cells_from cells place (suc k) n

cells_read : (cells : List ℕ) (place k n : ℕ) → place + k + n ≤ length cells → take n (drop (place + k) cells) ≡ cells_from cells place k n
cells_read cells place k zero h = refl
cells_read cells place k (suc n) h =
    let next : suc (place + k) ≡ place + suc k = omega arith in
    let rest = cells_read cells place (suc k) n (omega arith) in
    ap (take (suc n)) (drop-cons cells (place + k) 0 (omega arith)) ∙ ap (λ l. get_or cells (place + k) 0 ∷ l) (ap (λ m. take n (drop m cells)) next ∙ rest)

-- what `from_be_bytes` answers
pub word_spelt : (cells : List ℕ) (place : ℕ) → place + 8 ≤ length cells
    → get_or cells place 0 * 72057594037927936 + get_or cells (place + 1) 0 * 281474976710656 + get_or cells (place + 2) 0 * 1099511627776 + get_or cells (place + 3) 0 * 4294967296
    + get_or cells (place + 4) 0 * 16777216 + get_or cells (place + 5) 0 * 65536 + get_or cells (place + 6) 0 * 256 + get_or cells (place + 7) 0 ≡ word_from place cells
word_spelt cells place h =
    let start : place + 0 ≡ place = omega arith in
    let here : get_or cells (place + 0) 0 ≡ get_or cells place 0 = ap (λ k. get_or cells k 0) start in
    omega (arith, here) ∙ sym (ap (spelt 0) (ap (λ k. take 8 (drop k cells)) (sym start) ∙ cells_read cells place 0 8 (omega arith)))

-- ---- orders, one after another

then_assoc : (r s t : Ordering) → ordering_then (ordering_then r s) t ≡ ordering_then r (ordering_then s t)
then_assoc Less s t = refl
then_assoc Equal s t = refl
then_assoc Greater s t = refl

-- lists compare by their first n, and where those are level by the rest
cut_at : (n : ℕ) (xs ys : List ℕ) → n ≤ length xs → n ≤ length ys
    → slice_cmp nat_cmp xs ys ≡ ordering_then (slice_cmp nat_cmp (take n xs) (take n ys)) (slice_cmp nat_cmp (drop n xs) (drop n ys))
cut_at zero xs ys p q = refl
cut_at (suc n) [] ys p q = absurd (omega arith)
cut_at (suc n) (x ∷ xs) [] p q = absurd (omega arith)
cut_at (suc n) (x ∷ xs) (y ∷ ys) p q =
    ap (ordering_then (nat_cmp x y)) (cut_at n xs ys (omega arith) (omega arith))
    ∙ sym (then_assoc (nat_cmp x y) (slice_cmp nat_cmp (take n xs) (take n ys)) (slice_cmp nat_cmp (drop n xs) (drop n ys)))

-- ---- numbers in base 256 compare by their digits, the highest first

abbrev Small : List ℕ → Type 0
Small bs = (k : ℕ) → get_or bs k 0 < 256

one_digit : (a b x y : ℕ) → x < 256 → y < 256 → nat_cmp (a * 256 + x) (b * 256 + y) ≡ ordering_then (nat_cmp a b) (nat_cmp x y)
one_digit a b x y p q = high (nat_cmp a b) (ranks a b)
  where
    low : a ≡ b → (s : Ordering) → MatchOrdering s (x < y) (x ≡ y) (y < x) → nat_cmp (a * 256 + x) (b * 256 + y) ≡ s
    low e Less h = let l : x < y = h in sym (nat_cmp_is (a * 256 + x) (b * 256 + y) Less (omega arith))
    low e Equal h = let l : x ≡ y = h in sym (nat_cmp_is (a * 256 + x) (b * 256 + y) Equal (omega arith))
    low e Greater h = let l : y < x = h in sym (nat_cmp_is (a * 256 + x) (b * 256 + y) Greater (omega arith))

    high : (r : Ordering) → MatchOrdering r (a < b) (a ≡ b) (b < a) → nat_cmp (a * 256 + x) (b * 256 + y) ≡ ordering_then r (nat_cmp x y)
    high Less h = let l : a < b = h in sym (nat_cmp_is (a * 256 + x) (b * 256 + y) Less (omega arith))
    high Equal h = low h (nat_cmp x y) (ranks x y)
    high Greater h = let l : b < a = h in sym (nat_cmp_is (a * 256 + x) (b * 256 + y) Greater (omega arith))

digits : (n a b : ℕ) (xs ys : List ℕ) → Small xs → Small ys → n ≤ length xs → n ≤ length ys
    → nat_cmp (spelt a (take n xs)) (spelt b (take n ys)) ≡ ordering_then (nat_cmp a b) (slice_cmp nat_cmp (take n xs) (take n ys))
digits zero a b xs ys f g p q = none (nat_cmp a b)
  where
    none : (r : Ordering) → r ≡ ordering_then r Equal
    none Less = refl
    none Equal = refl
    none Greater = refl
digits (suc n) a b [] ys f g p q = absurd (omega arith)
digits (suc n) a b (x ∷ xs) [] f g p q = absurd (omega arith)
digits (suc n) a b (x ∷ xs) (y ∷ ys) f g p q =
    digits n (a * 256 + x) (b * 256 + y) xs ys (λ k. f (suc k)) (λ k. g (suc k)) (omega arith) (omega arith)
    ∙ ap (λ r. ordering_then r (slice_cmp nat_cmp (take n xs) (take n ys))) (one_digit a b x y (f 0) (g 0))
    ∙ then_assoc (nat_cmp a b) (nat_cmp x y) (slice_cmp nat_cmp (take n xs) (take n ys))

one_word : (place : ℕ) (xs ys : List ℕ) → Small xs → Small ys → place + 8 ≤ length xs → place + 8 ≤ length ys
    → nat_cmp (word_from place xs) (word_from place ys) ≡ slice_cmp nat_cmp (take 8 (drop place xs)) (take 8 (drop place ys))
one_word place xs ys f g p q =
    digits 8 0 0 (drop place xs) (drop place ys) (λ k. rw (get_or-drop place xs k 0) (f (place + k))) (λ k. rw (get_or-drop place ys k 0) (g (place + k)))
    (omega (arith, length-drop place xs)) (omega (arith, length-drop place ys))

three_words : (xs ys : List ℕ) → Small xs → Small ys → length xs ≡ 24 → length ys ≡ 24
    → ordering_then (ordering_then (nat_cmp (word_from 0 xs) (word_from 0 ys)) (nat_cmp (word_from 8 xs) (word_from 8 ys))) (nat_cmp (word_from 16 xs) (word_from 16 ys))
    ≡ slice_cmp nat_cmp xs ys
three_words xs ys f g p q =
    let first = one_word 0 xs ys f g (omega arith) (omega arith) in
    let second = one_word 8 xs ys f g (omega arith) (omega arith) in
    let third = one_word 16 xs ys f g (omega arith) (omega arith) in
    let tail = cut_at 8 (drop 8 xs) (drop 8 ys) (omega (arith, length-drop 8 xs)) (omega (arith, length-drop 8 ys)) in
    let whole = cut_at 8 xs ys (omega arith) (omega arith) in
    let last = ap₂ (slice_cmp nat_cmp) (last_of xs p) (last_of ys q) in
    rw (first, second, third, then_assoc _ _ _, whole, tail, last) refl
  where
    last_of : (cells : List ℕ) → length cells ≡ 24 → drop 8 (drop 8 cells) ≡ take 8 (drop 16 cells)
    last_of cells e = drop-drop 8 8 cells ∙ sym (take_all 8 (drop 16 cells) (omega (arith, length-drop 16 cells)))

-- ---- a name and its padding

byte_is_some : (b : ℕ) → is_name_byte b ≡ true → (0 < b) × (b < 256)
byte_is_some b h = (grind (arith, nat_tests), grind (arith, nat_tests))

zeros_small : (n : ℕ) → Small (replicate n 0)
zeros_small zero k = omega arith
zeros_small (suc n) zero = omega arith
zeros_small (suc n) (suc k) = zeros_small n k

name_small : (text : List ℕ) (n : ℕ) → list_all is_name_byte text ≡ true → Small (text ++ replicate n 0)
name_small [] n h k = zeros_small n k
name_small (b ∷ bs) n h zero = (byte_is_some b (and_parts (is_name_byte b) (list_all is_name_byte bs) h).0).1
name_small (b ∷ bs) n h (suc k) = name_small bs n (and_parts (is_name_byte b) (list_all is_name_byte bs) h).1 k

zeros_level : (j k : ℕ) → j ≡ k → slice_cmp nat_cmp (replicate j 0) (replicate k 0) ≡ Equal
zeros_level zero zero e = refl
zeros_level zero (suc k) e = absurd (omega arith)
zeros_level (suc j) zero e = absurd (omega arith)
zeros_level (suc j) (suc k) e = zeros_level j k (omega arith)

-- padding changes no comparison: a zero is below each byte of a name
no_padding : (s t : List ℕ) (j k : ℕ) → list_all is_name_byte s ≡ true → list_all is_name_byte t ≡ true → length s + j ≡ length t + k
    → slice_cmp nat_cmp (s ++ replicate j 0) (t ++ replicate k 0) ≡ slice_cmp nat_cmp s t
no_padding [] [] j k g h e = zeros_level j k (omega arith)
no_padding [] (y ∷ t) zero k g h e = absurd (omega arith)
no_padding [] (y ∷ t) (suc j) k g h e =
    let some = (byte_is_some y (and_parts (is_name_byte y) (list_all is_name_byte t) h).0).0 in
    ap (λ r. ordering_then r (slice_cmp nat_cmp (replicate j 0) (t ++ replicate k 0))) (sym (nat_cmp_is 0 y Less some))
no_padding (x ∷ s) [] j zero g h e = absurd (omega arith)
no_padding (x ∷ s) [] j (suc k) g h e =
    let some = (byte_is_some x (and_parts (is_name_byte x) (list_all is_name_byte s) g).0).0 in
    ap (λ r. ordering_then r (slice_cmp nat_cmp (s ++ replicate j 0) (replicate k 0))) (sym (nat_cmp_is x 0 Greater some))
no_padding (x ∷ s) (y ∷ t) j k g h e =
    let rest = no_padding s t j k (and_parts (is_name_byte x) (list_all is_name_byte s) g).1 (and_parts (is_name_byte y) (list_all is_name_byte t) h).1 (omega arith) in
    ap (ordering_then (nat_cmp x y)) rest

padded_length : (text : List ℕ) → length text ≤ 24 → length (padded text) ≡ 24
padded_length text h = omega (arith, length-append text (replicate (24 - length text) 0), length-replicate {A = ℕ} (24 - length text) 0)

-- ---- names

-- three numbers, compared one after another
abbrev pub words_cmp : ℕ × ℕ × ℕ → ℕ × ℕ × ℕ → Ordering
words_cmp v w = ordering_then (ordering_then (nat_cmp v.0 w.0) (nat_cmp v.1 w.1)) (nat_cmp v.2 w.2)

pub names_by_words : (s t : List ℕ) → IsTrue (is_name s) → IsTrue (is_name t) → words_cmp (words_of s) (words_of t) ≡ name_cmp s t
names_by_words s t g h =
    let (s_some, s_long, s_bytes) = name_parts s g in
    let (t_some, t_long, t_bytes) = name_parts t h in
    three_words (padded s) (padded t) (name_small s _ s_bytes) (name_small t _ t_bytes) (padded_length s s_long) (padded_length t t_long)
    ∙ no_padding s t _ _ s_bytes t_bytes (omega arith)

-- names are the same where the numbers are
pub same_by_words : (s t : List ℕ) → IsTrue (is_name s) → IsTrue (is_name t)
    → (let v = words_of s in let w = words_of t in ((v.0 == w.0) && (v.1 == w.1)) && (v.2 == w.2)) ≡ same_name s t
same_by_words s t g h =
    let v = words_of s in
    let w = words_of t in
    both_tied _ _ (ordering_then (nat_cmp v.0 w.0) (nat_cmp v.1 w.1)) (nat_cmp v.2 w.2)
    (both_tied _ _ (nat_cmp v.0 w.0) (nat_cmp v.1 w.1) (unsigned_ties v.0 w.0) (unsigned_ties v.1 w.1)) (unsigned_ties v.2 w.2)
    ∙ ap is_eq (names_by_words s t g h) ∙ sym (texts_ties s t)
