-- The content of a string in a text is a text.
use Rattle.std.proofs.Common.{◌≡◌, ◌∙◌, ◌≤◌, ◌<◌, ◌+◌, ◌-◌, ◌*◌, ◌==◌, ℕ, zero, suc, Bool, true, false, cond, ◌&&◌, List, [], ◌∷◌, ◌++◌, length, get_or, Option, None, Some, IsUtf8, nat_lt, nat_le, option_and_then, refl, inl, inr, ap, sym, subst, arith, append_assoc, append-nil, eqb-true, ltb-true, leb-true, ne_eqb, lt-ltb, le-ltb, le-leb, length-append}
use Rattle.std.proofs.lemmas.Bool.{and_parts, cases_lt}
use Rattle.std.proofs.lemmas.Str.{IsUtf8-append, IsUtf8-drop, IsUtf8-encode, IsUtf8-nil, IsCharBoundary-after_ascii, encode_ascii, inside_one, length-encode, len_utf8_bounds}
use Rattle.std.specs.Char.{digit_value, encode_utf8, is_digit, IsScalar}
use lib.Utf8.{scalar, scalars, encode, encodes}
use Rattle.json.specs.Text.{content, plain, after_backslash, after_u, after_high, code_unit, short_escape, is_high_surrogate, is_low_surrogate, surrogate_pair, prepend}
use Rattle.json.proofs.Printed.Utf8.{IsUtf8-are_ascii}

tail_is_text : (x : ℕ) (xs : List ℕ) → IsUtf8 (x ∷ xs) → x < 128 → IsUtf8 xs
tail_is_text x xs u low = IsUtf8-drop (x ∷ xs) 1 u (IsCharBoundary-after_ascii (x ∷ xs) 0 u (omega arith) low)

ascii_is_text : (x : ℕ) → x < 128 → IsUtf8 (x ∷ [])
ascii_is_text x low = IsUtf8-are_ascii (x ∷ []) (rw (lt-ltb x 128 low) refl)

-- what comes before the rest of a content
prepended : (front s : List ℕ) (rest : Option (List ℕ)) → prepend front rest ≡ Some s → (t : List ℕ) × (rest ≡ Some t) × (s ≡ front ++ t)
prepended front s None h = cc
prepended front s (Some t) h = (t, refl, let same : front ++ t ≡ s = cc in sym same)

prepend_twice : (a b : List ℕ) (o : Option (List ℕ)) → prepend a (prepend b o) ≡ prepend (a ++ b) o
prepend_twice a b None = refl
prepend_twice a b (Some s) = ap Some (sym (append_assoc a b s))

prepend_none : (o : Option (List ℕ)) → o ≡ prepend [] o
prepend_none None = refl
prepend_none (Some s) = refl

-- bytes past ASCII mean themselves
through : (ys r : List ℕ) → ((k : ℕ) → k < length ys → 128 ≤ get_or ys k 0) → content plain (ys ++ r) ≡ prepend ys (content plain r)
unfolding content
through [] r high = prepend_none (content plain r)
through (y ∷ ys) r high =
    let big : 128 ≤ y = high 0 (omega arith) in
    let rest = through ys r (λ k below. high (suc k) (omega arith)) in
    rw (ne_eqb y 34 (λ e. omega arith), ne_eqb y 92 (λ e. omega arith), le-ltb y 32 (omega arith))
    (ap (prepend (y ∷ [])) rest ∙ prepend_twice (y ∷ []) ys (content plain r))

encoded_is_high : (c : ℕ) → 128 ≤ c → (k : ℕ) → k < length (encode c) → 128 ≤ get_or (encode c) k 0
encoded_is_high c big k below = elim (cases_lt (get_or (encode c) k 0) 128) [
  | inl low ↦ absurd (omega (arith, inside_one c [] (encode c) k (sym (append-nil _)) below low))
  | inr h ↦ h
]

-- a text that begins past ASCII begins with a character past ASCII
record Begun (xs : List ℕ) : Type 0 where
  char : ℕ
  rest : List ℕ
  is : xs ≡ encode char ++ rest
  big : 128 ≤ char
  good : IsScalar char
  text : IsUtf8 rest

begun_by : (cs : List ℕ) (x : ℕ) (xs : List ℕ) → scalars cs ≡ true → encodes cs ≡ x ∷ xs → 128 ≤ x → Begun (x ∷ xs)
begun_by [] x xs ok is high = cc
begun_by (c ∷ cs) x xs ok is high =
    let parts = and_parts (scalar c) (scalars cs) ok in
    elim (cases_lt c 128) [
      | inl low ↦
          let first : c ≡ x = ap (λ l. get_or l 0 0) (ap (λ l. l ++ encodes cs) (sym (encode_ascii c low)) ∙ is) in
          absurd (omega arith)
      | inr big ↦ record { char = c; rest = encodes cs; is = sym is; big = big; good = parts.0; text = (cs, (parts.1, refl)) }
    ]

begun : (x : ℕ) (xs : List ℕ) → IsUtf8 (x ∷ xs) → 128 ≤ x → Begun (x ∷ xs)
begun x xs u high = begun_by u.0 x xs u.1.0 u.1.1 high

-- ---- escapes

digit_at : (b1 b2 b3 b4 b5 b6 : Bool) (c : ℕ) → nat_lt c 123 ≡ b6
    → nat_lt (cond b1 36 (cond b2 (c - 48) (cond b3 36 (cond b4 (c - 55) (cond b5 36 (cond b6 (c - 87) 36)))))) 16 ≡ true
    → (nat_lt c 58 ≡ b2) → (nat_lt c 91 ≡ b4) → c < 128
digit_at true b2 b3 b4 b5 b6 c e h f g = cc
digit_at false true b3 b4 b5 b6 c e h f g = let k = ltb-true _ _ f in omega arith
digit_at false false true b4 b5 b6 c e h f g = cc
digit_at false false false true b5 b6 c e h f g = let k = ltb-true _ _ g in omega arith
digit_at false false false false true b6 c e h f g = cc
digit_at false false false false false true c e h f g = let k = ltb-true _ _ e in omega arith
digit_at false false false false false false c e h f g = cc

digit_is_ascii : (c : ℕ) → is_digit c 16 ≡ true → c < 128
digit_is_ascii c h = digit_at (nat_lt c 48) (nat_lt c 58) (nat_lt c 65) (nat_lt c 91) (nat_lt c 97) (nat_lt c 123) c refl h refl refl

record Unit4 (a b c d u : ℕ) : Type 0 where
  first : a < 128
  second : b < 128
  third : c < 128
  fourth : d < 128
  small : u < 65536

unit_at : (t : Bool) (a b c d u v : ℕ) → (is_digit a 16 && is_digit b 16 && is_digit c 16 && is_digit d 16) ≡ t
    → v ≡ digit_value a * 4096 + digit_value b * 256 + digit_value c * 16 + digit_value d
    → cond t (Some v) None ≡ Some u → Unit4 a b c d u
unit_at false a b c d u v e is h = cc
unit_at true a b c d u v e is h =
    let p = and_parts (is_digit a 16 && is_digit b 16 && is_digit c 16) (is_digit d 16) e in
    let q = and_parts (is_digit a 16 && is_digit b 16) (is_digit c 16) p.0 in
    let r = and_parts (is_digit a 16) (is_digit b 16) q.0 in
    let same : v ≡ u = cc in
    let ba : digit_value a < 16 = ltb-true _ _ r.0 in
    let bb : digit_value b < 16 = ltb-true _ _ r.1 in
    let bc : digit_value c < 16 = ltb-true _ _ q.1 in
    let bd : digit_value d < 16 = ltb-true _ _ p.1 in
    record {
      first = digit_is_ascii a r.0;
      second = digit_is_ascii b r.1;
      third = digit_is_ascii c q.1;
      fourth = digit_is_ascii d p.1;
      small = omega (arith, ba, bb, bc, bd, same, is);
    }

unit_parts : (a b c d u : ℕ) → code_unit a b c d ≡ Some u → Unit4 a b c d u
unfolding code_unit
unit_parts a b c d u h = unit_at _ a b c d u _ refl refl h

short_at : (b1 b2 b3 b4 b5 b6 : Bool) (x c : ℕ) → x < 128
    → cond b1 (Some x) (cond b2 (Some 8) (cond b3 (Some 12) (cond b4 (Some 10) (cond b5 (Some 13) (cond b6 (Some 9) None))))) ≡ Some c → c < 128
short_at true b2 b3 b4 b5 b6 x c low h = let same : x ≡ c = cc in omega arith
short_at false true b3 b4 b5 b6 x c low h = let same : 8 ≡ c = cc in omega arith
short_at false false true b4 b5 b6 x c low h = let same : 12 ≡ c = cc in omega arith
short_at false false false true b5 b6 x c low h = let same : 10 ≡ c = cc in omega arith
short_at false false false false true b6 x c low h = let same : 13 ≡ c = cc in omega arith
short_at false false false false false true x c low h = let same : 9 ≡ c = cc in omega arith
short_at false false false false false false x c low h = cc

short_is_ascii : (x c : ℕ) → x < 128 → short_escape x ≡ Some c → c < 128
unfolding short_escape
short_is_ascii x c low h = short_at _ _ _ _ _ _ x c low h

short_of_ascii : (x c : ℕ) → short_escape x ≡ Some c → x < 128
unfolding short_escape
short_of_ascii x c h = elim (cases_lt x 128) [
  | inl low ↦ low
  | inr big ↦
      let none : short_escape x ≡ None =
      rw (
        ne_eqb x 34 (λ e. omega arith),
        ne_eqb x 92 (λ e. omega arith),
        ne_eqb x 47 (λ e. omega arith),
        ne_eqb x 98 (λ e. omega arith),
        ne_eqb x 102 (λ e. omega arith),
        ne_eqb x 110 (λ e. omega arith),
        ne_eqb x 114 (λ e. omega arith),
        ne_eqb x 116 (λ e. omega arith),
      ) refl in
      cc
]

is_scalar_low : (u : ℕ) → u < 55296 → IsScalar u
is_scalar_low u low = rw (lt-ltb u 55296 low) refl

is_scalar_high : (u : ℕ) → 57344 ≤ u → u < 1114112 → IsScalar u
is_scalar_high u low high = rw (le-ltb u 55296 (omega arith), le-leb 57344 u low, lt-ltb u 1114112 high) refl

-- a code unit that is no surrogate is a character
no_surrogate : (h l : Bool) (u : ℕ) → is_high_surrogate u ≡ h → is_low_surrogate u ≡ l → h ≡ false → l ≡ false → u < 65536 → IsScalar u
no_surrogate h l u eh el nh nl small = elim (cases_lt u 55296) [
  | inl low ↦ is_scalar_low u low
  | inr big ↦ elim (cases_lt u 56320) [
    | inl high ↦ let is : is_high_surrogate u ≡ true = rw (le-leb 55296 u big, lt-ltb u 56320 high) refl in cc
    | inr past ↦ elim (cases_lt u 57344) [
      | inl low ↦ let is : is_low_surrogate u ≡ true = rw (le-leb 56320 u past, lt-ltb u 57344 low) refl in cc
      | inr over ↦ is_scalar_high u over (omega arith)
    ]
  ]
]

pair_is_scalar : (h l : ℕ) → is_high_surrogate h ≡ true → is_low_surrogate l ≡ true → IsScalar (surrogate_pair h l)
pair_is_scalar h l high low =
    let p = and_parts (nat_le 55296 h) (nat_lt h 56320) high in
    let q = and_parts (nat_le 56320 l) (nat_lt l 57344) low in
    let a : 55296 ≤ h = leb-true _ _ p.0 in
    let b : h < 56320 = ltb-true _ _ p.1 in
    let c : 56320 ≤ l = leb-true _ _ q.0 in
    let d : l < 57344 = ltb-true _ _ q.1 in
    is_scalar_high (surrogate_pair h l) (omega (arith, a, b, c, d)) (omega (arith, a, b, c, d))

abbrev Below : ℕ → Type 0
Below n = (ys s : List ℕ) → length ys ≤ n → IsUtf8 ys → content plain ys ≡ Some s → IsUtf8 s

-- front is a text, and so is the content of the rest
with_front : (n : ℕ) → Below n → (front ys s : List ℕ) → length ys ≤ n → IsUtf8 front → IsUtf8 ys → prepend front (content plain ys) ≡ Some s → IsUtf8 s
with_front n below front ys s short first rest h =
    let p = prepended front s (content plain ys) h in
    subst IsUtf8 (sym p.2) (IsUtf8-append front p.0 first (below ys p.0 short rest p.1))

pair_at : (n : ℕ) → Below n → (test : Bool) (h : ℕ) (o : Option ℕ) (a b c d : ℕ) (ys s : List ℕ) → is_high_surrogate h ≡ true → code_unit a b c d ≡ o → length ys ≤ n
    → IsUtf8 (a ∷ b ∷ c ∷ d ∷ ys)
    → cond test (option_and_then (λ l. cond (is_low_surrogate l) (prepend (encode_utf8 (surrogate_pair h l)) (content plain ys)) None) o) None ≡ Some s → IsUtf8 s
pair_at n below false h o a b c d ys s high unit short text e = cc
pair_at n below true h None a b c d ys s high unit short text e = cc
pair_at n below true h (Some l) a b c d ys s high unit short text e =
    let u = unit_parts a b c d l unit in
    let rest = tail_is_text d ys (tail_is_text c _ (tail_is_text b _ (tail_is_text a _ text u.first) u.second) u.third) u.fourth in
    at (is_low_surrogate l) refl rest e
  where
    at : (low : Bool) → is_low_surrogate l ≡ low → IsUtf8 ys → cond low (prepend (encode_utf8 (surrogate_pair h l)) (content plain ys)) None ≡ Some s → IsUtf8 s
    at false is rest e = cc
    at true is rest e = with_front n below (encode_utf8 (surrogate_pair h l)) ys s short (IsUtf8-encode (surrogate_pair h l) (pair_is_scalar h l high is)) rest e

both_ascii : (s u : ℕ) → ((s == 92) && (u == 117)) ≡ true → (s < 128) × (u < 128)
both_ascii s u h =
    let p = and_parts (s == 92) (u == 117) h in
    let a : s ≡ 92 = eqb-true s 92 p.0 in
    let b : u ≡ 117 = eqb-true u 117 p.1 in
    (omega arith, omega arith)

high_text : (n : ℕ) → Below n → (h : ℕ) (xs s : List ℕ) → is_high_surrogate h ≡ true → length xs ≤ n → IsUtf8 xs → content (after_high h) xs ≡ Some s → IsUtf8 s
unfolding content
high_text n below h [] s high short text e = cc
high_text n below h (x ∷ []) s high short text e = cc
high_text n below h (x ∷ y ∷ []) s high short text e = cc
high_text n below h (x ∷ y ∷ a ∷ []) s high short text e = cc
high_text n below h (x ∷ y ∷ a ∷ b ∷ []) s high short text e = cc
high_text n below h (x ∷ y ∷ a ∷ b ∷ c ∷ []) s high short text e = cc
high_text n below h (x ∷ y ∷ a ∷ b ∷ c ∷ d ∷ ys) s high short text e = at ((x == 92) && (y == 117)) refl e
  where
    at : (t : Bool) → ((x == 92) && (y == 117)) ≡ t
        → cond t (option_and_then (λ l. cond (is_low_surrogate l) (prepend (encode_utf8 (surrogate_pair h l)) (content plain ys)) None) (code_unit a b c d)) None ≡ Some s → IsUtf8 s
    at false is e = cc
    at true is e =
        let low = both_ascii x y is in
        let rest = tail_is_text y _ (tail_is_text x _ text low.0) low.1 in
        pair_at n below true h (code_unit a b c d) a b c d ys s high refl (omega arith) rest e

unicode_at : (n : ℕ) → Below n → (o : Option ℕ) (a b c d : ℕ) (ys s : List ℕ) → code_unit a b c d ≡ o → length ys ≤ n → IsUtf8 (a ∷ b ∷ c ∷ d ∷ ys)
    → option_and_then (λ u. cond (is_high_surrogate u) (content (after_high u) ys) (cond (is_low_surrogate u) None (prepend (encode_utf8 u) (content plain ys)))) o ≡ Some s
    → IsUtf8 s
unicode_at n below None a b c d ys s unit short text e = cc
unicode_at n below (Some u) a b c d ys s unit short text e =
    let parts = unit_parts a b c d u unit in
    let rest = tail_is_text d ys (tail_is_text c _ (tail_is_text b _ (tail_is_text a _ text parts.first) parts.second) parts.third) parts.fourth in
    at (is_high_surrogate u) (is_low_surrogate u) refl refl parts.small rest e
  where
    at : (h l : Bool) → is_high_surrogate u ≡ h → is_low_surrogate u ≡ l → u < 65536 → IsUtf8 ys
        → cond h (content (after_high u) ys) (cond l None (prepend (encode_utf8 u) (content plain ys))) ≡ Some s → IsUtf8 s
    at true l eh el small rest e = high_text n below u ys s eh short rest e
    at false true eh el small rest e = cc
    at false false eh el small rest e =
        with_front n below (encode_utf8 u) ys s short (IsUtf8-encode u (no_surrogate false false u eh el refl refl small)) rest e

unicode_text : (n : ℕ) → Below n → (xs s : List ℕ) → length xs ≤ n → IsUtf8 xs → content after_u xs ≡ Some s → IsUtf8 s
unfolding content
unicode_text n below [] s short text e = cc
unicode_text n below (a ∷ []) s short text e = cc
unicode_text n below (a ∷ b ∷ []) s short text e = cc
unicode_text n below (a ∷ b ∷ c ∷ []) s short text e = cc
unicode_text n below (a ∷ b ∷ c ∷ d ∷ ys) s short text e = unicode_at n below (code_unit a b c d) a b c d ys s refl (omega arith) text e

short_text : (n : ℕ) → Below n → (o : Option ℕ) (x : ℕ) (ys s : List ℕ) → short_escape x ≡ o → length ys ≤ n → IsUtf8 (x ∷ ys)
    → option_and_then (λ c. prepend (c ∷ []) (content plain ys)) o ≡ Some s → IsUtf8 s
short_text n below None x ys s is short text e = cc
short_text n below (Some c) x ys s is short text e =
    let low = short_of_ascii x c is in
    with_front n below (c ∷ []) ys s short (ascii_is_text c (short_is_ascii x c low is)) (tail_is_text x ys text low) e

escape_text : (n : ℕ) → Below n → (xs s : List ℕ) → length xs ≤ n → IsUtf8 xs → content after_backslash xs ≡ Some s → IsUtf8 s
unfolding content
escape_text n below [] s short text e = cc
escape_text n below (x ∷ ys) s short text e = at (x == 117) refl e
  where
    at : (t : Bool) → (x == 117) ≡ t → cond t (content after_u ys) (option_and_then (λ c. prepend (c ∷ []) (content plain ys)) (short_escape x)) ≡ Some s → IsUtf8 s
    at true is e =
        let same : x ≡ 117 = eqb-true x 117 is in
        unicode_text n below ys s (omega arith) (tail_is_text x ys text (omega arith)) e
    at false is e = short_text n below (short_escape x) x ys s refl (omega arith) text e

low_text : (n : ℕ) → Below n → (b34 b92 b32 : Bool) (x : ℕ) (ys s : List ℕ) → x < 128 → length ys ≤ n → IsUtf8 ys
    → cond b34 (Some []) (cond b92 (content after_backslash ys) (cond b32 None (prepend (x ∷ []) (content plain ys)))) ≡ Some s → IsUtf8 s
low_text n below true b92 b32 x ys s low short text e = subst IsUtf8 (let same : [] ≡ s = cc in same) IsUtf8-nil
low_text n below false true b32 x ys s low short text e = escape_text n below ys s short text e
low_text n below false false true x ys s low short text e = cc
low_text n below false false false x ys s low short text e = with_front n below (x ∷ []) ys s short (ascii_is_text x low) text e

high_front : (n : ℕ) → Below n → (x : ℕ) (ys s : List ℕ) → length ys ≤ n → Begun (x ∷ ys) → content plain (x ∷ ys) ≡ Some s → IsUtf8 s
high_front n below x ys s short b e =
    let front = through (encode b.char) b.rest (encoded_is_high b.char b.big) in
    let whole : prepend (encode b.char) (content plain b.rest) ≡ Some s = sym front ∙ ap (content plain) (sym b.is) ∙ e in
    let size : length (x ∷ ys) ≡ length (encode b.char ++ b.rest) = ap length b.is in
    with_front n below (encode b.char) b.rest s (omega (arith, size, length-append (encode b.char) b.rest, length-encode b.char, (len_utf8_bounds b.char).0)) (IsUtf8-encode b.char b.good) b.text whole

content_below : (n : ℕ) → Below n
unfolding content
content_below zero [] s short text e = cc
content_below zero (x ∷ ys) s short text e = absurd (omega arith)
content_below (suc n) [] s short text e = cc
content_below (suc n) (x ∷ ys) s short text e = elim (cases_lt x 128) [
  | inl low ↦ low_text n (content_below n) _ _ _ x ys s low (omega arith) (tail_is_text x ys text low) e
  | inr high ↦ high_front n (content_below n) x ys s (omega arith) (begun x ys text high) e
]

pub content_is_text : (xs s : List ℕ) → IsUtf8 xs → content plain xs ≡ Some s → IsUtf8 s
content_is_text xs s text e = content_below (length xs) xs s (omega arith) text e
