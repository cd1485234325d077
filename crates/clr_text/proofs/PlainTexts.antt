-- A plain value is what the text reads as that is written for it.
use Rattle.std.proofs.Common.{◌≡◌, ◌∙◌, ◌≤◌, ◌<◌, ◌%◌, ◌/◌, ◌+◌, ◌==◌, ℕ, zero, suc, max, pos, negsuc, Bool, true, false, ◌&&◌, not, cond, List, [], ◌∷◌, ◌++◌, Some, IsUtf8, Less, Equal, Greater, Ordering, decimal, option_map, option_and_then, nat_lt, nat_cmp, is_lt, refl, inl, inr, ap, ap₂, sym, subst, arith, append-nil, ltb-true, lt-ltb, ne_eqb}
use Rattle.std.proofs.lemmas.Bool.{and_from, and_parts, cases_lt, or_parts}
use Rattle.std.proofs.lemmas.Cmp.{nat_list_cmp_total}
use Rattle.std.proofs.lemmas.Str.{IsUtf8-append, IsUtf8-from_is_utf8, is_utf8-from_IsUtf8}
use Rattle.std.specs.Cmp.Lexicographic.{slice_cmp}
use Rattle.std.specs.Fmt.{digits, digits_onto, digit_glyph}
use Rattle.std.specs.List.{list_all, list_any}
use Rattle.std.specs.Ordering.{ordering_reverse}
use Rattle.std.specs.Str.{is_utf8}
use Rattle.json.specs.Lex.{tokens}
use Rattle.json.specs.Print.{escape, escape_byte, quoted}
use Rattle.json.specs.Json as json
use Rattle.json.specs.Tree as tree
use Rattle.json.proofs.Printed.Decimals.{IsNumber-decimal}
use Rattle.json.proofs.Printed.Strings.{escape_byte_plain}
use Rattle.json.proofs.Printed.Tokens.{tokens-print}
use Rattle.json.proofs.Printed.Trees.{ArePrintable-json_tokens, value-json_tokens}
use Rattle.json.proofs.Printed.Utf8.{IsUtf8-are_ascii, IsUtf8-boolean, IsUtf8-quoted, are_ascii}
use Rattle.serde_json.specs.Data.{Num, unsigned, negative, float, Data, null, boolean, number, string, array, object, Items, no_items, item, Members, no_members, member, depth, items_depth, members_depth, put}
use Rattle.serde_json.specs.Read.{number_of, of_json, of_items, of_members, read}
use Rattle.serde_json.specs.Written.{comma_if, compact_text, items_outline, items_text, members_outline, members_text, number_text, outline}
use Rattle.serde_json.proofs.Numbers.{number_of-decimal}
use Rattle.serde_json.proofs.Texts.{print-outline}
use Rattle.clr_text.specs.CommandLaws.{PlainValuesReadBack, ValuesAreOneLine, is_before, is_line_feed, is_plain, is_whole, items_are_plain, members_are_plain}
use Rattle.clr_text.specs.Reading.{value_of}

-- ---- members that go in one after another, each key after the earlier ones

abbrev join : Members → Members → Members
join no_members ms = ms
join (member k d found) ms = member k d (join found ms)

abbrev AllBefore : Members → List ℕ → Type 0
AllBefore no_members k = Unit {0}
AllBefore (member l d found) k = (slice_cmp nat_cmp k l ≡ Greater) × AllBefore found k

abbrev Follows : Members → Members → Type 0
Follows found no_members = Unit {0}
Follows found (member k d ms) = AllBefore found k

put_last : (k : List ℕ) (d : Data) (found : Members) → AllBefore found k → put k d found ≡ join found (member k d no_members)
put_last k d no_members h = refl
put_last k d (member l e found) h = rw h.0 (ap (member l e) (put_last k d found h.1))

join_one : (found : Members) (k : List ℕ) (d : Data) (ms : Members) → join (join found (member k d no_members)) ms ≡ join found (member k d ms)
join_one no_members k d ms = refl
join_one (member l e found) k d ms = ap (member l e) (join_one found k d ms)

join_none : (found : Members) → found ≡ join found no_members
join_none no_members = refl
join_none (member l e found) = ap (member l e) (join_none found)

turned : (k l : List ℕ) (o : Ordering) → slice_cmp nat_cmp k l ≡ o → slice_cmp nat_cmp l k ≡ ordering_reverse o
turned k l o h = nat_list_cmp_total.antisymm l k ∙ ap ordering_reverse h

less : (o : Ordering) → is_lt o ≡ true → o ≡ Less
less Less h = refl
less Equal h = cc
less Greater h = cc

all_before : (found : Members) (k l : List ℕ) (d : Data) → slice_cmp nat_cmp k l ≡ Less → AllBefore found k → AllBefore (join found (member k d no_members)) l
all_before no_members k l d h before = (turned k l Less h, tt)
all_before (member m e found) k l d h before =
    (turned m l Less (nat_list_cmp_total.trans m k l (turned k m Greater before.0) h), all_before found k l d h before.1)

follows : (found : Members) (k : List ℕ) (d : Data) (ms : Members) → AllBefore found k → is_before k ms ≡ true → Follows (join found (member k d no_members)) ms
follows found k d no_members before h = tt
follows found k d (member l e ms) before h = all_before found k l d (less _ h) before

-- ---- what is written is read

whole_read : (n : Num) → is_whole n ≡ true → number_of (number_text n) ≡ Some n
whole_read (unsigned n) h = number_of-decimal n (ltb-true _ _ h)
whole_read (negative z) h = cc
whole_read (float x) h = cc

whole_is_number : (n : Num) → is_whole n ≡ true → tree.HasNumbers (json.number (number_text n))
whole_is_number (unsigned n) h = IsNumber-decimal n (ltb-true _ _ h)
whole_is_number (negative z) h = cc
whole_is_number (float x) h = cc

mutual
  of_outline : (d : Data) → is_plain d ≡ true → of_json (outline d) ≡ Some d
  of_outline null h = refl
  of_outline (boolean b) h = refl
  of_outline (number n) h = ap (option_map number) (whole_read n h)
  of_outline (string s) h = refl
  of_outline (array ds) h = ap (option_map array) (of_items_outline ds h)
  of_outline (object ms) h = ap (option_map object) (of_members_outline ms no_members h (first ms))

  first : (ms : Members) → Follows no_members ms
  first no_members = tt
  first (member k d ms) = tt

  of_items_outline : (ds : Items) → items_are_plain ds ≡ true → of_items (items_outline ds) ≡ Some ds
  of_items_outline no_items h = refl
  of_items_outline (item d ds) h =
      let p = and_parts (is_plain d) (items_are_plain ds) h in
      rw (of_outline d p.0, of_items_outline ds p.1) refl

  of_members_outline : (ms found : Members) → members_are_plain ms ≡ true → Follows found ms → of_members (members_outline ms) found ≡ Some (join found ms)
  of_members_outline no_members found h before = ap Some (join_none found)
  of_members_outline (member k d ms) found h before =
      let p = and_parts (is_utf8 k) (is_before k ms && (is_plain d && members_are_plain ms)) h in
      let q = and_parts (is_before k ms) (is_plain d && members_are_plain ms) p.1 in
      let r = and_parts (is_plain d) (members_are_plain ms) q.1 in
      let more = join found (member k d no_members) in
      ap (option_and_then (λ e. of_members (members_outline ms) (put k e found))) (of_outline d r.0)
      ∙ ap (of_members (members_outline ms)) (put_last k d found before)
      ∙ of_members_outline ms more r.1 (follows found k d ms before q.0)
      ∙ ap Some (join_one found k d ms)

mutual
  numbers_are : (d : Data) → is_plain d ≡ true → tree.HasNumbers (outline d)
  numbers_are null h = tt
  numbers_are (boolean b) h = tt
  numbers_are (number n) h = whole_is_number n h
  numbers_are (string s) h = tt
  numbers_are (array ds) h = items_numbers ds h
  numbers_are (object ms) h = members_numbers ms h

  items_numbers : (ds : Items) → items_are_plain ds ≡ true → tree.ItemsHaveNumbers (items_outline ds)
  items_numbers no_items h = tt
  items_numbers (item d ds) h =
      let p = and_parts (is_plain d) (items_are_plain ds) h in (numbers_are d p.0, items_numbers ds p.1)

  members_numbers : (ms : Members) → members_are_plain ms ≡ true → tree.MembersHaveNumbers (members_outline ms)
  members_numbers no_members h = tt
  members_numbers (member k d ms) h =
      let p = and_parts (is_utf8 k) (is_before k ms && (is_plain d && members_are_plain ms)) h in
      let q = and_parts (is_before k ms) (is_plain d && members_are_plain ms) p.1 in
      let r = and_parts (is_plain d) (members_are_plain ms) q.1 in (numbers_are d r.0, members_numbers ms r.1)

mutual
  same_depth : (d : Data) → tree.depth (outline d) ≡ depth d
  same_depth null = refl
  same_depth (boolean b) = refl
  same_depth (number n) = refl
  same_depth (string s) = refl
  same_depth (array ds) = ap suc (same_items_depth ds)
  same_depth (object ms) = ap suc (same_members_depth ms)

  same_items_depth : (ds : Items) → tree.items_depth (items_outline ds) ≡ items_depth ds
  same_items_depth no_items = refl
  same_items_depth (item d ds) = ap₂ max (same_depth d) (same_items_depth ds)

  same_members_depth : (ms : Members) → tree.members_depth (members_outline ms) ≡ members_depth ms
  same_members_depth no_members = refl
  same_members_depth (member k d ms) = ap₂ max (same_depth d) (same_members_depth ms)

-- ---- digits

abbrev pub is_digit_byte : ℕ → Bool
is_digit_byte b = nat_lt 47 b && nat_lt b 58

glyph_is_digit : (n : ℕ) → n < 10 → is_digit_byte (digit_glyph false n) ≡ true
glyph_is_digit n h = rw (lt-ltb n 10 h) (and_from _ _ (lt-ltb 47 (48 + n) (omega arith)) (lt-ltb (48 + n) 58 (omega arith)))

last_is_digit : (n : ℕ) → is_digit_byte (digit_glyph false (n % 10)) ≡ true
last_is_digit n = glyph_is_digit (n % 10) (omega arith)

either_digits : (b : Bool) (xs ys : List ℕ) → list_all is_digit_byte xs ≡ true → list_all is_digit_byte ys ≡ true → list_all is_digit_byte (cond b xs ys) ≡ true
either_digits true xs ys h k = h
either_digits false xs ys h k = k

digits_onto_digits : (k n : ℕ) (acc : List ℕ) → list_all is_digit_byte acc ≡ true → list_all is_digit_byte (digits_onto k 10 false n acc) ≡ true
digits_onto_digits zero n acc h = h
digits_onto_digits (suc k) n acc h =
    let more = digit_glyph false (n % 10) ∷ acc in
    let here : list_all is_digit_byte more ≡ true = and_from _ _ (last_is_digit n) h in
    either_digits (n / 10 == 0) more _ here (digits_onto_digits k (n / 10) more here)

pub decimal_digits : (n : ℕ) → list_all is_digit_byte (decimal n) ≡ true
unfolding digits
decimal_digits n = digits_onto_digits 64 n [] refl

digits_are_ascii : (xs : List ℕ) → list_all is_digit_byte xs ≡ true → are_ascii xs ≡ true
digits_are_ascii [] h = refl
digits_are_ascii (x ∷ xs) h =
    let p = and_parts (is_digit_byte x) (list_all is_digit_byte xs) h in
    let low : x < 58 = ltb-true _ _ (and_parts (nat_lt 47 x) (nat_lt x 58) p.0).1 in
    and_from _ _ (lt-ltb x 128 (omega arith)) (digits_are_ascii xs p.1)

-- ---- UTF-8

pub decimal_is_text : (n : ℕ) → IsUtf8 (decimal n)
decimal_is_text n = IsUtf8-are_ascii (decimal n) (digits_are_ascii (decimal n) (decimal_digits n))

comma_is_text : (later : Bool) → IsUtf8 (comma_if later)
comma_is_text true = IsUtf8-are_ascii (44 ∷ []) refl
comma_is_text false = IsUtf8-are_ascii [] refl

whole_is_text : (n : Num) → is_whole n ≡ true → IsUtf8 (number_text n)
whole_is_text (unsigned n) h = decimal_is_text n
whole_is_text (negative z) h = cc
whole_is_text (float x) h = cc

ascii_then : (x : ℕ) (xs : List ℕ) → are_ascii (x ∷ []) ≡ true → IsUtf8 xs → IsUtf8 (x ∷ xs)
ascii_then x xs low text = IsUtf8-append (x ∷ []) xs (IsUtf8-are_ascii (x ∷ []) low) text

mutual
  is_text : (d : Data) → is_plain d ≡ true → IsUtf8 (compact_text d)
  is_text null h = IsUtf8-are_ascii _ refl
  is_text (boolean b) h = IsUtf8-boolean b
  is_text (number n) h = whole_is_text n h
  is_text (string s) h = IsUtf8-quoted s (IsUtf8-from_is_utf8 s h)
  is_text (array ds) h = ascii_then 91 _ refl (items_are_text false ds h)
  is_text (object ms) h = ascii_then 123 _ refl (members_are_text false ms h)

  items_are_text : (later : Bool) (ds : Items) → items_are_plain ds ≡ true → IsUtf8 (items_text later ds)
  items_are_text later no_items h = IsUtf8-are_ascii _ refl
  items_are_text later (item d ds) h =
      let p = and_parts (is_plain d) (items_are_plain ds) h in
      IsUtf8-append (comma_if later) _ (comma_is_text later) (IsUtf8-append (compact_text d) _ (is_text d p.0) (items_are_text true ds p.1))

  members_are_text : (later : Bool) (ms : Members) → members_are_plain ms ≡ true → IsUtf8 (members_text later ms)
  members_are_text later no_members h = IsUtf8-are_ascii _ refl
  members_are_text later (member k d ms) h =
      let p = and_parts (is_utf8 k) (is_before k ms && (is_plain d && members_are_plain ms)) h in
      let q = and_parts (is_before k ms) (is_plain d && members_are_plain ms) p.1 in
      let r = and_parts (is_plain d) (members_are_plain ms) q.1 in
      let value = IsUtf8-append (compact_text d) _ (is_text d r.0) (members_are_text true ms r.1) in
      IsUtf8-append (comma_if later) _ (comma_is_text later) (IsUtf8-append (quoted k) _ (IsUtf8-quoted k (IsUtf8-from_is_utf8 k p.0)) (ascii_then 58 _ refl value))

read_back : (d : Data) → is_plain d ≡ true → depth d ≤ 127 → read (compact_text d) ≡ Some d
read_back d h shallow =
    let same : tokens (compact_text d) ≡ tree.json_tokens (outline d) ++ [] =
    ap tokens (sym (print-outline d)) ∙ tokens-print _ (ArePrintable-json_tokens (outline d) (numbers_are d h)) ∙ sym (append-nil _) in
    let found : json.value 127 (tokens (compact_text d)) ≡ Some (outline d, []) =
    ap (json.value 127) same ∙ value-json_tokens (outline d) 127 [] (subst (λ n. n ≤ 127) (sym (same_depth d)) shallow) in
    ap (λ o. option_and_then of_json (option_and_then (λ p. json.if_last p.0 p.1) o)) found ∙ of_outline d h

pub plain_values_read_back : PlainValuesReadBack
unfolding value_of
plain_values_read_back d h shallow = rw (is_utf8-from_IsUtf8 _ (is_text d h)) (read_back d h shallow)

-- ---- a plain object, member by member

abbrev pub members_of : Data → Members
members_of (object ms) = ms
members_of _ = no_members

-- keys in ASCII, in the order of their bytes
abbrev pub keys_fit : Members → Bool
keys_fit no_members = true
keys_fit (member k d ms) = are_ascii k && (is_before k ms && keys_fit ms)

abbrev pub AllPlain : Members → Type 0
AllPlain no_members = Unit {0}
AllPlain (member k d ms) = (is_plain d ≡ true) × AllPlain ms

pub object_plain : (ms : Members) → keys_fit ms ≡ true → AllPlain ms → members_are_plain ms ≡ true
object_plain no_members fit all = refl
object_plain (member k d ms) fit all =
    let p = and_parts (are_ascii k) (is_before k ms && keys_fit ms) fit in
    let q = and_parts (is_before k ms) (keys_fit ms) p.1 in
    and_from _ _ (is_utf8-from_IsUtf8 k (IsUtf8-are_ascii k p.0)) (and_from _ _ q.0 (and_from _ _ all.0 (object_plain ms q.1 all.1)))

pub plain_parts : (ms : Members) → members_are_plain ms ≡ true → AllPlain ms
plain_parts no_members h = tt
plain_parts (member k d ms) h =
    let p = and_parts (is_utf8 k) (is_before k ms && (is_plain d && members_are_plain ms)) h in
    let q = and_parts (is_before k ms) (is_plain d && members_are_plain ms) p.1 in
    let r = and_parts (is_plain d) (members_are_plain ms) q.1 in
    (r.0, plain_parts ms r.1)

-- ---- no line feed

none_in_both : (xs ys : List ℕ) → list_any is_line_feed xs ≡ false → list_any is_line_feed ys ≡ false → list_any is_line_feed (xs ++ ys) ≡ false
none_in_both [] ys h k = k
none_in_both (x ∷ xs) ys h k =
    let p = or_parts (is_line_feed x) (list_any is_line_feed xs) h in
    rw p.0 (none_in_both xs ys p.1 k)

-- the escapes of the bytes below n
abbrev free_below : ℕ → Bool
free_below zero = true
free_below (suc n) = not (list_any is_line_feed (escape_byte n)) && free_below n

not_true : (b : Bool) → not b ≡ true → b ≡ false
not_true true h = cc
not_true false h = refl

free_at : (n : ℕ) → free_below n ≡ true → (x : ℕ) → x < n → list_any is_line_feed (escape_byte x) ≡ false
free_at zero h x below = absurd (omega arith)
free_at (suc n) h x below =
    let p = and_parts (not (list_any is_line_feed (escape_byte n))) (free_below n) h in
    elim (cases_lt x n) [
      | inl lower ↦ free_at n p.1 x lower
      | inr not_lower ↦ let same : x ≡ n = omega arith in subst (λ m. list_any is_line_feed (escape_byte m) ≡ false) (sym same) (not_true _ p.0)
    ]

all_free : free_below 128 ≡ true
unfolding escape_byte
all_free = refl

byte_line : (x : ℕ) → list_any is_line_feed (escape_byte x) ≡ false
byte_line x = elim (cases_lt x 128) [
  | inl low ↦ free_at 128 all_free x low
  | inr high ↦ rw (escape_byte_plain x (λ e. omega arith) (λ e. omega arith) (omega arith)) (rw (ne_eqb x 10 (λ e. omega arith)) refl)
]

escape_line : (s : List ℕ) → list_any is_line_feed (escape s) ≡ false
escape_line [] = refl
escape_line (x ∷ s) = none_in_both (escape_byte x) (escape s) (byte_line x) (escape_line s)

quoted_line : (s : List ℕ) → list_any is_line_feed (quoted s) ≡ false
quoted_line s = none_in_both (escape s) (34 ∷ []) (escape_line s) refl

digits_line : (xs : List ℕ) → list_all is_digit_byte xs ≡ true → list_any is_line_feed xs ≡ false
digits_line [] h = refl
digits_line (x ∷ xs) h =
    let p = and_parts (is_digit_byte x) (list_all is_digit_byte xs) h in
    let high : 47 < x = ltb-true _ _ (and_parts (nat_lt 47 x) (nat_lt x 58) p.0).0 in
    rw (ne_eqb x 10 (λ e. omega arith)) (digits_line xs p.1)

number_line : (n : Num) → list_any is_line_feed (number_text n) ≡ false
number_line (unsigned n) = digits_line (decimal n) (decimal_digits n)
number_line (negative (pos n)) = digits_line (decimal n) (decimal_digits n)
number_line (negative (negsuc n)) = digits_line (decimal (suc n)) (decimal_digits (suc n))
number_line (float x) = refl

comma_line : (later : Bool) → list_any is_line_feed (comma_if later) ≡ false
comma_line true = refl
comma_line false = refl

boolean_line : (b : Bool) → list_any is_line_feed (compact_text (boolean b)) ≡ false
boolean_line true = refl
boolean_line false = refl

mutual
  pub one_line : ValuesAreOneLine
  one_line null = refl
  one_line (boolean b) = boolean_line b
  one_line (number n) = number_line n
  one_line (string s) = quoted_line s
  one_line (array ds) = items_line false ds
  one_line (object ms) = members_line false ms

  items_line : (later : Bool) (ds : Items) → list_any is_line_feed (items_text later ds) ≡ false
  items_line later no_items = refl
  items_line later (item d ds) =
      none_in_both (comma_if later) _ (comma_line later) (none_in_both (compact_text d) _ (one_line d) (items_line true ds))

  members_line : (later : Bool) (ms : Members) → list_any is_line_feed (members_text later ms) ≡ false
  members_line later no_members = refl
  members_line later (member k d ms) =
      none_in_both (comma_if later) _ (comma_line later)
      (none_in_both (quoted k) _ (quoted_line k) (none_in_both (compact_text d) _ (one_line d) (members_line true ms)))
