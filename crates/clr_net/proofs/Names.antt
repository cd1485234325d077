-- What follows of a text that is a name.
use Rattle.std.proofs.Common.{◌≡◌, ℕ, ◌<◌, ◌≤◌, Bool, true, false, not, nat_lt, nat_le, IsTrue, None, List, [], ◌∷◌, ◌++◌, length, drop, replicate, refl, arith, Result, Ok, Err, MatchResult, IsOk}
use Rattle.std.proofs.Common.{IsAscii, IsUtf8}
use Rattle.std.specs.List.{list_all, prefix_len, position_or_len}
use Rattle.std.proofs.lemmas.Bool.{and_parts, and_from, ltb-true, ltb-false, leb-true, lt-ltb, le-leb}
use Rattle.std.proofs.lemmas.Bool.Decides.{nat_tests}
use Rattle.std.proofs.lemmas.Str.{IsUtf8-from_ascii}
use Rattle.std.proofs.lemmas.Str.Ascii.{IsAscii-nil, IsAscii-cons}
use Rattle.std.proofs.lemmas.List.{drop-replicate}
use Rattle.clr_net.specs.Name.{is_name, is_name_byte, padded}
use Rattle.clr_net.specs.NameText.{bad_byte}

byte_is_ascii : (b : ℕ) → is_name_byte b ≡ true → b < 128
byte_is_ascii b h = grind (arith, nat_tests)

all_ascii : (text : List ℕ) → list_all is_name_byte text ≡ true → IsAscii text
all_ascii [] h = IsAscii-nil
all_ascii (b ∷ bs) h =
    let parts = and_parts (is_name_byte b) (list_all is_name_byte bs) h in
    IsAscii-cons b bs (byte_is_ascii b parts.0) (all_ascii bs parts.1)

-- a name's length, and its bytes
pub name_parts : (text : List ℕ) → IsTrue (is_name text) → (0 < length text) × (length text ≤ 24) × (list_all is_name_byte text ≡ true)
name_parts text h =
    let outer = and_parts _ (list_all is_name_byte text) h in
    let inner = and_parts (nat_lt 0 (length text)) (nat_le (length text) 24) outer.0 in
    (ltb-true _ _ inner.0, leb-true _ _ inner.1, outer.1)

-- a name is text
pub name_is_text : (text : List ℕ) → IsTrue (is_name text) → IsUtf8 text
name_is_text text h = IsUtf8-from_ascii text (all_ascii text (name_parts text h).2)

all_from_prefix : (text : List ℕ) → length text ≤ prefix_len (λ b. not (not (is_name_byte b))) text → list_all is_name_byte text ≡ true
all_from_prefix [] h = refl
all_from_prefix (b ∷ bs) h = at (is_name_byte b) refl (all_from_prefix bs)
  where
    at : (x : Bool) → is_name_byte b ≡ x → (length bs ≤ prefix_len (λ b. not (not (is_name_byte b))) bs → list_all is_name_byte bs ≡ true) → list_all is_name_byte (b ∷ bs) ≡ true
    at true e more = rw e (more (let g = rw e at h in omega arith))
    at false e more = let g = rw e at h in absurd (omega arith)

-- a text with no bad byte has bytes of the alphabet alone
pub no_bad_byte : (text : List ℕ) → bad_byte text ≡ None → list_all is_name_byte text ≡ true
no_bad_byte text h = all_from_prefix text (at (nat_lt (position_or_len (λ b. not (is_name_byte b)) text) (length text)) refl)
  where
    at : (x : Bool) → nat_lt (position_or_len (λ b. not (is_name_byte b)) text) (length text) ≡ x → length text ≤ position_or_len (λ b. not (is_name_byte b)) text
    at true e = cc (rw e at h)
    at false e = ltb-false _ _ e

prefix_from_all : (text : List ℕ) → list_all is_name_byte text ≡ true → length text ≤ prefix_len (λ b. not (not (is_name_byte b))) text
prefix_from_all [] h = omega arith
prefix_from_all (b ∷ bs) h =
    let parts = and_parts (is_name_byte b) (list_all is_name_byte bs) h in
    let more = prefix_from_all bs parts.1 in
    rw parts.0 (omega arith)

-- a name has no bad byte
pub name_has_none : (text : List ℕ) → IsTrue (is_name text) → bad_byte text ≡ None
name_has_none text h = at (nat_lt (position_or_len (λ b. not (is_name_byte b)) text) (length text)) refl
  where
    at : (x : Bool) → nat_lt (position_or_len (λ b. not (is_name_byte b)) text) (length text) ≡ x → bad_byte text ≡ None
    at true e = let all = prefix_from_all text (name_parts text h).2 in let low = ltb-true _ _ e in absurd (omega arith)
    at false e = rw e refl

-- a text within the limits and with no bad byte is a name
pub is_name_from : (text : List ℕ) → 0 < length text → length text ≤ 24 → bad_byte text ≡ None → IsTrue (is_name text)
is_name_from text some few good =
    and_from _ _ (and_from _ _ (lt-ltb 0 (length text) some) (le-leb (length text) 24 few)) (no_bad_byte text good)

-- a name written over the first of 24 cells of 0 is the padded name
pub padded_from_zeros : (text : List ℕ) → text ++ drop (length text) (replicate 24 0) ≡ padded text
padded_from_zeros text = rw drop-replicate refl

-- a result is Ok where no error can be
pub ok_unless : {A E : Type 0} (r : Result A E) (P : A → Type 0) (Q : E → Type 0) → MatchResult r P Q → ((e : E) → Q e → ⊥) → IsOk r
ok_unless (Ok x) P Q h never = refl
ok_unless (Err e) P Q h never = absurd (never e h)
