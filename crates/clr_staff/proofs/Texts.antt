-- A login is text.
use Rattle.std.proofs.Common.{◌≡◌, ℕ, ◌<◌, true, IsTrue, List, [], ◌∷◌, ◌++◌, length, drop, replicate, refl, arith, Result, Ok, Err, MatchResult, IsOk}
use Rattle.std.proofs.Common.{IsAscii, IsUtf8}
use Rattle.std.specs.List.{list_all}
use Rattle.std.proofs.lemmas.Bool.{and_parts}
use Rattle.std.proofs.lemmas.Bool.Decides.{nat_tests}
use Rattle.std.proofs.lemmas.Str.{IsUtf8-from_ascii}
use Rattle.std.proofs.lemmas.Str.Ascii.{IsAscii-nil, IsAscii-cons}
use Rattle.std.proofs.lemmas.List.{drop-replicate}
use Rattle.clr_staff.specs.Login.{is_login, is_login_byte, padded}

byte_is_ascii : (b : ℕ) → is_login_byte b ≡ true → b < 128
byte_is_ascii b h = grind (arith, nat_tests)

all_ascii : (text : List ℕ) → list_all is_login_byte text ≡ true → IsAscii text
all_ascii [] h = IsAscii-nil
all_ascii (b ∷ bs) h =
    let parts = and_parts (is_login_byte b) (list_all is_login_byte bs) h in
    IsAscii-cons b bs (byte_is_ascii b parts.0) (all_ascii bs parts.1)

pub login_is_text : (text : List ℕ) → IsTrue (is_login text) → IsUtf8 text
login_is_text text h = IsUtf8-from_ascii text (all_ascii text (and_parts _ (list_all is_login_byte text) h).1)

-- a login written over the first of 64 cells of 0 is the padded login
pub padded_from_zeros : (text : List ℕ) → text ++ drop (length text) (replicate 64 0) ≡ padded text
padded_from_zeros text = rw drop-replicate refl

-- a result is Ok where no error can be
pub ok_unless : {A E : Type 0} (r : Result A E) (P : A → Type 0) (Q : E → Type 0) → MatchResult r P Q → ((e : E) → Q e → ⊥) → IsOk r
ok_unless (Ok x) P Q h never = refl
ok_unless (Err e) P Q h never = absurd (never e h)
