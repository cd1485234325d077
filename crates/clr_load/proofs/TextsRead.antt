-- What a column reads as, where its bytes are no text: no name and no word.
use Rattle.std.proofs.Common.{◌≡◌, ◌∙◌, ◌<◌, ℕ, zero, suc, arith, Bool, true, false, if◌then◌else◌, List, [], ◌∷◌, Option, None, Result, Ok, Err, refl, sym, ap}
use Rattle.std.specs.Prelude.{find, nat_lt, ok_or}
use Rattle.std.specs.List.{list_all}
use Rattle.std.specs.Str.{IsAscii, IsUtf8, bytes_eq, is_utf8}
use Rattle.std.proofs.lemmas.Bool.{ltb-true, true≢false}
use Rattle.std.proofs.lemmas.Slice.Eq.{bytes_eq-Decides}
use Rattle.std.proofs.lemmas.Str.{IsUtf8-from_ascii, IsUtf8-from_is_utf8, is_utf8-from_IsUtf8}
use Rattle.sqlite.specs.Order.{Row, column}
use Rattle.sqlite.specs.declared.types.Value.{Value}
use Rattle.sqlite.specs.declared.types.Value.TheVariants.{Null, Int, Real, Text, Blob}
use Rattle.clr_net.specs.Name.{is_name}
use Rattle.clr_net.specs.NameText.{read_name}
use Rattle.clr_net.proofs.Names.{name_is_text}
use Rattle.clr_net.specs.Results.{◌>>=◌}
use Rattle.clr_load.proofs.ColumnsRead.{name_is_not_read}
use Rattle.clr_rules.specs.HoldKind.{all_hold_kinds, hold_kind_named, hold_kind_text}
use Rattle.clr_rules.specs.Phase.{all_phases, phase_named, phase_text}
use Rattle.clr_order.specs.Action.{all_actions}
use Rattle.clr_load.specs.RowsRead.{name_at, name_if_read, text_of, word_at}
use Rattle.clr_load.specs.Words.{action_name, action_named, all_roles, all_states, role_word, role_worded, state_name, state_named}
use Rattle.clr_load.specs.declared.table_name.TableName.{TableName}
use Rattle.clr_load.specs.Reading.{utf8_at}
use Rattle.clr_load.proofs.Columns.{both_true}

-- what is not text is no name
no_name : (text : List ℕ) → is_utf8 text ≡ false → is_name text ≡ false
no_name text isnt = at (is_name text) refl
  where
    at : (b : Bool) → is_name text ≡ b → is_name text ≡ false
    at false e = e
    at true e = absurd (true≢false (sym (is_utf8-from_IsUtf8 text (name_is_text text e)) ∙ isnt))

pub name_by_text : (t : TableName) (place : ℕ) (row : Row) → (utf8_at t place row >>= λ text. name_if_read t (read_name text)) ≡ name_at t place row
name_by_text t place row = at (column row place)
  where
    by : (text : List ℕ) (b : Bool) → is_utf8 text ≡ b → ((if b then Ok text else Err t) >>= λ text. name_if_read t (read_name text)) ≡ name_if_read t (read_name text)
    by text true e = refl
    by text false e = sym (name_is_not_read t text (no_name text e))

    at : (v : Value) → ((text_of t v >>= λ text. if is_utf8 text then Ok text else Err t) >>= λ text. name_if_read t (read_name text)) ≡ (text_of t v >>= λ text. name_if_read t (read_name text))
    at (Text text) = by text (is_utf8 text) refl
    at Null = refl
    at (Int n) = refl
    at (Real n) = refl
    at (Blob b) = refl

-- bytes below 128 are of ASCII
ascii-cons : (b : ℕ) (bytes : List ℕ) → b < 128 → IsAscii bytes → IsAscii (b ∷ bytes)
ascii-cons b bytes low rest zero = low
ascii-cons b bytes low rest (suc i) = rest i

ascii-from_all : (bytes : List ℕ) → list_all (λ byte. nat_lt byte 128) bytes ≡ true → IsAscii bytes
ascii-from_all [] all = λ i. omega arith
ascii-from_all (b ∷ bytes) all =
    let parts = both_true (nat_lt b 128) (list_all (λ byte. nat_lt byte 128) bytes) all in
    ascii-cons b bytes (ltb-true b 128 parts.0) (ascii-from_all bytes parts.1)

-- the words of a list are texts, so what is no text is none of them
apart : {A : Type 0} (name : A → List ℕ) (xs : List A) → list_all (λ x. list_all (λ byte. nat_lt byte 128) (name x)) xs ≡ true → (text : List ℕ) → is_utf8 text ≡ false
    → find (λ x. bytes_eq (name x) text) xs ≡ None
apart name [] h text isnt = refl
apart name (x ∷ xs) h text isnt =
    let parts = both_true (list_all (λ byte. nat_lt byte 128) (name x)) (list_all (λ y. list_all (λ byte. nat_lt byte 128) (name y)) xs) h in
    rw (differs (bytes_eq (name x) text) refl (is_utf8-from_IsUtf8 (name x) (IsUtf8-from_ascii (name x) (ascii-from_all (name x) parts.0)))) (apart name xs parts.1 text isnt)
  where
    differs : (b : Bool) → bytes_eq (name x) text ≡ b → is_utf8 (name x) ≡ true → b ≡ false
    differs false e is = refl
    differs true e is = absurd (true≢false (sym is ∙ ap is_utf8 ((bytes_eq-Decides (name x) text).0 e) ∙ isnt))

word_by_text : {A : Type 0} (named : List ℕ → Option A) → ((text : List ℕ) → is_utf8 text ≡ false → named text ≡ None) → (t : TableName) (place : ℕ) (row : Row)
    → (utf8_at t place row >>= λ word. ok_or (named word) t) ≡ word_at named t place row
word_by_text named none t place row = at (column row place)
  where
    by : (text : List ℕ) (b : Bool) → is_utf8 text ≡ b → ((if b then Ok text else Err t) >>= λ word. ok_or (named word) t) ≡ ok_or (named text) t
    by text true e = refl
    by text false e = rw (none text e) refl

    at : (v : Value) → ((text_of t v >>= λ text. if is_utf8 text then Ok text else Err t) >>= λ word. ok_or (named word) t) ≡ (text_of t v >>= λ word. ok_or (named word) t)
    at (Text text) = by text (is_utf8 text) refl
    at Null = refl
    at (Int n) = refl
    at (Real n) = refl
    at (Blob b) = refl

pub role_by_text : (t : TableName) (place : ℕ) (row : Row) → (utf8_at t place row >>= λ word. ok_or (role_worded word) t) ≡ word_at role_worded t place row
role_by_text = word_by_text role_worded (apart role_word all_roles refl)

pub phase_by_text : (t : TableName) (place : ℕ) (row : Row) → (utf8_at t place row >>= λ word. ok_or (phase_named word) t) ≡ word_at phase_named t place row
phase_by_text = word_by_text phase_named (apart phase_text all_phases refl)

pub action_by_text : (t : TableName) (place : ℕ) (row : Row) → (utf8_at t place row >>= λ word. ok_or (action_named word) t) ≡ word_at action_named t place row
action_by_text = word_by_text action_named (apart action_name all_actions refl)

pub state_by_text : (t : TableName) (place : ℕ) (row : Row) → (utf8_at t place row >>= λ word. ok_or (state_named word) t) ≡ word_at state_named t place row
state_by_text = word_by_text state_named (apart state_name all_states refl)

pub kind_by_text : (t : TableName) (place : ℕ) (row : Row) → (utf8_at t place row >>= λ word. ok_or (hold_kind_named word) t) ≡ word_at hold_kind_named t place row
kind_by_text = word_by_text hold_kind_named (apart hold_kind_text all_hold_kinds refl)

pub is_text_at : (t : TableName) (place : ℕ) (row : Row) (text : List ℕ) → column row place ≡ Text text → IsUtf8 text → utf8_at t place row ≡ Ok text
is_text_at t place row text is utf8 = rw (is, is_utf8-from_IsUtf8 text utf8) refl

pub no_text_at : (t : TableName) (place : ℕ) (row : Row) (text : List ℕ) → column row place ≡ Text text → ¬ IsUtf8 text → utf8_at t place row ≡ Err t
no_text_at t place row text is isnt = rw is (at (is_utf8 text) refl)
  where
    at : (b : Bool) → is_utf8 text ≡ b → (if b then Ok text else Err t) ≡ Err t
    at false e = refl
    at true e = absurd (isnt (IsUtf8-from_is_utf8 text e))

-- from what is read of a text, what is read of the column
pub then_fails : {A : Type 0} (next : List ℕ → Result A TableName) (t e : TableName) (place : ℕ) (row : Row) (all : Result A TableName)
    → (utf8_at t place row >>= next) ≡ all → utf8_at t place row ≡ Err e → Err e ≡ all
then_fails next t e place row all law is = sym (ap (λ r. r >>= next) is) ∙ law

pub then_gives : {A : Type 0} (next : List ℕ → Result A TableName) (t : TableName) (text : List ℕ) (place : ℕ) (row : Row) (all : Result A TableName)
    → (utf8_at t place row >>= next) ≡ all → utf8_at t place row ≡ Ok text → next text ≡ all
then_gives next t text place row all law is = sym (ap (λ r. r >>= next) is) ∙ law
