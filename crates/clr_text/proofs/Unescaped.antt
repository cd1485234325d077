-- Names, clearances and the words of replies are written in JSON as they are: no byte is escaped.
use Rattle.std.proofs.Common.{◌≡◌, ◌∙◌, ◌<◌, ℕ, Bool, true, List, [], ◌∷◌, ◌++◌, decimal, nat_lt, refl, ap₂, arith, ltb-true}
use Rattle.std.proofs.lemmas.Bool.{and_parts}
use Rattle.std.proofs.lemmas.Bool.Decides.{nat_tests}
use Rattle.std.proofs.lemmas.Grind.{flat_map-append}
use Rattle.std.specs.List.{list_all}
use Rattle.json.specs.Print.{escape, escape_byte}
use Rattle.json.proofs.Printed.Strings.{escape_byte_plain}
use Rattle.clr_net.specs.Name.{is_name, is_name_byte}
use Rattle.clr_net.proofs.Names.{name_parts}
use Rattle.clr_rules.specs.HoldKind.{hold_kind_text}
use Rattle.clr_rules.specs.Id.{Id, id_text}
use Rattle.clr_rules.specs.Phase.{phase_text}
use Rattle.clr_rules.specs.Refusal.{refusal_name}
use Rattle.clr_rules.specs.declared.hold_kind.HoldKind.{HoldKind}
use Rattle.clr_rules.specs.declared.hold_kind.HoldKind.TheVariants.{HeldOpen}
use Rattle.clr_rules.specs.declared.phase.Phase.{Phase}
use Rattle.clr_rules.specs.declared.phase.Phase.TheVariants.{Requested}
use Rattle.clr_rules.specs.declared.refusal.Refusal.{Refusal}
use Rattle.clr_rules.specs.declared.refusal.Refusal.TheVariants.{UnknownCaller}
use Rattle.clr_text.proofs.PlainTexts.{decimal_digits, is_digit_byte}

-- from the hyphen to Z there is no quote and no backslash
byte_is_kept : (b : ℕ) → 44 < b → b < 91 → escape_byte b ≡ b ∷ []
byte_is_kept b low high = escape_byte_plain b (λ e. omega arith) (λ e. omega arith) (omega arith)

name_byte : (b : ℕ) → is_name_byte b ≡ true → (44 < b) × (b < 91)
name_byte b h = (grind (arith, nat_tests), grind (arith, nat_tests))

name_bytes : (s : List ℕ) → list_all is_name_byte s ≡ true → escape s ≡ s
name_bytes [] h = refl
name_bytes (b ∷ s) h =
    let parts = and_parts (is_name_byte b) (list_all is_name_byte s) h in
    let within = name_byte b parts.0 in
    ap₂ (λ (x y : List ℕ). x ++ y) (byte_is_kept b within.0 within.1) (name_bytes s parts.1)

digit_bytes : (s : List ℕ) → list_all is_digit_byte s ≡ true → escape s ≡ s
digit_bytes [] h = refl
digit_bytes (b ∷ s) h =
    let parts = and_parts (is_digit_byte b) (list_all is_digit_byte s) h in
    let tests = and_parts (nat_lt 47 b) (nat_lt b 58) parts.0 in
    let low : 47 < b = ltb-true _ _ tests.0 in
    let high : b < 58 = ltb-true _ _ tests.1 in
    ap₂ (λ (x y : List ℕ). x ++ y) (byte_is_kept b (omega arith) (omega arith)) (digit_bytes s parts.1)

pub name_is_kept : (s : List ℕ) → is_name s ≡ true → escape s ≡ s
name_is_kept s h = name_bytes s (name_parts s h).2

pub id_is_kept : (id : Id) → is_name id.requester ≡ true → escape (id_text id) ≡ id_text id
id_is_kept id h =
    let digits = digit_bytes (decimal id.number) (decimal_digits id.number) in
    let number = ap₂ (λ (x y : List ℕ). x ++ y) (byte_is_kept 47 (omega arith) (omega arith)) digits in
    flat_map-append escape_byte id.requester (47 ∷ decimal id.number)
    ∙ ap₂ (λ (x y : List ℕ). x ++ y) (name_is_kept id.requester h) number

pub phase_is_kept : (phase : Phase) → escape (phase_text phase) ≡ phase_text phase
unfolding escape_byte
phase_is_kept Requested = refl
phase_is_kept _ = refl

pub kind_is_kept : (kind : HoldKind) → escape (hold_kind_text kind) ≡ hold_kind_text kind
unfolding escape_byte
kind_is_kept HeldOpen = refl
kind_is_kept _ = refl

pub refusal_name_is_kept : (refusal : Refusal) → escape (refusal_name refusal) ≡ refusal_name refusal
unfolding escape_byte
refusal_name_is_kept UnknownCaller = refl
refusal_name_is_kept _ = refl
