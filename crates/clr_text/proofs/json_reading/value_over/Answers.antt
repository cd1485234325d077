use Rattle.std.proofs.Common.{◌≡◌, ◌∙◌, ℕ, List, inl, inr, None, ap, refl, sym}
use Rattle.std.specs.Option.{ok_or}
use Rattle.std.specs.Str.{IsUtf8, is_utf8}
use Rattle.std.proofs.lemmas.Str.{IsUtf8-from_is_utf8, is_utf8-from_IsUtf8}
use Rattle.std.proofs.lemmas.Bool.{cases_Bool}
use Rattle.serde_json.specs.Read.{read}
use Rattle.clr_text.specs.Reading.{value_of}
use Rattle.clr_text.specs.declared.fault.TextFault.TheVariants.{NotJson}
use Rattle.clr_text.proofs.json_reading.value_over.Goals as goal

of_text : (bytes text : List ℕ) → text ≡ bytes → IsUtf8 bytes → value_of bytes ≡ read text
unfolding value_of
of_text bytes text same utf8 = rw (is_utf8-from_IsUtf8 bytes utf8) (ap read (sym same))

of_no_text : (bytes : List ℕ) → (IsUtf8 bytes → ⊥) → value_of bytes ≡ None
unfolding value_of
of_no_text bytes h = elim (cases_Bool (is_utf8 bytes)) [ inl is ↦ absurd (h (IsUtf8-from_is_utf8 bytes is)) | inr e ↦ rw e refl ]

pub returns-in_default : goal.returns-in_default
returns-in_default c = ap (λ v. ok_or v NotJson) (of_no_text c.args.bytes.now c.in_default.ensures)

pub returns-in-Ok-read_whole : goal.returns-in-Ok-read_whole
returns-in-Ok-read_whole c =
    let cases = c.in-Ok.ensures in
    ap (λ v. ok_or v NotJson) (of_text c.args.bytes.now c.in-Ok.text.now cases.0 cases.1 ∙ c.in-Ok-read_whole.ensures.ok)
