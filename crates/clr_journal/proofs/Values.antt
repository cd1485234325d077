-- What a text reads as, by whether it is UTF-8.
use Rattle.std.proofs.Common.{◌≡◌, ℕ, List, inl, inr, None, Some, refl, IsUtf8}
use Rattle.std.specs.Str.{is_utf8}
use Rattle.std.proofs.lemmas.Str.{IsUtf8-from_is_utf8, is_utf8-from_IsUtf8}
use Rattle.std.proofs.lemmas.Bool.{cases_Bool}
use Rattle.serde_json.specs.Read.{read}
use Rattle.serde_json.specs.Data.{Data}
use Rattle.clr_text.specs.Reading.{value_of}

pub there : (bytes : List ℕ) (d : Data) → IsUtf8 bytes → read bytes ≡ Some d → value_of bytes ≡ Some d
unfolding value_of
there bytes d utf8 reads = rw (is_utf8-from_IsUtf8 bytes utf8) reads

pub absent : (bytes : List ℕ) → (IsUtf8 bytes → read bytes ≡ None) → value_of bytes ≡ None
unfolding value_of
absent bytes h = elim (cases_Bool (is_utf8 bytes)) [ inl is ↦ rw is (h (IsUtf8-from_is_utf8 bytes is)) | inr e ↦ rw e refl ]
