-- Bytes that are written piece by piece.
use Rattle.std.proofs.Common.{◌≡◌, ℕ, ◌+◌, ◌-◌, ◌∙◌, List, Option, ◌++◌, length, take, drop, sym, ap}
use Rattle.std.proofs.Math.Seq.{take-add}
use Rattle.std.proofs.lemmas.List.{take_rest}
use Rattle.std.specs.Io.KnownBytes.{Appends}
use Rattle.std.proofs.KnownBytes.{Appends-trans}

-- a part went out, and then a part of the rest
pub Appends-more : (a b c : Option (List ℕ)) (bytes : List ℕ) (written count now : ℕ) → now ≡ written + count
    → Appends a b (take written bytes) → Appends b c (take count (take (length bytes - written) (drop written bytes))) → Appends a c (take now bytes)
Appends-more a b c bytes written count now e front more =
    let whole : take now bytes ≡ take written bytes ++ take count (take (length bytes - written) (drop written bytes)) =
    ap (λ n. take n bytes) e ∙ (take-add written count bytes ∙ ap (λ l. take written bytes ++ take count l) (sym (take_rest bytes written))) in
    rw whole (Appends-trans a b c _ _ front more)
