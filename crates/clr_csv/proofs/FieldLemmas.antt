-- The fields of a record, one by one.
use Rattle.std.proofs.Common.{◌≡◌, ℕ, zero, suc, ◌+◌, ◌<◌, ◌==◌, ◌&&◌, not, Bool, true, false, List, [], ◌∷◌, length, map, drop, get_or, Option, Some, None, refl, sym, ap, ◌∙◌, add-one, arith}
use Rattle.std.proofs.Common.{drop-cons, option_map, Bor}
use Rattle.std.proofs.lemmas.List.{drop_all}
use Rattle.std.specs.Option.{option_eq}
use Rattle.std.specs.Cmp.Lexicographic.{pointwise}
use Rattle.csv.specs.Records.{field_at}
use Rattle.clr_csv.specs.Rows.{Fields, same_fields}

-- two texts are the same
abbrev pub same_text : Bor (List ℕ) → Bor (List ℕ) → Bool
same_text a b = pointwise ◌==◌ a.now b.now

drop-field_at : (fields : Fields) (i : ℕ) (field : List ℕ) → field_at fields i ≡ Some field → drop i fields ≡ field ∷ drop (suc i) fields
unfolding field_at
drop-field_at [] i field e = cc e
drop-field_at (f ∷ fs) zero field e = let same : f ≡ field = cc in ap (λ (x : List ℕ). x ∷ fs) same
drop-field_at (f ∷ fs) (suc i) field e = drop-field_at fs i field e

drop-no_field : (fields : Fields) (i : ℕ) → field_at fields i ≡ None → drop i fields ≡ []
unfolding field_at
drop-no_field [] zero e = refl
drop-no_field [] (suc i) e = refl
drop-no_field (f ∷ fs) zero e = cc e
drop-no_field (f ∷ fs) (suc i) e = drop-no_field fs i e

-- one field more is compared
same_fields-next : (header : List (Bor (List ℕ))) (fields : Fields) (i : ℕ) (found : Option (Bor (List ℕ))) (other : Bor (List ℕ))
    → i < length header → option_map (λ (s : Bor (List ℕ)). s.now) found ≡ field_at fields i
    → same_fields (map (λ (s : Bor (List ℕ)). s.now) (drop i header)) (drop i fields)
    ≡ (option_eq same_text (Some (get_or header i other)) found && same_fields (map (λ (s : Bor (List ℕ)). s.now) (drop (suc i) header)) (drop (suc i) fields))
same_fields-next header fields i None other inside e = rw (drop-cons header i other, drop-no_field fields i (sym e))
same_fields-next header fields i (Some f) other inside e = rw (drop-field_at fields i f.now (sym e), drop-cons header i other)

-- it is the same in both
pub same_fields-agree : (header : List (Bor (List ℕ))) (fields : Fields) (i : ℕ) (found : Option (Bor (List ℕ))) (other : Bor (List ℕ))
    → i < length header → option_map (λ (s : Bor (List ℕ)). s.now) found ≡ field_at fields i
    → not (option_eq same_text (Some (get_or header i other)) found) ≡ false
    → same_fields (map (λ (s : Bor (List ℕ)). s.now) (drop i header)) (drop i fields)
    ≡ same_fields (map (λ (s : Bor (List ℕ)). s.now) (drop (i + 1) header)) (drop (i + 1) fields)
same_fields-agree header fields i found other inside e same =
    rw add-one (same_fields-next header fields i found other inside e ∙ by (option_eq same_text (Some (get_or header i other)) found) same)
  where
    by : (b : Bool) → not b ≡ false → (b && same_fields (map (λ (s : Bor (List ℕ)). s.now) (drop (suc i) header)) (drop (suc i) fields))
        ≡ same_fields (map (λ (s : Bor (List ℕ)). s.now) (drop (suc i) header)) (drop (suc i) fields)
    by true h = refl
    by false h = cc h

-- it differs
pub same_fields-differ : (header : List (Bor (List ℕ))) (fields : Fields) (i : ℕ) (found : Option (Bor (List ℕ))) (other : Bor (List ℕ))
    → i < length header → option_map (λ (s : Bor (List ℕ)). s.now) found ≡ field_at fields i
    → not (option_eq same_text (Some (get_or header i other)) found) ≡ true
    → same_fields (map (λ (s : Bor (List ℕ)). s.now) (drop i header)) (drop i fields) ≡ false
same_fields-differ header fields i found other inside e differ =
    same_fields-next header fields i found other inside e ∙ by (option_eq same_text (Some (get_or header i other)) found) differ
  where
    by : (b : Bool) → not b ≡ true → (b && same_fields (map (λ (s : Bor (List ℕ)). s.now) (drop (suc i) header)) (drop (suc i) fields)) ≡ false
    by true h = cc h
    by false h = refl

-- no field is left
pub same_fields-end : (header : List (Bor (List ℕ))) (fields : Fields) (i : ℕ) → length header ≡ i → length fields ≡ i
    → true ≡ same_fields (map (λ (s : Bor (List ℕ)). s.now) (drop i header)) (drop i fields)
same_fields-end header fields i e f = rw (drop_all i header (omega arith), drop_all i fields (omega arith)) refl
