-- One turn of a loop that adds what is found.
use Rattle.std.proofs.Common.{◌≡◌, ◌∙◌, ◌<◌, ◌+◌, ◌-◌, ◌++◌, ◌∷◌, Bool, true, false, ℕ, List, [], length, take, drop, get_or, map, filter, ap, refl, sym, append_assoc}
use Rattle.std.proofs.lemmas.List.{drop_more, length-drop}
use Rattle.std.proofs.Math.Seq.{take-length}
use Rattle.clr_csv.specs.Alike.{differ_by_one_letter}
use Rattle.clr_csv.specs.Warnings.{alike}
use Rattle.clr_csv.specs.declared.warning.Names.{Names}
use Rattle.clr_csv.specs.declared.warning.Warning.{Warning}
use Rattle.clr_csv.specs.declared.warning.Warning.TheVariants.{Alike}

module _ {A B : Type 0} (f : A → B) (p : A → Bool) (xs : List A) (i : ℕ) (x : A) (is : x ≡ get_or xs i x) (inside : i < length xs) (found all : List B)
    (so_far : found ++ map f (filter p (drop i xs)) ≡ all) where
  left : drop i xs ≡ x ∷ drop (i + 1) xs
  left = drop_more xs i x inside ∙ ap (λ y. y ∷ drop (i + 1) xs) (sym is)

  -- it is found
  pub found_one : p x ≡ true → (found' : List B) → found' ≡ found ++ f x ∷ [] → found' ++ map f (filter p (drop (i + 1) xs)) ≡ all
  found_one e found' added =
      let rest = map f (filter p (drop (i + 1) xs)) in
      let step : map f (filter p (drop i xs)) ≡ f x ∷ rest = ap (λ l. map f (filter p l)) left ∙ rw e refl in
      ap (λ l. l ++ rest) added ∙ append_assoc found (f x ∷ []) rest ∙ ap (λ l. found ++ l) (sym step) ∙ so_far

  -- or it is not
  pub found_none : p x ≡ false → (found' : List B) → found' ≡ found → found' ++ map f (filter p (drop (i + 1) xs)) ≡ all
  found_none e found' same =
      let rest = map f (filter p (drop (i + 1) xs)) in
      let step : map f (filter p (drop i xs)) ≡ rest = ap (λ l. map f (filter p l)) left ∙ rw e refl in
      ap (λ l. l ++ rest) same ∙ ap (λ l. found ++ l) (sym step) ∙ so_far

-- the pairs of one name more
pub pairs_more : (of : Names) (names : List (List ℕ)) (i : ℕ) (name : List ℕ) → name ≡ get_or names i name → i < length names
    → (found found' all : List Warning) → found ++ alike of (drop i names) ≡ all
    → found' ≡ found ++ map (Alike of name) (filter (differ_by_one_letter name) (drop (i + 1) names))
    → found' ++ alike of (drop (i + 1) names) ≡ all
unfolding alike
pairs_more of names i name is inside found found' all so_far added =
    let later = drop (i + 1) names in
    let pairs = map (Alike of name) (filter (differ_by_one_letter name) later) in
    let left : drop i names ≡ name ∷ later = drop_more names i name inside ∙ ap (λ n. n ∷ later) (sym is) in
    ap (λ l. l ++ alike of later) added ∙ append_assoc found pairs (alike of later) ∙ ap (λ l. found ++ l) (sym (ap (alike of) left)) ∙ so_far

-- and those of none
pub pairs_none : (of : Names) (names : List (List ℕ)) (i : ℕ) → drop i names ≡ [] → alike of (drop i names) ≡ []
unfolding alike
pairs_none of names i none = ap (alike of) none ∙ refl

-- the slice from a place on
pub all_after : {A : Type 0} (i : ℕ) (xs : List A) → take (length xs - i) (drop i xs) ≡ drop i xs
all_after i xs = ap (λ n. take n (drop i xs)) (sym (length-drop i xs)) ∙ take-length (drop i xs)
