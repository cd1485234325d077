-- The places of the points that are cut, one cut after the other.
use Rattle.std.proofs.Common.{◌≡◌, ◌∙◌, ℕ, ◌+◌, ◌<◌, inl, inr, ◌||◌, ◌∷◌, ◌++◌, ◌==◌, true, false, Some, None, List, [], length, get_or, take, position, sym, ap, arith, is_some}
use Rattle.std.proofs.lemmas.Bool.Decides.{nat_tests}
use Rattle.std.specs.List.Sorted.{IsStrictlySortedBy}
use Rattle.std.proofs.Math.Bool.{or-false}
use Rattle.std.proofs.lemmas.Bool.{cases_eq, false_from_ne_true}
use Rattle.std.proofs.lemmas.Cmp.{nat_list_eq_equiv}
use Rattle.std.proofs.lemmas.List.{get_or_default}
use Rattle.std.proofs.lemmas.List.Folds.{list_any_more}
use Rattle.std.proofs.lemmas.List.Quantifiers.{position-Some}
use Rattle.std.proofs.lemmas.Option.{same_Some}
use Rattle.clr_net.specs.Prelude.{name_cmp, same_name, has_name}
use Rattle.clr_net.specs.Index.{place_in}
use Rattle.clr_net.specs.Search.{ListsCut}
use Rattle.clr_net.proofs.FencePlaces.{place_at}
use Rattle.clr_net.proofs.PlaceLists.{has_place-push}
use Rattle.clr_net.proofs.Places.{all_fail, is_some-position, place_of_name}
use Rattle.clr_net.proofs.Walks.{one_name}

-- whether a name is among one cut more
cut_more : (cut : List (List ℕ)) (i : ℕ) (n name : List ℕ) → i < length cut → n ≡ get_or cut i n → has_name (take (i + 1) cut) name ≡ (has_name (take i cut) name || same_name name n)
cut_more cut i n name inside is =
    let item : get_or cut i [] ≡ n = get_or_default cut i [] n inside ∙ sym is in
    list_any_more (same_name name) cut i [] inside ∙ ap (λ m. has_name (take i cut) name || same_name name m) item

-- a cut that is no point has no place
pub cut_none : (points cut : List (List ℕ)) (i : ℕ) (n : List ℕ) (places : List ℕ) → i < length cut → n ≡ get_or cut i n → position (same_name n) points ≡ None
    → ListsCut points (take i cut) places → ListsCut points (take (i + 1) cut) places
cut_none points cut i n places inside is none listed k below =
    let name = get_or points k [] in
    let apart : same_name name n ≡ false = nat_list_eq_equiv.symm name n ∙ all_fail (same_name n) points none k [] below in
    listed k below ∙ sym (cut_more cut i n name inside is ∙ rw apart (or-false (has_name (take i cut) name)))

-- the place of a point that is cut
pub cut_some : (points cut : List (List ℕ)) (i : ℕ) (n : List ℕ) (places : List ℕ) (place : ℕ) → IsStrictlySortedBy name_cmp points
    → i < length cut → n ≡ get_or cut i n → position (same_name n) points ≡ Some place
    → ListsCut points (take i cut) places → ListsCut points (take (i + 1) cut) (places ++ place ∷ [])
cut_some points cut i n places place rises inside is found listed k below =
    let name = get_or points k [] in
    let tie : (k == place) ≡ same_name name n = elim (cases_eq k place) [
      | inl same ↦
          let (in_points, here, before) = position-Some (same_name n) points place [] found in
          let there : same_name name n ≡ true = rw same (nat_list_eq_equiv.symm (get_or points place []) n ∙ here) in
          let one : (k == place) ≡ true = grind (arith, nat_tests) in
          one ∙ sym there
      | inr other ↦
          let known = sym (is_some-position (same_name n) points) ∙ ap is_some found in
          let at_place : place_in points n ≡ place = same_Some _ _ (sym (place_of_name points n known) ∙ found) in
          let apart : same_name name n ≡ false = false_from_ne_true _ (λ e. other (sym (place_at points k rises below) ∙ ap (place_in points) (one_name name n e) ∙ at_place)) in
          let two : (k == place) ≡ false = grind (arith, nat_tests) in
          two ∙ sym apart
    ] in
    has_place-push places place k ∙ (λ j. listed k below j || tie j) ∙ sym (cut_more cut i n name inside is)
