-- Lists of names: which names a sort and the dropping of repeats leave, and what a search by halves finds.
use Rattle.std.proofs.Common.{◌≡◌, ◌∙◌, ℕ, Bool, true, false, ◌||◌, List, [], ◌∷◌, length, map, refl, sym, ap, subst, Result, Ok, Err}
use Rattle.std.specs.List.{dedup, dedup_from, list_any}
use Rattle.std.specs.List.Sorted.{IsBinarySearchResult, IsPermutation, IsSearchInRange, IsStrictlySortedBy}
use Rattle.std.specs.Prelude.{is_ok, is_some}
use Rattle.std.specs.Result.{result_ok}
use Rattle.std.proofs.lemmas.List.{map-id}
use Rattle.std.proofs.lemmas.List.Sorted.{list_any-IsPermutation}
use Rattle.clr_net.proofs.Places.{is_some-position, place_from_search}
use Rattle.clr_net.proofs.Walks.{one_name}
use Rattle.clr_net.specs.Name.{name_cmp, same_name}
use Rattle.clr_net.specs.Names.{has_name}

or_again : (b c : Bool) → (b || c) ≡ (b || (b || c))
or_again true c = refl
or_again false c = refl

module _ {X : Type 0} (same : X → X → Bool) (p : X → Bool) (agree : (x y : X) → same x y ≡ true → p x ≡ p y) where
  any_from : (k : X) (xs : List X) → list_any p (dedup_from same k xs) ≡ (p k || list_any p xs)
  any_from k [] = refl
  any_from k (x ∷ xs) = at (same x k) refl (any_from k xs) (any_from x xs)
    where
      at : (b : Bool) → same x k ≡ b → list_any p (dedup_from same k xs) ≡ (p k || list_any p xs) → list_any p (dedup_from same x xs) ≡ (p x || list_any p xs)
          → list_any p (dedup_from same k (x ∷ xs)) ≡ (p k || (p x || list_any p xs))
      at true e kept next = rw (e, kept, agree x k e) (or_again (p k) (list_any p xs))
      at false e kept next = rw (e, next) refl

  -- dropping repeats drops nothing that a test could see
  any-dedup : (xs : List X) → list_any p (dedup same xs) ≡ list_any p xs
  any-dedup [] = refl
  any-dedup (x ∷ xs) = any_from x xs

pub has_name-in_order : (names sorted : List (List ℕ)) (name : List ℕ) → IsPermutation names sorted → has_name (dedup same_name sorted) name ≡ has_name names name
has_name-in_order names sorted name moved =
    any-dedup same_name (same_name name) (λ x y same. ap (same_name name) (one_name x y same)) sorted
    ∙ sym (list_any-IsPermutation (same_name name) names sorted moved)

is_ok-found : (r : Result ℕ ℕ) → is_ok r ≡ is_some (result_ok r)
is_ok-found (Ok place) = refl
is_ok-found (Err place) = refl

-- what a search by halves finds among names in their order
pub is_ok-search : (names : List (List ℕ)) (name : List ℕ) (r : Result ℕ ℕ) → IsStrictlySortedBy name_cmp names → IsSearchInRange r (length names)
    → IsBinarySearchResult (λ other. name_cmp other name) names r → is_ok r ≡ has_name names name
is_ok-search names name r rise inside found =
    is_ok-found r ∙ ap is_some (place_from_search (λ n. n) names name r (subst (IsStrictlySortedBy name_cmp) (sym (map-id names)) rise) inside found)
    ∙ is_some-position (same_name name) (map (λ n. n) names) ∙ ap (λ ns. has_name ns name) (map-id names)
