-- Facts of lists that std does not have.
use Rattle.std.proofs.Common.{◌≡◌, Bool, true, false, ◌||◌, List, [], ◌∷◌, filter, map, refl, ap, arith, Ordering, Less}
use Rattle.std.specs.List.{AllByRecursion, dedup, dedup_from, list_any}
use Rattle.std.specs.List.Sorted.{IsStrictlySortedBy}

-- a map of a map
pub map-map : {X Y Z : Type 0} (f : Y → Z) (g : X → Y) (xs : List X) → map f (map g xs) ≡ map (λ x. f (g x)) xs
map-map f g [] = refl
map-map f g (x ∷ xs) = ap (λ zs. f (g x) ∷ zs) (map-map f g xs)

-- two filters in either order
pub filter-filter_comm : {X : Type 0} (p q : X → Bool) (xs : List X) → filter p (filter q xs) ≡ filter q (filter p xs)
filter-filter_comm p q [] = refl
filter-filter_comm p q (x ∷ xs) = grind (arith, filter-filter_comm p q xs)

or_again : (b c : Bool) → (b || c) ≡ (b || (b || c))
or_again true c = refl
or_again false c = refl

module _ {X : Type 0} (same : X → X → Bool) (p : X → Bool) (agree : (x y : X) → same x y ≡ true → p x ≡ p y) where
  any_from : (k : X) (xs : List X) → list_any p (dedup_from same k xs) ≡ (p k || list_any p xs)
  any_from k [] = refl
  any_from k (x ∷ xs) = at (same x k) refl (any_from k xs) (any_from x xs)
    where
      at : (b : Bool) → same x k ≡ b → list_any p (dedup_from same k xs) ≡ (p k || list_any p xs) → list_any p (dedup_from same x xs) ≡ (p x || list_any p xs)
          → list_any p (dedup_from same k (x ∷ xs)) ≡ (p k || (p x || list_any p xs))
      at true e kept next = rw (e, kept, agree x k e) (or_again (p k) (list_any p xs))
      at false e kept next = rw (e, next) refl

  -- dropping repeats drops nothing that a test could see
  pub any-dedup : (xs : List X) → list_any p (dedup same xs) ≡ list_any p xs
  any-dedup [] = refl
  any-dedup (x ∷ xs) = any_from x xs

module _ {Key Row : Type 0} (compare : Key → Key → Ordering) (key_of : Row → Key) (q : Row → Bool) where
  all_kept : (P : Key → Type 0) (rows : List Row) → AllByRecursion P (map key_of rows) → AllByRecursion P (map key_of (filter q rows))
  all_kept P [] all = tt
  all_kept P (row ∷ rows) all = at (q row) refl (all_kept P rows all.1)
    where
      at : (b : Bool) → q row ≡ b → AllByRecursion P (map key_of (filter q rows)) → AllByRecursion P (map key_of (filter q (row ∷ rows)))
      at true e more = rw e (all.0, more)
      at false e more = rw e more

  -- rows whose keys rise still do so when some are left out
  pub rising-filter : (rows : List Row) → IsStrictlySortedBy compare (map key_of rows) → IsStrictlySortedBy compare (map key_of (filter q rows))
  unfolding IsStrictlySortedBy
  rising-filter [] rises = tt
  rising-filter (row ∷ rows) rises = at (q row) refl (rising-filter rows rises.1)
    where
      at : (b : Bool) → q row ≡ b → IsStrictlySortedBy compare (map key_of (filter q rows)) → IsStrictlySortedBy compare (map key_of (filter q (row ∷ rows)))
      at true e more = rw e (all_kept (λ key. compare (key_of row) key ≡ Less) rows rises.0, more)
      at false e more = rw e more
