-- What passes a test is the same in any sequence of the rows: a permutation of the rows has a permutation of it.
use Rattle.std.proofs.Common.{◌≡◌, ◌<◌, ℕ, zero, suc, Bool, true, false, List, [], ◌∷◌, filter, length, get_or, set, swap, refl, arith, IsPermutation}
use Rattle.std.proofs.lemmas.List.Sorted.{IsPermutation-refl, IsPermutation-keeps, IsPermutation-cons, IsPermutation-trans, IsPermutation-append_left, IsPermutation-append_comm}

module _ {X : Type 0} (p : X → Bool) where
  abbrev Alike : List X → List X → Type 0
  Alike xs ys = IsPermutation (filter p xs) (filter p ys)

  chain : (xs ys zs : List X) → Alike xs ys → Alike ys zs → Alike xs zs
  chain xs ys zs = IsPermutation-trans (filter p xs) (filter p ys) (filter p zs)

  skip : (x : X) (xs ys : List X) → Alike xs ys → Alike (x ∷ xs) (x ∷ ys)
  skip x xs ys alike = by (p x) refl
    where
      by : (b : Bool) → p x ≡ b → Alike (x ∷ xs) (x ∷ ys)
      by true is = rw is (IsPermutation-cons x (filter p xs) (filter p ys) alike)
      by false is = rw is alike

  turn : (x y : X) (xs : List X) → Alike (x ∷ y ∷ xs) (y ∷ x ∷ xs)
  turn x y xs = by (p x) refl (p y) refl
    where
      by : (a : Bool) → p x ≡ a → (b : Bool) → p y ≡ b → Alike (x ∷ y ∷ xs) (y ∷ x ∷ xs)
      by true e true d = rw (e, d) (IsPermutation-append_left (filter p xs) (x ∷ y ∷ []) (y ∷ x ∷ []) (IsPermutation-append_comm (x ∷ []) (y ∷ [])))
      by true e false d = rw (e, d) (IsPermutation-refl (x ∷ filter p xs))
      by false e true d = rw (e, d) (IsPermutation-refl (y ∷ filter p xs))
      by false e false d = rw (e, d) (IsPermutation-refl (filter p xs))

  to_head : (l : List X) (j : ℕ) (x d : X) → j < length l → Alike (x ∷ l) (get_or l j d ∷ set l j x)
  to_head [] j x d within = absurd (omega arith)
  to_head (y ∷ l) zero x d within = turn x y l
  to_head (y ∷ l) (suc j) x d within =
      chain (x ∷ y ∷ l) (y ∷ x ∷ l) (get_or l j d ∷ y ∷ set l j x) (turn x y l)
      (chain (y ∷ x ∷ l) (y ∷ get_or l j d ∷ set l j x) (get_or l j d ∷ y ∷ set l j x)
      (skip y (x ∷ l) (get_or l j d ∷ set l j x) (to_head l j x d (omega arith))) (turn y (get_or l j d) (set l j x)))

  exchanged : (l : List X) (i j : ℕ) (d : X) → i < length l → j < length l → Alike l (set (set l i (get_or l j d)) j (get_or l i d))
  exchanged [] i j d here there = absurd (omega arith)
  exchanged (x ∷ l) zero zero d here there = IsPermutation-refl (filter p (x ∷ l))
  exchanged (x ∷ l) zero (suc j) d here there = to_head l j x d (omega arith)
  exchanged (x ∷ l) (suc i) zero d here there = to_head l i x d (omega arith)
  exchanged (x ∷ l) (suc i) (suc j) d here there = skip x l (set (set l i (get_or l j d)) j (get_or l i d)) (exchanged l i j d (omega arith) (omega arith))

  swapped : (l : List X) (i j : ℕ) → i < length l → j < length l → Alike l (swap l i j)
  swapped [] i j here there = IsPermutation-refl []
  swapped (x ∷ l) i j here there = exchanged (x ∷ l) i j x here there

  pub permutation_of_passed : (xs ys : List X) → IsPermutation xs ys → IsPermutation (filter p xs) (filter p ys)
  permutation_of_passed xs = IsPermutation-keeps xs (Alike xs) (IsPermutation-refl (filter p xs)) (λ l i j here there so_far. chain xs l (swap l i j) so_far (swapped l i j here there))
