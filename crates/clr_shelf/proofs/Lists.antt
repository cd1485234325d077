-- Facts on searches and filters of lists.
use Rattle.std.proofs.Common.{◌≡◌, zero, suc, Bool, true, false, not, List, [], ◌∷◌, None, refl, subst, inl, inr, ◌⊎◌, ⊎_elim, arith}
use Rattle.std.specs.List.{find, filter, list_all, Contains}
use Rattle.std.proofs.lemmas.Bool.{and_from}
use Rattle.std.proofs.lemmas.Grind.{common_steps}

module _ {X : Type 0} (p q : X → Bool) where
  -- a search in what a wider test keeps
  pub find-filter_wider : ((x : X) → p x ≡ true → q x ≡ true) → (xs : List X) → find p (filter q xs) ≡ find p xs
  find-filter_wider wider [] = refl
  find-filter_wider wider (x ∷ xs) = grind (arith, wider x, find-filter_wider wider xs)

  -- a search in what a test keeps that leaves out all that is searched for
  pub find-filter_apart : ((x : X) → p x ≡ true → q x ≡ false) → (xs : List X) → find p (filter q xs) ≡ None
  find-filter_apart apart [] = refl
  find-filter_apart apart (x ∷ xs) = grind (arith, apart x, find-filter_apart apart xs)

  -- two filters in either order
  pub filter-filter_comm : (xs : List X) → filter p (filter q xs) ≡ filter q (filter p xs)
  filter-filter_comm [] = refl
  filter-filter_comm (x ∷ xs) = grind (arith, filter-filter_comm xs)

  pub list_all-filter : (xs : List X) → list_all p xs ≡ true → list_all p (filter q xs) ≡ true
  list_all-filter [] h = refl
  list_all-filter (x ∷ xs) h = grind (arith, common_steps, list_all-filter xs)

  -- a filter after a wider one
  pub filter-filter_wider : ((x : X) → p x ≡ true → q x ≡ true) → (xs : List X) → filter p (filter q xs) ≡ filter p xs
  filter-filter_wider wider [] = refl
  filter-filter_wider wider (x ∷ xs) = grind (arith, wider x, filter-filter_wider wider xs)

  pub list_all-weaker : ((x : X) → p x ≡ true → q x ≡ true) → (xs : List X) → list_all p xs ≡ true → list_all q xs ≡ true
  list_all-weaker weaker [] h = refl
  list_all-weaker weaker (x ∷ xs) h = grind (arith, common_steps, weaker x, list_all-weaker weaker xs)

  -- what a filter keeps passes each test that what it tests implies
  pub list_all-filtered : ((x : X) → q x ≡ true → p x ≡ true) → (xs : List X) → list_all p (filter q xs) ≡ true
  list_all-filtered implied [] = refl
  list_all-filtered implied (x ∷ xs) = grind (arith, common_steps, implied x, list_all-filtered implied xs)

module _ {X : Type 0} (p : X → Bool) where
  -- a filter that each element passes, and one that none does
  pub filter-same : (xs : List X) → list_all p xs ≡ true → filter p xs ≡ xs
  filter-same [] h = refl
  filter-same (x ∷ xs) h = grind (arith, common_steps, filter-same xs)

  pub filter-none : (xs : List X) → list_all (λ x. not (p x)) xs ≡ true → filter p xs ≡ []
  filter-none [] h = refl
  filter-none (x ∷ xs) h = grind (arith, common_steps, filter-none xs)

  -- a search that finds nothing
  pub list_all-from_none : (xs : List X) → find p xs ≡ None → list_all (λ x. not (p x)) xs ≡ true
  list_all-from_none [] h = refl
  list_all-from_none (x ∷ xs) h = grind (arith, common_steps, list_all-from_none xs)

module _ {X : Type 0} where
  -- what an element of a longer list is
  pub Contains-cases : (x y : X) (xs : List X) → Contains (x ∷ xs) y → (x ≡ y) ⊎ Contains xs y
  Contains-cases x y xs (zero, within, here) = inl here
  Contains-cases x y xs (suc k, within, here) = inr (k, omega arith, here)

  pub Contains-here : (x : X) (xs : List X) → Contains (x ∷ xs) x
  Contains-here x xs = (0, omega arith, refl)

  pub Contains-later : (x y : X) (xs : List X) → Contains xs y → Contains (x ∷ xs) y
  Contains-later x y xs (k, within, here) = (suc k, omega arith, here)

  pub list_all-contains : (p : X → Bool) (xs : List X) (x : X) → list_all p xs ≡ true → Contains xs x → p x ≡ true
  list_all-contains p [] x all (k, within, here) = absurd (omega arith)
  list_all-contains p (y ∷ xs) x all member =
      ⊎_elim (λ here. subst (λ z. p z ≡ true) here (grind (arith, common_steps))) (λ later. list_all-contains p xs x (grind (arith, common_steps)) later) (Contains-cases y x xs member)

  pub list_all-from_each : (p : X → Bool) (xs : List X) → ((x : X) → Contains xs x → p x ≡ true) → list_all p xs ≡ true
  list_all-from_each p [] each = refl
  list_all-from_each p (x ∷ xs) each = and_from (p x) (list_all p xs) (each x (Contains-here x xs)) (list_all-from_each p xs (λ y there. each y (Contains-later x y xs there)))
