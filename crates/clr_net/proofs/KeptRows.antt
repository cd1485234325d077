-- Which rows a filter keeps, which a map gives, and which names the rows have that are kept.
use Rattle.std.proofs.Common.{◌≡◌, ◌⊎◌, inl, inr, ⊎_elim, arith, ℕ, zero, suc, Bool, true, false, ◌&&◌, List, [], ◌∷◌, map, refl, subst, Contains, filter}
use Rattle.std.proofs.lemmas.Bool.{both_ways}
use Rattle.std.proofs.lemmas.Map.Views.{any-filter_same}
use Rattle.clr_net.specs.Prelude.{same_name, has_name}
use Rattle.clr_net.proofs.Walks.{one_name}

module _ {X : Type 0} where
  pub first_or_later : (x y : X) (xs : List X) → Contains (x ∷ xs) y → (x ≡ y) ⊎ Contains xs y
  first_or_later x y xs (zero, within, here) = inl here
  first_or_later x y xs (suc k, within, here) = inr (k, omega arith, here)

  pub at_first : (x : X) (xs : List X) → Contains (x ∷ xs) x
  at_first x xs = (0, omega arith, refl)

  pub at_later : (x y : X) (xs : List X) → Contains xs y → Contains (x ∷ xs) y
  at_later x y xs (k, within, here) = (suc k, omega arith, here)

-- an element that passes is among those that a filter keeps
pub Contains-filter : {X : Type 0} (q : X → Bool) (xs : List X) (x : X) → Contains xs x → q x ≡ true → Contains (filter q xs) x
Contains-filter q [] x (k, within, is) passes = absurd (omega arith)
Contains-filter q (y ∷ xs) x there passes = at (q y) refl (first_or_later y x xs there) (λ later. Contains-filter q xs x later passes)
  where
    at : (b : Bool) → q y ≡ b → (y ≡ x) ⊎ Contains xs x → (Contains xs x → Contains (filter q xs) x) → Contains (filter q (y ∷ xs)) x
    at true e (inl here) more = rw (e, ← here) (at_first y (filter q xs))
    at true e (inr later) more = rw e (at_later y x (filter q xs) (more later))
    at false e (inl here) more = absurd (both_ways (q y) e (rw here passes))
    at false e (inr later) more = rw e (more later)

module _ {X : Type 0} (p : X → Bool) where
  pub kept_there : (xs : List X) (x : X) → Contains (filter p xs) x → Contains xs x × (p x ≡ true)
  kept_there [] x (k, within, here) = absurd (omega arith)
  kept_there (y ∷ ys) x member = at (p y) refl (kept_there ys x)
    where
      at : (b : Bool) → p y ≡ b → (Contains (filter p ys) x → Contains ys x × (p x ≡ true)) → Contains (y ∷ ys) x × (p x ≡ true)
      at true e more = ⊎_elim
          (λ here. (subst (λ (z : X). Contains (y ∷ ys) z) here (at_first y ys), subst (λ (z : X). p z ≡ true) here e))
          (λ later. let both = more later in (at_later y x ys both.0, both.1))
          (first_or_later y x (filter p ys) (rw e at member))
      at false e more = let both = more (rw e at member) in (at_later y x ys both.0, both.1)

module _ {X Y : Type 0} (f : X → Y) where
  pub mapped_from : (xs : List X) (y : Y) → Contains (map f xs) y → (x : X) × Contains xs x × (f x ≡ y)
  mapped_from [] y (k, within, here) = absurd (omega arith)
  mapped_from (x ∷ xs) y member = ⊎_elim
      (λ here. (x, at_first x xs, here))
      (λ later. let found = mapped_from xs y later in (found.0, at_later x found.0 xs found.1, found.2))
      (first_or_later (f x) y (map f xs) member)

  pub there_mapped : (xs : List X) (x : X) → Contains xs x → Contains (map f xs) (f x)
  there_mapped [] x (k, within, here) = absurd (omega arith)
  there_mapped (z ∷ xs) x member = ⊎_elim
      (λ here. subst (λ (y : X). Contains (map f (z ∷ xs)) (f y)) here (at_first (f z) (map f xs)))
      (λ later. at_later (f z) (f x) (map f xs) (there_mapped xs x later))
      (first_or_later z x xs member)

-- a filter by name keeps the names that pass
pub filter-names : {X : Type 0} (name_of : X → List ℕ) (q : List ℕ → Bool) (rows : List X)
    → map name_of (filter (λ row. q (name_of row)) rows) ≡ filter q (map name_of rows)
filter-names name_of q [] = refl
filter-names name_of q (row ∷ rows) = at (q (name_of row)) refl (filter-names name_of q rows)
  where
    at : (b : Bool) → q (name_of row) ≡ b → map name_of (filter (λ row. q (name_of row)) rows) ≡ filter q (map name_of rows)
        → map name_of (filter (λ row. q (name_of row)) (row ∷ rows)) ≡ filter q (map name_of (row ∷ rows))
    at true e more = rw (e, more) refl
    at false e more = rw (e, more) refl

-- a name is among those that pass a test exactly where it passes and is among all
pub has_name-filter : (q : List ℕ → Bool) (names : List (List ℕ)) (name : List ℕ) → has_name (filter q names) name ≡ (q name && has_name names name)
has_name-filter q names name = any-filter_same (same_name name) q (q name) (λ other same. rw (one_name name other same) refl) names

-- the same of the names of rows
pub has_name-kept : {X : Type 0} (name_of : X → List ℕ) (q : List ℕ → Bool) (rows : List X) (name : List ℕ)
    → has_name (map name_of (filter (λ row. q (name_of row)) rows)) name ≡ (q name && has_name (map name_of rows) name)
has_name-kept name_of q rows name = rw (filter-names name_of q rows) (has_name-filter q (map name_of rows) name)
