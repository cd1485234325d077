-- What a search of a list finds, and what holds where it finds nothing.
use Rattle.std.proofs.Common.{◌≡◌, Bool, true, false, Bor, Option, Some, None, List, [], ◌∷◌, map, find, All, refl, option_copied, option_map}
use Rattle.std.proofs.lemmas.List.Elements.{All-nil, All-cons, All-head, All-tail}

-- a search of what a map gives
pub find-map : {X Y : Type 0} (p : Y → Bool) (f : X → Y) (xs : List X) → find p (map f xs) ≡ option_map f (find (λ x. p (f x)) xs)
find-map p f [] = refl
find-map p f (x ∷ xs) = at (p (f x)) refl (find-map p f xs)
  where
    at : (b : Bool) → p (f x) ≡ b → find p (map f xs) ≡ option_map f (find (λ x. p (f x)) xs) → find p (map f (x ∷ xs)) ≡ option_map f (find (λ x. p (f x)) (x ∷ xs))
    at true e more = rw e refl
    at false e more = rw e more

-- a search of what references point to
pub find_behind : {X : Type 0} (p : X → Bool) (xs : List (Bor X)) → option_copied (find (λ x. p x.now) xs) ≡ find p (map (λ x. x.now) xs)
find_behind p [] = refl
find_behind p (x ∷ xs) = at (p x.now) refl (find_behind p xs)
  where
    at : (b : Bool) → p x.now ≡ b → option_copied (find (λ x. p x.now) xs) ≡ find p (map (λ x. x.now) xs) → option_copied (find (λ x. p x.now) (x ∷ xs)) ≡ find p (map (λ x. x.now) (x ∷ xs))
    at true e more = rw e refl
    at false e more = rw e more

-- where nothing is found, nothing passes
pub all_fail : {X : Type 0} (p : X → Bool) (xs : List X) → find p xs ≡ None → All (λ x. p x ≡ false) xs
all_fail p [] h = All-nil (λ x. p x ≡ false)
all_fail p (x ∷ xs) h = at (p x) refl (all_fail p xs)
  where
    at : (b : Bool) → p x ≡ b → (find p xs ≡ None → All (λ x. p x ≡ false) xs) → All (λ x. p x ≡ false) (x ∷ xs)
    at true e more = let g = rw e at h in absurd (cc)
    at false e more = All-cons (λ x. p x ≡ false) x xs e (more (rw e at h))

-- where nothing passes, nothing is found
pub find-none : {X : Type 0} (p : X → Bool) (xs : List X) → All (λ x. p x ≡ false) xs → find p xs ≡ None
find-none p [] h = refl
find-none p (x ∷ xs) h =
    let e = All-head (λ x. p x ≡ false) x xs h in
    rw e (find-none p xs (All-tail (λ x. p x ≡ false) x xs h))

-- a map of a search finds nothing only where the search does
pub option_map-none : {X Y : Type 0} (f : X → Y) (o : Option X) → option_map f o ≡ None → o ≡ None
option_map-none f None h = refl
option_map-none f (Some x) h = absurd (cc)

-- what is found passes
pub found_passes : {X : Type 0} (p : X → Bool) (xs : List X) (y : X) → find p xs ≡ Some y → p y ≡ true
found_passes p [] y h = absurd (cc)
found_passes p (x ∷ xs) y h = at (p x) refl (found_passes p xs y)
  where
    at : (b : Bool) → p x ≡ b → (find p xs ≡ Some y → p y ≡ true) → p y ≡ true
    at true e more = let k = rw e at h in let same : x ≡ y = cc in rw (← same) e
    at false e more = more (rw e at h)
