-- Rows that are given, and the rows themselves.
use Rattle.std.proofs.Common.{◌≡◌, ◌∙◌, ◌==◌, List, [], ◌∷◌, length, Bool, true, false, cond, filter, map, refl, ap, nat_lt, arith, Bor, lt-ltb}

seen : {A : Type 0} (x : Bor A) (xs : List (Bor A)) (b : Bool) → map (λ (r : Bor A). r.now) (cond b (x ∷ xs) xs) ≡ cond b (x.now ∷ map (λ (r : Bor A). r.now) xs) (map (λ (r : Bor A). r.now) xs)
seen x xs true = refl
seen x xs false = refl

pub now-filter : {A : Type 0} (p : A → Bool) (xs : List (Bor A)) → map (λ (r : Bor A). r.now) (filter (λ (r : Bor A). p r.now) xs) ≡ filter p (map (λ (r : Bor A). r.now) xs)
now-filter p [] = refl
now-filter {A = A} p (x ∷ xs) =
    seen x (filter (λ (r : Bor A). p r.now) xs) (p x.now) ∙ ap (λ (ys : List A). cond (p x.now) (x.now ∷ ys) ys) (now-filter p xs)

pub some_rows : {A B : Type 0} (f : A → B) (xs : List A) → (length xs == 0) ≡ false → nat_lt 0 (length (map f xs)) ≡ true
some_rows f [] none = cc
some_rows f (x ∷ xs) some = lt-ltb _ _ (omega arith)
