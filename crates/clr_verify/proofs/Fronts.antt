-- Fronts of lists that are the same, row by row.
use Rattle.std.proofs.Common.{◌≡◌, ◌∙◌, ℕ, zero, suc, ◌+◌, ◌≤◌, List, [], ◌∷◌, ◌++◌, ◌<◌, IfSome, MatchOption, HoldsAt, get_or, option_copied, Option, None, Some, Bor, length, map, take, slice_get, option_map, option_to_list, refl, ap, sym, arith}
use Rattle.std.proofs.lemmas.Option.{slice_get-map, slice_get_past, slice_get_read}

-- a front with one row more
one_more : {X : Type 0} (n : ℕ) (xs : List X) → take (suc n) xs ≡ take n xs ++ option_to_list (slice_get xs n)
one_more zero [] = refl
one_more (suc n) [] = refl
one_more zero (x ∷ xs) = refl
one_more (suc n) (x ∷ xs) = ap (λ front. x ∷ front) (one_more n xs)

pub longer : {X : Type 0} (n : ℕ) (xs ys : List X) → take n xs ≡ take n ys → slice_get xs n ≡ slice_get ys n → take (n + 1) xs ≡ take (n + 1) ys
longer n xs ys before here =
    let next : n + 1 ≡ suc n = omega arith in
    rw next (one_more n xs ∙ (λ i. before i ++ option_to_list (here i)) ∙ sym (one_more n ys))

-- the same of references to rows
pub longer_references : {X : Type 0} (n : ℕ) (xs ys : List (Bor X)) → take n (map (λ row. row.now) xs) ≡ take n (map (λ row. row.now) ys)
    → option_map (λ row. row.now) (slice_get xs n) ≡ option_map (λ row. row.now) (slice_get ys n) → take (n + 1) (map (λ row. row.now) xs) ≡ take (n + 1) (map (λ row. row.now) ys)
longer_references n xs ys before here =
    longer n (map (λ row. row.now) xs) (map (λ row. row.now) ys) before (slice_get-map (λ row. row.now) xs n ∙ here ∙ sym (slice_get-map (λ row. row.now) ys n))

-- what `get` finds
pub found_at : {X : Type 0} (found : Option (Bor X)) (n : ℕ) (xs : List X) → IfSome found (λ x. x.now ≡ get_or xs n x.now)
    → MatchOption found (length xs ≤ n) (λ x. (n < length xs) × HoldsAt (λ y. x.now ≡ y) xs n) → option_copied found ≡ slice_get xs n
found_at None n xs is past = sym (slice_get_past xs n past)
found_at (Some x) n xs is within = sym (slice_get_read xs (length xs) n x.now refl within.0 is)
