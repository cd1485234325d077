-- What two keys that tie are: one key, where its parts are compared in turn.
use Rattle.std.specs.Prelude.{◌≡◌, ℕ, List, [], ◌∷◌, refl}
use Rattle.std.specs.Cmp.Lexicographic.{slice_cmp}
use Rattle.std.specs.Ordering.{nat_cmp, ordering_then, is_lt, is_gt}
use Rattle.std.specs.declared.cmp.Ordering.{Ordering}
use Rattle.std.specs.declared.cmp.Ordering.TheVariants.{Less, Equal, Greater}
use Rattle.std.proofs.Common.{sym, ap}
use Rattle.std.proofs.lemmas.Bool.{true≢false}
use Rattle.std.proofs.lemmas.Cmp.{ranked}

-- what ties by two comparisons in turn ties by each
pub first_ties : (a b : Ordering) → ordering_then a b ≡ Equal → a ≡ Equal
first_ties Less b h = h
first_ties Equal b h = refl
first_ties Greater b h = h

pub second_ties : (a b : Ordering) → ordering_then a b ≡ Equal → b ≡ Equal
second_ties Less b h = absurd (true≢false (ap is_lt h))
second_ties Equal b h = h
second_ties Greater b h = absurd (true≢false (ap is_gt h))

-- numbers that tie are one number
pub same_number : (a b : ℕ) → nat_cmp a b ≡ Equal → a ≡ b
same_number a b ties = ranked a b Equal (sym ties)

-- lists that tie are one list, where elements that tie are one element
pub same_list : {X : Type 0} (compare : X → X → Ordering)
    → ((a b : X) → compare a b ≡ Equal → a ≡ b)
    → (xs ys : List X) → slice_cmp compare xs ys ≡ Equal → xs ≡ ys
same_list compare same [] [] ties = refl
same_list compare same [] (y ∷ ys) ties = absurd (true≢false (ap is_lt ties))
same_list compare same (x ∷ xs) [] ties = absurd (true≢false (ap is_gt ties))
same_list compare same (x ∷ xs) (y ∷ ys) ties =
    let first = same x y (first_ties (compare x y) (slice_cmp compare xs ys) ties) in
    let rest =
    same_list compare same xs ys (second_ties (compare x y) (slice_cmp compare xs ys) ties) in
    λ i. first i ∷ rest i

-- texts that tie are one text
pub same_text : (xs ys : List ℕ) → slice_cmp nat_cmp xs ys ≡ Equal → xs ≡ ys
same_text = same_list nat_cmp same_number
