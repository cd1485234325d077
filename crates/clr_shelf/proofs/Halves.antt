-- What a search by halves has found, where the items are in order.
use Rattle.std.proofs.Common.{◌≡◌, ℕ, ◌+◌, ◌-◌, ◌<◌, ◌≤◌, Bool, true, false, List, length, get_or, inl, inr, sym, ◌∙◌, arith, Ordering, Less, Equal, Greater}
use Rattle.std.specs.List.{AllWithin}
use Rattle.std.specs.List.Sorted.{IsNonDecreasingBy, IsPartitionedBy, IsPartitionPoint}
use Rattle.std.specs.Ordering.{is_lt, is_eq, ordering_index}
use Rattle.std.proofs.lemmas.Bool.{cases_Bool, true≢false}

-- the items before a place pass and those from it on fail, if the one before passes and the one
-- there fails
pub partition_from_point : {X : Type 0} (p : X → Bool) (xs : List X) (r : ℕ)
    → IsPartitionedBy p xs → r ≤ length xs
    → ((k : ℕ) (d : X) → k + 1 ≡ r → p (get_or xs k d) ≡ true)
    → ((d : X) → r < length xs → p (get_or xs r d) ≡ false)
    → IsPartitionPoint (λ x. p x ≡ true) (λ x. p x ≡ false) xs r
partition_from_point p xs r parted within before after = (
  λ k d low high. parted k (r - 1) d (omega arith) (omega arith) (before (r - 1) d (omega arith)),
  λ k d low high. elim (cases_Bool (p (get_or xs k d))) [
    | inl passes ↦ absurd (true≢false (sym (parted r k d low high passes) ∙ after d (omega arith)))
    | inr fails ↦ fails
  ],
)

below : (o : Ordering) → is_lt o ≡ true → o ≡ Less
below Less h = cc
below Equal h = cc
below Greater h = cc

above : (first o : Ordering) → is_lt first ≡ false → is_eq first ≡ false → ordering_index first
    ≤ ordering_index o → o ≡ Greater
above Less o lt eq le = cc
above Equal o lt eq le = cc
above Greater Less lt eq le = absurd (omega arith)
above Greater Equal lt eq le = absurd (omega arith)
above Greater Greater lt eq le = cc

-- where no item ties, all before the place are below and all from it on above
pub gap_from_point : {X : Type 0} (side : X → Ordering) (xs : List X) (r : ℕ)
    → IsNonDecreasingBy (λ x. ordering_index (side x)) xs
    → IsPartitionPoint (λ x. is_lt (side x) ≡ true) (λ x. is_lt (side x) ≡ false) xs r
    → ((d : X) → r < length xs → is_eq (side (get_or xs r d)) ≡ false)
    → AllWithin (λ x. side x ≡ Less) xs 0 r × AllWithin (λ x. side x ≡ Greater) xs r (length xs)
gap_from_point side xs r rise parts apart = (
  λ k d low high. below (side (get_or xs k d)) (parts.0 k d low high),
  λ k d low high. above (side (get_or xs r d)) (side (get_or xs k d))
      (parts.1 r d (omega arith) (omega arith))
      (apart d (omega arith)) (rise r k d low high),
)
