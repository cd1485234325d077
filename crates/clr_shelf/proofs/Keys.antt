-- Facts on keys in a total order.
use Rattle.std.proofs.Common.{◌≡◌, true, false, refl, sym, ◌∙◌, ap, Ordering, Less, Equal, Greater, true≢false}
use Rattle.std.specs.Cmp.{IsTotalOrder}
use Rattle.std.specs.Ordering.{is_lt, is_eq, is_gt, ordering_reverse}
use Rattle.std.proofs.lemmas.Cmp.{tied_back}
pub use Rattle.clr_shelf.specs.Ties.{first_ties, second_ties, same_number, same_text}

pub equal : (o : Ordering) → is_eq o ≡ true → o ≡ Equal
equal Less h = cc
equal Equal h = refl
equal Greater h = cc

pub less : (o : Ordering) → is_lt o ≡ true → o ≡ Less
less Less h = refl
less Equal h = cc
less Greater h = cc

pub greater : (o : Ordering) → is_gt o ≡ true → o ≡ Greater
greater Less h = cc
greater Equal h = cc
greater Greater h = refl

module _ {Key : Type 0} (compare : Key → Key → Ordering) (order : IsTotalOrder compare) where
  -- keys that differ do so from either side
  pub apart_back : (a b : Key) → is_eq (compare a b) ≡ false → is_eq (compare b a) ≡ false
  apart_back a b differs =
      let by_cases : (o : Ordering) → compare b a ≡ o → is_eq o ≡ false = λ o is. elim o as (λ v. compare b a ≡ v → is_eq v ≡ false) [
        | Less ↦ λ _. refl
        | Equal ↦ λ ties. absurd (true≢false (sym (ap is_eq (tied_back order b a ties)) ∙ differs))
        | Greater ↦ λ _. refl
      ] is in
      by_cases (compare b a) refl

  -- a key above another from its side
  pub above_back : (a b : Key) → is_gt (compare a b) ≡ true → is_lt (compare b a) ≡ true
  above_back a b above = ap is_lt (order.antisymm b a ∙ ap ordering_reverse (greater (compare a b) above))

  -- keys below one another in turn
  pub below_chain : (a b c : Key) → is_lt (compare a b) ≡ true → is_lt (compare b c) ≡ true → is_lt (compare a c) ≡ true
  below_chain a b c first second = ap is_lt (order.trans a b c (less (compare a b) first) (less (compare b c) second))

  -- a key above another is not below it
  pub below_not_above : (a b : Key) → is_lt (compare a b) ≡ true → is_lt (compare b a) ≡ false
  below_not_above a b below = ap is_lt (order.antisymm b a ∙ ap ordering_reverse (less (compare a b) below))
