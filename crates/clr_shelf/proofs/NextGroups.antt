-- Groups that rise: what is before a group, or in it, is before those that come after it.
use Rattle.std.proofs.Common.{◌≡◌, ℕ, ◌+◌, true, List, [], ◌∷◌, get_or, Ordering, Less}
use Rattle.std.specs.BTreeMap.Comparable.{le_lt_trans}
use Rattle.std.specs.Cmp.{IsTotalOrder}
use Rattle.std.specs.List.{AllByRecursion}
use Rattle.std.specs.List.Sorted.{IsStrictlySortedBy}
use Rattle.std.specs.Ordering.{is_le, is_lt}

pub rising-first : {Group : Type 0} (group_cmp : Group → Group → Ordering) (group : Group) (above : List Group)
    → IsStrictlySortedBy group_cmp (group ∷ above) → AllByRecursion (λ next. group_cmp group next ≡ Less) above
unfolding IsStrictlySortedBy
rising-first group_cmp group above rise = rise.0

module _ {Row Group : Type 0} (group_cmp : Group → Group → Ordering) where
  -- the row before a place, which is not above a group, is below the groups after it
  pub before_next : IsTotalOrder group_cmp → (group_of : Row → Group) (rows : List Row) (place : ℕ) (group : Group)
      → ((k : ℕ) (d : Row) → k + 1 ≡ place → is_le (group_cmp (group_of (get_or rows k d)) group) ≡ true)
      → (above : List Group) → AllByRecursion (λ next. group_cmp group next ≡ Less) above
      → AllByRecursion (λ next. (k : ℕ) (d : Row) → k + 1 ≡ place → is_lt (group_cmp (group_of (get_or rows k d)) next) ≡ true) above
  before_next order group_of rows place group here [] rise = cc
  before_next order group_of rows place group here (next ∷ above) rise = (
    λ k d is. rw (le_lt_trans order (group_of (get_or rows k d)) group next (here k d is) rise.0) cc,
    before_next order group_of rows place group here above rise.1,
  )
