-- The order of places by group and then key, and where in a list of rows in order a row of a key
-- is, or would go.
use Rattle.std.specs.Prelude.{◌≡◌, ℕ, ◌<◌, ◌≤◌, List, length}
use Rattle.std.specs.Ordering.{ordering_then}
use Rattle.std.specs.List.{AllWithin, HoldsAt}
use Rattle.std.specs.declared.cmp.Ordering.{Ordering}
use Rattle.std.specs.declared.cmp.Ordering.TheVariants.{Less, Equal, Greater}

-- by their groups, and in a group by the keys themselves
abbrev pub place_cmp : {Key Group : Type 0} → (Key → Key → Ordering) → (Key → Group)
    → (Group → Group → Ordering) → Key → Key → Ordering
place_cmp key_cmp group_of group_cmp a b =
    ordering_then (group_cmp (group_of a) (group_of b)) (key_cmp a b)

-- the row at the place has the key
pub record IsPlaceOf {Key Row : Type 0} (compare : Key → Key → Ordering) (key_of : Row
    → Key) (key : Key) (rows : List Row) (place : ℕ) : Type 0 where
  pub in_range : place < length rows
  pub has_key : HoldsAt (λ row. compare (key_of row) key ≡ Equal) rows place

-- a row of the key would go to the place: lower keys come before it, and higher keys from it on
pub record IsGapFor {Key Row : Type 0} (compare : Key → Key → Ordering) (key_of : Row
    → Key) (key : Key) (rows : List Row) (place : ℕ) : Type 0 where
  pub in_range : place ≤ length rows
  pub lower_before : AllWithin (λ row. compare (key_of row) key ≡ Less) rows 0 place
  pub higher_after : AllWithin (λ row. compare (key_of row) key ≡ Greater) rows place (length rows)
