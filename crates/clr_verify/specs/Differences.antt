-- WHERE TWO LISTS OF ROWS DIFFER: at the first place where one of them has a row that the other one
-- has not.
use Rattle.std.specs.Prelude.{◌≡◌, ◌≢◌, ℕ, if◌then◌else◌, List, Option, None, Some, slice_get, take}
use Rattle.std.specs.Ordering.{is_lt}
use Rattle.std.specs.declared.cmp.Ordering.{Ordering}

abbrev pub lesser : {Key : Type 0} → (Key → Key → Ordering) → Key → Key → Key
lesser compare a b = if is_lt (compare b a) then b else a

-- two rows are not the same, and this is their key, the lesser one of two; a list that has ended
-- has no row
abbrev pub AreApart : {Row Key : Type 0} → (Row → Key) → (Key → Key → Ordering) → Option Row
    → Option Row → Key → Type 0
AreApart key_of compare None None key = ⊥
AreApart key_of compare (Some x) None key = key ≡ key_of x
AreApart key_of compare None (Some y) key = key ≡ key_of y
AreApart key_of compare (Some x) (Some y) key =
    (x ≢ y) × (key ≡ lesser compare (key_of x) (key_of y))

-- THE KEY OF THE FIRST ROW IN WHICH TWO LISTS DIFFER: the rows before a place are the same, and
-- those at the place are not
pub record DiffersAt {Row Key : Type 0} (key_of : Row → Key) (compare : Key → Key → Ordering)
    (left right : List Row) (key : Key) : Type 0 where
  pub place : ℕ
  pub before : take place left ≡ take place right
  pub here : AreApart key_of compare (slice_get left place) (slice_get right place) key

-- two lists are the same, or differ first in the row of this key
abbrev pub Differ : {Row Key : Type 0} → (Row → Key) → (Key → Key → Ordering) → List Row → List Row
    → Option Key → Type 0
Differ key_of compare left right None = left ≡ right
Differ key_of compare left right (Some key) = DiffersAt key_of compare left right key
