-- ROWS PUT ON A SHELF, one after another.
use Rattle.std.specs.Prelude.{List, [], ◌∷◌}
use Rattle.std.specs.declared.cmp.Ordering.{Ordering}
use Rattle.clr_shelf.specs.Rows.{with_row}

unfoldable pub put_all : {Key Row : Type 0} → (Key → Key → Ordering) → (Row → Key) → List Row
    → List Row → List Row
put_all compare key_of [] shelf = shelf
put_all compare key_of (row ∷ rows) shelf =
    put_all compare key_of rows (with_row compare key_of row shelf)

-- the rows of a shelf that took these alone
abbrev pub shelved : {Key Row : Type 0} → (Key → Key → Ordering) → (Row → Key) → List Row → List Row
shelved compare key_of rows = put_all compare key_of rows []
