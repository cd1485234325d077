-- Lists of rows in key order: what it means, the row of a key, and the list with a row put or
-- taken.
use Rattle.std.specs.Prelude.{Bool, true, ◌&&◌, not, List, [], ◌∷◌, ◌++◌, Option, filter}
use Rattle.std.specs.List.{find, list_all}
use Rattle.std.specs.Ordering.{is_lt, is_eq, is_gt}
use Rattle.std.specs.declared.cmp.Ordering.{Ordering}

-- the key of each row is below the keys of all rows after it, so no key comes twice
abbrev pub in_key_order : {Key Row : Type 0} → (Key → Key → Ordering) → (Row → Key) → List Row
    → Bool
in_key_order compare key_of [] = true
in_key_order compare key_of (row ∷ rest) =
    list_all (λ next. is_lt (compare (key_of row) (key_of next))) rest
    && in_key_order compare key_of rest

-- the row of a key, if there is one
unfoldable pub row_of : {Key Row : Type 0} → (Key → Key → Ordering) → (Row → Key) → Key → List Row
    → Option Row
row_of compare key_of key rows = find (λ row. is_eq (compare (key_of row) key)) rows

-- the list with a row put: the rows of lower keys, the row, and those of higher keys
unfoldable pub with_row : {Key Row : Type 0} → (Key → Key → Ordering) → (Row → Key) → Row → List Row
    → List Row
with_row compare key_of row rows =
    filter (λ other. is_lt (compare (key_of other) (key_of row))) rows
    ++ row ∷ filter (λ other. is_gt (compare (key_of other) (key_of row))) rows

-- the list without the row of a key
unfoldable pub without_row : {Key Row : Type 0} → (Key → Key → Ordering) → (Row → Key) → Key
    → List Row → List Row
without_row compare key_of key rows = filter (λ row. not (is_eq (compare (key_of row) key))) rows
