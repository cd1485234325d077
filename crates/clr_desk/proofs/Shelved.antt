-- Rows that are put on a shelf.
use Rattle.std.proofs.Common.{◌≡◌, List, [], ◌∷◌, ◌++◌, refl}
use Rattle.std.specs.declared.cmp.Ordering.{Ordering}
use Rattle.clr_shelf.specs.Rows.{with_row}
use Rattle.clr_desk.specs.Shelving.{put_all, shelved}

put_more : {Key Row : Type 0} (compare : Key → Key → Ordering) (key_of : Row → Key) (rows : List Row) (row : Row) (shelf : List Row)
    → put_all compare key_of (rows ++ row ∷ []) shelf ≡ with_row compare key_of row (put_all compare key_of rows shelf)
unfolding put_all
put_more compare key_of [] row shelf = refl
put_more compare key_of (r ∷ rows) row shelf = put_more compare key_of rows row (with_row compare key_of r shelf)

pub shelved_none : {Key Row : Type 0} (compare : Key → Key → Ordering) (key_of : Row → Key) → shelved compare key_of [] ≡ []
unfolding put_all
shelved_none compare key_of = refl

pub shelved_more : {Key Row : Type 0} (compare : Key → Key → Ordering) (key_of : Row → Key) (rows : List Row) (row : Row)
    → shelved compare key_of (rows ++ row ∷ []) ≡ with_row compare key_of row (shelved compare key_of rows)
shelved_more compare key_of rows row = put_more compare key_of rows row []
