-- A list of rows of different keys, put in key order. The lemma is the proof of a law, which has to
-- are here.
use Rattle.std.specs.Prelude.{Bool, true, false, List, [], ◌∷◌, if◌then◌else◌, IsPermutation}
use Rattle.std.specs.Ordering.{is_lt}
use Rattle.std.specs.declared.cmp.Ordering.{Ordering}
use Rattle.std.proofs.lemmas.List.Sorted.{IsPermutation-refl, IsPermutation-cons}
use Rattle.std.proofs.lemmas.List.Sorted.{IsPermutation-middle, IsPermutation-trans}

-- a row put before the first row that is not below it
unfoldable pub insert_by_key : {Key Row : Type 0} → (Key → Key → Ordering) → (Row → Key) → Row
    → List Row → List Row
insert_by_key compare key_of row [] = row ∷ []
insert_by_key compare key_of row (first ∷ rest) =
    if is_lt (compare (key_of first) (key_of row))
    then first ∷ insert_by_key compare key_of row rest else row ∷ first ∷ rest

-- the rows in key order
unfoldable pub rows_by_key : {Key Row : Type 0} → (Key → Key → Ordering) → (Row → Key) → List Row
    → List Row
rows_by_key compare key_of [] = []
rows_by_key compare key_of (row ∷ rest) =
    insert_by_key compare key_of row (rows_by_key compare key_of rest)

module _ {Key Row : Type 0} (compare : Key → Key → Ordering) (key_of : Row → Key) where
  IsPermutation-insert_step : (first row : Row) (rest inserted : List Row) (below : Bool)
      → IsPermutation inserted (row ∷ rest)
      → IsPermutation (if below then first ∷ inserted else row ∷ first ∷ rest) (row ∷ first ∷ rest)
  IsPermutation-insert_step first row rest inserted true moved =
      IsPermutation-trans (first ∷ inserted) (first ∷ row ∷ rest) (row ∷ first ∷ rest)
      (IsPermutation-cons first inserted (row ∷ rest) moved)
      (IsPermutation-middle (first ∷ []) row rest)
  IsPermutation-insert_step first row rest inserted false moved =
      IsPermutation-refl (row ∷ first ∷ rest)

  IsPermutation-insert_by_key : (row : Row) (rows : List Row)
      → IsPermutation (insert_by_key compare key_of row rows) (row ∷ rows)
  unfolding insert_by_key
  IsPermutation-insert_by_key row [] = IsPermutation-refl (row ∷ [])
  IsPermutation-insert_by_key row (first ∷ rest) =
      IsPermutation-insert_step first row rest (insert_by_key compare key_of row rest)
      (is_lt (compare (key_of first) (key_of row))) (IsPermutation-insert_by_key row rest)

  -- each row is there once
  pub IsPermutation-rows_by_key : (rows : List Row)
      → IsPermutation (rows_by_key compare key_of rows) rows
  unfolding rows_by_key
  IsPermutation-rows_by_key [] = IsPermutation-refl []
  IsPermutation-rows_by_key (row ∷ rest) =
      IsPermutation-trans (insert_by_key compare key_of row (rows_by_key compare key_of rest)) (row
      ∷ rows_by_key compare key_of rest) (row ∷ rest)
      (IsPermutation-insert_by_key row (rows_by_key compare key_of rest))
      (IsPermutation-cons row (rows_by_key compare key_of rest) rest
      (IsPermutation-rows_by_key rest))
