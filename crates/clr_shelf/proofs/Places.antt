-- What a search finds among rows in key order, and what a put or a take does there.
use Rattle.std.proofs.Common.{◌≡◌, ℕ, zero, suc, ◌<◌, ◌≤◌, true, false, List, [], ◌∷◌, take, drop, set, length, get_or, Option, Some, None, Result, Ok, Err, IfOk, IfErr, add-one, refl, sym, ◌∙◌, ap}
use Rattle.std.proofs.Common.{subst, arith, is_lt, is_eq, is_gt, Ordering, Less, Equal, Greater}
use Rattle.std.specs.List.{filter, insert, remove, Contains, AllWithin, HoldsAt}
use Rattle.std.specs.List.Sorted.{IsSortedBy, IsSearchInRange, IsBinarySearchResult}
use Rattle.std.specs.Cmp.{IsTotalOrder}
use Rattle.std.proofs.lemmas.Cmp.{alike_right}
use Rattle.std.proofs.lemmas.List.Elements.{Contains-get_or}
use Rattle.std.proofs.lemmas.List.Sorted.{searchable_from_sorted}
use Rattle.clr_shelf.specs.Rows.{in_key_order, row_of, with_row, without_row}
use Rattle.clr_shelf.specs.Places.{IsPlaceOf, IsGapFor}
use Rattle.clr_shelf.proofs.Lists.{list_all-contains}
use Rattle.clr_shelf.proofs.Keys.{equal, less, below_not_above}
use Rattle.clr_shelf.proofs.FirstRow.{with_row-after, with_row-over, without_row-after, without_row-here}
use Rattle.clr_shelf.proofs.Reading.{row_of-tied}
use Rattle.clr_shelf.proofs.KeyOrder.{in_key_order-rest, in_key_order-first}
use Rattle.clr_shelf.proofs.Members.{row_of-member, member-row_of}

module _ {Key Row : Type 0} (compare : Key → Key → Ordering) (key_of : Row → Key) (order : IsTotalOrder compare) where
  -- the first row is below a key that a later one has
  first_below : (key : Key) (first : Row) (rest : List Row) (place : ℕ) → in_key_order compare key_of (first ∷ rest) ≡ true → place < length rest
      → HoldsAt (λ row. compare (key_of row) key ≡ Equal) rest place → compare (key_of first) key ≡ Less
  first_below key first rest place ordered in_range has_key =
      let row = get_or rest place first in
      let below = list_all-contains (λ next. is_lt (compare (key_of first) (key_of next))) rest row (in_key_order-first compare key_of order first rest ordered)
      (Contains-get_or rest place first in_range) in
      sym (alike_right order (key_of row) key (key_of first) (has_key first)) ∙ less (compare (key_of first) (key_of row)) below

  -- a row written over the row of its key is put
  pub set_at : (row : Row) (rows : List Row) (place : ℕ) → in_key_order compare key_of rows ≡ true → place < length rows
      → HoldsAt (λ other. compare (key_of other) (key_of row) ≡ Equal) rows place → set rows place row ≡ with_row compare key_of row rows
  set_at row [] place ordered in_range has_key = absurd (omega arith)
  set_at row (first ∷ rest) zero ordered in_range has_key = sym (with_row-over compare key_of order row first rest ordered (has_key first))
  set_at row (first ∷ rest) (suc place) ordered in_range has_key =
      let within : place < length rest = omega arith in
      ap (λ (rows : List Row). first ∷ rows) (set_at row rest place (in_key_order-rest compare key_of order first rest ordered) within has_key)
      ∙ sym (with_row-after compare key_of order row first rest (first_below (key_of row) first rest place ordered within has_key))

  -- the list without the row of a key
  pub remove_at : (key : Key) (rows : List Row) (place : ℕ) → in_key_order compare key_of rows ≡ true → place < length rows
      → HoldsAt (λ row. compare (key_of row) key ≡ Equal) rows place → remove rows place ≡ without_row compare key_of key rows
  remove_at key [] place ordered in_range has_key = absurd (omega arith)
  remove_at key (first ∷ rest) zero ordered in_range has_key = sym (without_row-here compare key_of order key first rest ordered (has_key first))
  remove_at key (first ∷ rest) (suc place) ordered in_range has_key =
      let within : place < length rest = omega arith in
      ap (λ (rows : List Row). first ∷ rows) (remove_at key rest place (in_key_order-rest compare key_of order first rest ordered) within has_key)
      ∙ sym (without_row-after compare key_of order key first rest (first_below key first rest place ordered within has_key))

  -- the rows before a gap are those of lower keys, and those from it on those of higher keys
  parted : (key : Key) (rows : List Row) (place : ℕ) → place ≤ length rows
      → AllWithin (λ row. compare (key_of row) key ≡ Less) rows 0 place → AllWithin (λ row. compare (key_of row) key ≡ Greater) rows place (length rows)
      → (filter (λ row. is_lt (compare (key_of row) key)) rows ≡ take place rows) × (filter (λ row. is_gt (compare (key_of row) key)) rows ≡ drop place rows)
  parted key [] zero in_range before after = (refl, refl)
  parted key [] (suc place) in_range before after = absurd (omega arith)
  parted key (first ∷ rest) zero in_range before after =
      let sides = parted key rest zero (omega arith) (λ k d le lt. absurd (omega arith)) (λ k d le lt. after (suc k) d (omega arith) (omega arith)) in
      rw (after 0 first (omega arith) (omega arith)) (sides.0, ap (λ (rows : List Row). first ∷ rows) sides.1)
  parted key (first ∷ rest) (suc place) in_range before after =
      let sides = parted key rest place (omega arith) (λ k d le lt. before (suc k) d (omega arith) (omega arith)) (λ k d le lt. after (suc k) d (omega arith) (omega arith)) in
      rw (before 0 first (omega arith) (omega arith)) (ap (λ (rows : List Row). first ∷ rows) sides.0, sides.1)

  -- a row put into the gap for its key
  pub insert_in_gap : (row : Row) (rows : List Row) (place : ℕ) → IsGapFor compare key_of (key_of row) rows place → insert rows place row ≡ with_row compare key_of row rows
  unfolding with_row
  insert_in_gap row rows place gap =
      let sides = parted (key_of row) rows place gap.in_range gap.lower_before gap.higher_after in
      rw (sides.0, sides.1) refl

  -- what is read at a key that has a place
  pub row_at : (key : Key) (rows : List Row) (place : ℕ) (row : Row) → in_key_order compare key_of rows ≡ true → IsPlaceOf compare key_of key rows place
      → row ≡ get_or rows place row → row_of compare key_of key rows ≡ Some row
  row_at key rows place row ordered here read =
      let member : Contains rows row = (place, here.in_range, sym read) in
      let tied : compare (key_of row) key ≡ Equal = subst (λ (x : Row). compare (key_of x) key ≡ Equal) (sym read) (here.has_key row) in
      sym (row_of-tied compare key_of order (key_of row) key rows (ap is_eq tied)) ∙ row_of-member compare key_of order row rows ordered member

  not_read : (key : Key) (rows : List Row) (place : ℕ) → IsGapFor compare key_of key rows place
      → (found : Option Row) → row_of compare key_of key rows ≡ found → found ≡ None
  not_read key rows place gap None is = refl
  not_read key rows place gap (Some row) is =
      let read = member-row_of compare key_of order key row rows is in
      let k = read.0.0 in
      let here : get_or rows k row ≡ row = read.0.2 in
      let within : k < length rows = read.0.1 in
      let tied : compare (key_of (get_or rows k row)) key ≡ Equal = rw here (equal (compare (key_of row) key) read.1) in
      let low : k < place → ⊥ = λ lt. let below = gap.lower_before k row (omega arith) lt in cc in
      let high : place ≤ k → ⊥ = λ le. let above = gap.higher_after k row le within in cc in
      absurd (grind (arith, low, high))

  -- nothing is read at a key that has a gap
  pub none_in_gap : (key : Key) (rows : List Row) (place : ℕ) → IsGapFor compare key_of key rows place → row_of compare key_of key rows ≡ None
  none_in_gap key rows place gap = not_read key rows place gap (row_of compare key_of key rows) refl

  next_above : (rows : List Row) → in_key_order compare key_of rows ≡ true → (k : ℕ) (d : Row) → suc k < length rows
      → is_lt (compare (key_of (get_or rows (suc k) d)) (key_of (get_or rows k d))) ≡ false
  next_above [] ordered k d within = absurd (omega arith)
  next_above (first ∷ rest) ordered zero d within =
      below_not_above compare order (key_of first) (key_of (get_or rest 0 d))
      (list_all-contains (λ next. is_lt (compare (key_of first) (key_of next))) rest (get_or rest 0 d) (in_key_order-first compare key_of order first rest ordered)
      (Contains-get_or rest 0 d (omega arith)))
  next_above (first ∷ rest) ordered (suc k) d within = next_above rest (in_key_order-rest compare key_of order first rest ordered) k d (omega arith)

  -- keys in order do not fall
  pub sorted : (rows : List Row) → in_key_order compare key_of rows ≡ true → IsSortedBy (λ a b. is_lt (compare (key_of a) (key_of b))) rows
  sorted rows ordered k d le lt = rw add-one (next_above rows ordered k d (rw add-one at lt))

  -- a binary search ends at the place of the key, or at the gap for it
  pub searched : (key : Key) (rows : List Row) (r : Result ℕ ℕ) → in_key_order compare key_of rows ≡ true → IsSearchInRange r (length rows)
      → IsBinarySearchResult (λ row. compare (key_of row) key) rows r
      → record { found : IfOk r (IsPlaceOf compare key_of key rows); absent : IfErr r (IsGapFor compare key_of key rows) }
  searched key rows (Ok place) ordered in_range has_key = record { found = record { in_range = in_range; has_key = has_key }; absent = tt }
  searched key rows (Err place) ordered in_range parted =
      let sides = parted (searchable_from_sorted order key_of rows key (sorted rows ordered)) in
      record { found = tt; absent = record { in_range = in_range; lower_before = sides.0; higher_after = sides.1 } }
