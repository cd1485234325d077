-- What is read at a key after a row is put or taken.
use Rattle.std.proofs.Common.{◌≡◌, Bool, true, false, cond, not, List, [], ◌∷◌, Option, Some, None, refl, sym, ◌∙◌, ap, find, filter, is_lt, is_eq, is_gt, Ordering, Less, Equal, Greater, true≢false}
use Rattle.std.specs.Cmp.{IsTotalOrder}
use Rattle.std.specs.Option.{option_or}
use Rattle.std.proofs.lemmas.Cmp.{tied_itself, tied_back, alike_right}
use Rattle.std.proofs.lemmas.List.Folds.{find-append}
use Rattle.clr_shelf.specs.Rows.{row_of, with_row, without_row}
use Rattle.clr_shelf.proofs.Lists.{find-filter_wider, find-filter_apart, list_all-from_none, filter-same}
use Rattle.clr_shelf.proofs.Keys.{equal, apart_back}

or_none : {X : Type 0} (o : Option X) → option_or o None ≡ o
or_none None = refl
or_none (Some x) = refl

module _ {Key Row : Type 0} (compare : Key → Key → Ordering) (key_of : Row → Key) (order : IsTotalOrder compare) where
  -- a row that ties with a key compares to every key as that key does
  same_side : (test : Ordering → Bool) (key : Key) (row other : Row) (o : Ordering) → compare key (key_of row) ≡ o
      → is_eq (compare (key_of other) key) ≡ true → test (compare (key_of other) (key_of row)) ≡ test o
  same_side test key row other o is tied = ap test (order.congr (key_of other) key (key_of row) (equal (compare (key_of other) key) tied) ∙ is)

  -- keys that tie have one row
  pub row_of-tied : (a b : Key) (rows : List Row) → is_eq (compare a b) ≡ true → row_of compare key_of a rows ≡ row_of compare key_of b rows
  unfolding row_of
  row_of-tied a b [] tied = refl
  row_of-tied a b (row ∷ rest) tied =
      let alike : compare (key_of row) a ≡ compare (key_of row) b = alike_right order a b (key_of row) (equal (compare a b) tied) in
      rw alike (ap (λ found. cond (is_eq (compare (key_of row) b)) (Some row) found) (row_of-tied a b rest tied))

  -- a row that was put is read back
  pub row_of-with_row : (row : Row) (rows : List Row) → row_of compare key_of (key_of row) (with_row compare key_of row rows) ≡ Some row
  unfolding row_of with_row
  row_of-with_row row rows =
      let found = λ (other : Row). is_eq (compare (key_of other) (key_of row)) in
      let below = λ (other : Row). is_lt (compare (key_of other) (key_of row)) in
      let none : find found (filter below rows) ≡ None = find-filter_apart found below (λ other h. rw (equal (compare (key_of other) (key_of row)) h) refl) rows in
      let same : compare (key_of row) (key_of row) ≡ Equal = tied_itself order (key_of row) in
      rw (find-append found, none, same) refl

  row_of-with_side : (key : Key) (row : Row) (rows : List Row) (o : Ordering) → compare key (key_of row) ≡ o → is_eq (compare (key_of row) key) ≡ false
      → row_of compare key_of key (with_row compare key_of row rows) ≡ row_of compare key_of key rows
  unfolding row_of with_row
  row_of-with_side key row rows Less is differs =
      let found = λ (other : Row). is_eq (compare (key_of other) key) in
      let below = λ (other : Row). is_lt (compare (key_of other) (key_of row)) in
      let above = λ (other : Row). is_gt (compare (key_of other) (key_of row)) in
      let kept : find found (filter below rows) ≡ find found rows = find-filter_wider found below (λ other tied. same_side is_lt key row other Less is tied) rows in
      let none : find found (filter above rows) ≡ None = find-filter_apart found above (λ other tied. same_side is_gt key row other Less is tied) rows in
      rw (find-append found, kept, differs, none) (or_none (find found rows))
  row_of-with_side key row rows Equal is differs = absurd (true≢false (sym (ap is_eq (tied_back order key (key_of row) is)) ∙ differs))
  row_of-with_side key row rows Greater is differs =
      let found = λ (other : Row). is_eq (compare (key_of other) key) in
      let below = λ (other : Row). is_lt (compare (key_of other) (key_of row)) in
      let above = λ (other : Row). is_gt (compare (key_of other) (key_of row)) in
      let none : find found (filter below rows) ≡ None = find-filter_apart found below (λ other tied. same_side is_lt key row other Greater is tied) rows in
      let kept : find found (filter above rows) ≡ find found rows = find-filter_wider found above (λ other tied. same_side is_gt key row other Greater is tied) rows in
      rw (find-append found, none, differs, kept) refl

  -- and the rows of other keys stay
  pub row_of-with_other : (key : Key) (row : Row) (rows : List Row) → is_eq (compare (key_of row) key) ≡ false
      → row_of compare key_of key (with_row compare key_of row rows) ≡ row_of compare key_of key rows
  row_of-with_other key row rows differs = row_of-with_side key row rows (compare key (key_of row)) refl differs

  -- both at once: what is read at a key after a row is put
  row_of-with_tested : (key : Key) (row : Row) (rows : List Row) (tied : Bool) → is_eq (compare (key_of row) key) ≡ tied
      → row_of compare key_of key (with_row compare key_of row rows) ≡ cond tied (Some row) (row_of compare key_of key rows)
  row_of-with_tested key row rows true is = sym (row_of-tied (key_of row) key (with_row compare key_of row rows) is) ∙ row_of-with_row row rows
  row_of-with_tested key row rows false is = row_of-with_other key row rows is

  pub row_of-with : (key : Key) (row : Row) (rows : List Row)
      → row_of compare key_of key (with_row compare key_of row rows) ≡ cond (is_eq (compare (key_of row) key)) (Some row) (row_of compare key_of key rows)
  row_of-with key row rows = row_of-with_tested key row rows (is_eq (compare (key_of row) key)) refl

  -- a row that was taken is no longer read
  pub row_of-without_row : (key : Key) (rows : List Row) → row_of compare key_of key (without_row compare key_of key rows) ≡ None
  unfolding row_of without_row
  row_of-without_row key rows =
      let found = λ (row : Row). is_eq (compare (key_of row) key) in
      find-filter_apart found (λ row. not (found row)) (λ row tied. rw tied refl) rows

  -- and the rows of other keys stay
  pub row_of-without_other : (key taken : Key) (rows : List Row) → is_eq (compare taken key) ≡ false
      → row_of compare key_of key (without_row compare key_of taken rows) ≡ row_of compare key_of key rows
  unfolding row_of without_row
  row_of-without_other key taken rows differs =
      let found = λ (row : Row). is_eq (compare (key_of row) key) in
      find-filter_wider found (λ row. not (is_eq (compare (key_of row) taken)))
      (λ row tied. ap not (ap is_eq (order.congr (key_of row) key taken (equal (compare (key_of row) key) tied)) ∙ apart_back compare order taken key differs)) rows

  row_of-without_tested : (key taken : Key) (rows : List Row) (tied : Bool) → is_eq (compare taken key) ≡ tied
      → row_of compare key_of key (without_row compare key_of taken rows) ≡ cond tied None (row_of compare key_of key rows)
  row_of-without_tested key taken rows true is = sym (row_of-tied taken key (without_row compare key_of taken rows) is) ∙ row_of-without_row taken rows
  row_of-without_tested key taken rows false is = row_of-without_other key taken rows is

  -- both at once: what is read at a key after one is taken
  pub row_of-without : (key taken : Key) (rows : List Row)
      → row_of compare key_of key (without_row compare key_of taken rows) ≡ cond (is_eq (compare taken key)) None (row_of compare key_of key rows)
  row_of-without key taken rows = row_of-without_tested key taken rows (is_eq (compare taken key)) refl

  -- taking a key that has no row changes nothing
  pub without_row-missing : (key : Key) (rows : List Row) → row_of compare key_of key rows ≡ None → without_row compare key_of key rows ≡ rows
  unfolding row_of without_row
  without_row-missing key rows none =
      let found = λ (row : Row). is_eq (compare (key_of row) key) in
      filter-same (λ row. not (found row)) rows (list_all-from_none found rows none)
