-- What a put and a take do at the first row of a list in key order: the two as walks along the list.
use Rattle.std.proofs.Common.{◌≡◌, true, not, List, [], ◌∷◌, ◌++◌, map, is_some, refl, sym, ◌∙◌, ap, Ordering, Less, Equal, Greater, true≢false}
use Rattle.std.specs.List.{filter, list_all}
use Rattle.std.specs.Cmp.{IsTotalOrder}
use Rattle.std.specs.Ordering.{is_lt, is_eq, is_gt, ordering_reverse}
use Rattle.clr_shelf.specs.Rows.{in_key_order, row_of, with_row, without_row}
use Rattle.clr_shelf.proofs.Lists.{filter-same, filter-none, list_all-weaker}
use Rattle.clr_shelf.proofs.Keys.{less, greater, above_back, below_chain}
use Rattle.clr_shelf.proofs.KeyOrder.{in_key_order-rest, in_key_order-first}
use Rattle.clr_shelf.proofs.Members.{none_before}

module _ {Key Row : Type 0} (compare : Key → Key → Ordering) (key_of : Row → Key) (order : IsTotalOrder compare) where
  -- the rows after one that has a key are above it
  above_tied : (key : Key) (first : Row) (rest : List Row) → in_key_order compare key_of (first ∷ rest) ≡ true → compare (key_of first) key ≡ Equal
      → list_all (λ next. is_gt (compare (key_of next) key)) rest ≡ true
  above_tied key first rest ordered tied =
      list_all-weaker (λ next. is_lt (compare (key_of first) (key_of next))) (λ next. is_gt (compare (key_of next) key))
      (λ next h. ap is_gt (order.antisymm (key_of next) key ∙ ap ordering_reverse (sym (order.congr (key_of first) key (key_of next) tied) ∙ less (compare (key_of first) (key_of next)) h)))
      rest (in_key_order-first compare key_of order first rest ordered)

  -- and those after one above a key are above it too
  above_higher : (key : Key) (first : Row) (rest : List Row) → in_key_order compare key_of (first ∷ rest) ≡ true → compare (key_of first) key ≡ Greater
      → list_all (λ next. is_gt (compare (key_of next) key)) rest ≡ true
  above_higher key first rest ordered above =
      let first_above : is_lt (compare key (key_of first)) ≡ true = above_back compare order (key_of first) key (ap is_gt above) in
      list_all-weaker (λ next. is_lt (compare (key_of first) (key_of next))) (λ next. is_gt (compare (key_of next) key))
      (λ next h. ap is_gt (order.antisymm (key_of next) key ∙ ap ordering_reverse (less (compare key (key_of next)) (below_chain compare order key (key_of first) (key_of next) first_above h))))
      rest (in_key_order-first compare key_of order first rest ordered)

  -- of rows that are all above a key none is below it
  none_lower : (key : Key) (rows : List Row) → list_all (λ next. is_gt (compare (key_of next) key)) rows ≡ true
      → filter (λ next. is_lt (compare (key_of next) key)) rows ≡ []
  none_lower key rows above =
      let below = λ (next : Row). is_lt (compare (key_of next) key) in
      filter-none below rows (list_all-weaker (λ next. is_gt (compare (key_of next) key)) (λ next. not (below next))
      (λ next h. rw (greater (compare (key_of next) key) h) refl) rows above)

  all_higher : (key : Key) (rows : List Row) → list_all (λ next. is_gt (compare (key_of next) key)) rows ≡ true
      → filter (λ next. is_gt (compare (key_of next) key)) rows ≡ rows
  all_higher key rows above = let higher = λ (next : Row). is_gt (compare (key_of next) key) in filter-same higher rows above

  all_differ : (key : Key) (rows : List Row) → list_all (λ next. is_gt (compare (key_of next) key)) rows ≡ true
      → filter (λ next. not (is_eq (compare (key_of next) key))) rows ≡ rows
  all_differ key rows above =
      let differs = λ (next : Row). not (is_eq (compare (key_of next) key)) in
      filter-same differs rows (list_all-weaker (λ next. is_gt (compare (key_of next) key)) differs
      (λ next h. rw (greater (compare (key_of next) key) h) refl) rows above)

  -- a row is put after one of a lower key, over the one of its key, and before one of a higher key
  pub with_row-after : (row first : Row) (rest : List Row) → compare (key_of first) (key_of row) ≡ Less
      → with_row compare key_of row (first ∷ rest) ≡ first ∷ with_row compare key_of row rest
  unfolding with_row
  with_row-after row first rest lower = rw lower refl

  pub with_row-over : (row first : Row) (rest : List Row) → in_key_order compare key_of (first ∷ rest) ≡ true → compare (key_of first) (key_of row) ≡ Equal
      → with_row compare key_of row (first ∷ rest) ≡ row ∷ rest
  unfolding with_row
  with_row-over row first rest ordered tied =
      let above = above_tied (key_of row) first rest ordered tied in
      rw (tied, none_lower (key_of row) rest above, all_higher (key_of row) rest above) refl

  pub with_row-before : (row first : Row) (rest : List Row) → in_key_order compare key_of (first ∷ rest) ≡ true → compare (key_of first) (key_of row) ≡ Greater
      → with_row compare key_of row (first ∷ rest) ≡ row ∷ first ∷ rest
  unfolding with_row
  with_row-before row first rest ordered higher =
      let above = above_higher (key_of row) first rest ordered higher in
      rw (higher, none_lower (key_of row) rest above, all_higher (key_of row) rest above) refl

  -- a row is taken after one of a lower key, as the one of the key, and not after one of a higher key
  pub without_row-after : (key : Key) (first : Row) (rest : List Row) → compare (key_of first) key ≡ Less
      → without_row compare key_of key (first ∷ rest) ≡ first ∷ without_row compare key_of key rest
  unfolding without_row
  without_row-after key first rest lower = rw lower refl

  pub without_row-here : (key : Key) (first : Row) (rest : List Row) → in_key_order compare key_of (first ∷ rest) ≡ true → compare (key_of first) key ≡ Equal
      → without_row compare key_of key (first ∷ rest) ≡ rest
  unfolding without_row
  without_row-here key first rest ordered tied = rw (tied, all_differ key rest (above_tied key first rest ordered tied)) refl

  pub without_row-before : (key : Key) (first : Row) (rest : List Row) → in_key_order compare key_of (first ∷ rest) ≡ true → compare (key_of first) key ≡ Greater
      → without_row compare key_of key (first ∷ rest) ≡ first ∷ rest
  unfolding without_row
  without_row-before key first rest ordered higher = rw (higher, all_differ key rest (above_higher key first rest ordered higher)) refl

  -- in key order, the rows of other keys are those below and those above
  parts_from : (key : Key) (first : Row) (rest : List Row) (o : Ordering) → compare (key_of first) key ≡ o → in_key_order compare key_of (first ∷ rest) ≡ true
      → without_row compare key_of key rest
      ≡ filter (λ other. is_lt (compare (key_of other) key)) rest ++ filter (λ other. is_gt (compare (key_of other) key)) rest
      → without_row compare key_of key (first ∷ rest)
      ≡ filter (λ other. is_lt (compare (key_of other) key)) (first ∷ rest) ++ filter (λ other. is_gt (compare (key_of other) key)) (first ∷ rest)
  parts_from key first rest Less is ordered parts = without_row-after key first rest is ∙ rw is (ap (λ (rows : List Row). first ∷ rows) parts)
  parts_from key first rest Equal is ordered parts =
      let above = above_tied key first rest ordered is in
      without_row-here key first rest ordered is ∙ rw (is, none_lower key rest above, all_higher key rest above) refl
  parts_from key first rest Greater is ordered parts =
      let above = above_higher key first rest ordered is in
      without_row-before key first rest ordered is ∙ rw (is, none_lower key rest above, all_higher key rest above) refl

  pub without_row-parts : (key : Key) (rows : List Row) → in_key_order compare key_of rows ≡ true
      → without_row compare key_of key rows
      ≡ filter (λ other. is_lt (compare (key_of other) key)) rows ++ filter (λ other. is_gt (compare (key_of other) key)) rows
  unfolding without_row
  without_row-parts key [] ordered = refl
  without_row-parts key (first ∷ rest) ordered = parts_from key first rest (compare (key_of first) key) refl ordered
      (without_row-parts key rest (in_key_order-rest compare key_of order first rest ordered))

  keys_from : ((a b : Key) → compare a b ≡ Equal → a ≡ b) → (row first : Row) (rest : List Row) (o : Ordering) → compare (key_of first) (key_of row) ≡ o
      → in_key_order compare key_of (first ∷ rest) ≡ true → is_some (row_of compare key_of (key_of row) (first ∷ rest)) ≡ true
      → (is_some (row_of compare key_of (key_of row) rest) ≡ true → map key_of (with_row compare key_of row rest) ≡ map key_of rest)
      → map key_of (with_row compare key_of row (first ∷ rest)) ≡ map key_of (first ∷ rest)
  unfolding row_of
  keys_from same_key row first rest Less is ordered there keys =
      let later = rw is at there in
      rw (with_row-after row first rest is) (ap (λ (all : List Key). key_of first ∷ all) (keys later))
  keys_from same_key row first rest Equal is ordered there keys =
      rw (with_row-over row first rest ordered is) (ap (λ (key : Key). key ∷ map key_of rest) (sym (same_key (key_of first) (key_of row) is)))
  keys_from same_key row first rest Greater is ordered there keys =
      absurd (true≢false (sym there ∙ ap is_some (none_before compare key_of order (key_of row) first rest ordered (above_back compare order (key_of first) (key_of row) (ap is_gt is)))))

  -- a row put over another keeps the keys
  pub keys-with_row : ((a b : Key) → compare a b ≡ Equal → a ≡ b) → (row : Row) (rows : List Row) → in_key_order compare key_of rows ≡ true
      → is_some (row_of compare key_of (key_of row) rows) ≡ true → map key_of (with_row compare key_of row rows) ≡ map key_of rows
  unfolding row_of
  keys-with_row same_key row [] ordered there = cc
  keys-with_row same_key row (first ∷ rest) ordered there = keys_from same_key row first rest (compare (key_of first) (key_of row)) refl ordered there
      (keys-with_row same_key row rest (in_key_order-rest compare key_of order first rest ordered))
