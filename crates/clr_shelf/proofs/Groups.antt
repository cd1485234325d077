-- What a put and a take do to what holds of every row, and to the rows of a group.
use Rattle.std.proofs.Common.{◌≡◌, Bool, true, false, not, List, [], ◌∷◌, None, refl, sym, ◌∙◌, ap, filter, All, is_lt, is_eq, is_gt, Ordering, true≢false}
use Rattle.std.specs.Cmp.{IsTotalOrder}
use Rattle.std.proofs.lemmas.Cmp.{tied_itself}
use Rattle.std.proofs.lemmas.List.Elements.{filter-append, All-append, All-cons, All-filter}
use Rattle.std.proofs.lemmas.Map.Entries.{option_filter}
use Rattle.clr_shelf.specs.Rows.{in_key_order, row_of, with_row, without_row}
use Rattle.clr_shelf.proofs.Lists.{find-filter_wider, filter-filter_comm, filter-filter_wider, list_all-filter}
use Rattle.clr_shelf.proofs.Reading.{row_of-tied}
use Rattle.clr_shelf.proofs.KeyOrder.{in_key_order-rest, in_key_order-first, in_key_order-filter}
use Rattle.clr_shelf.proofs.Members.{none_below}
use Rattle.clr_shelf.proofs.FirstRow.{without_row-parts}

-- what passes one test fails another that excludes it
kept : (tied inside : Bool) → (tied ≡ true → inside ≡ false) → inside ≡ true → not tied ≡ true
kept true inside far is = absurd (true≢false (sym is ∙ far refl))
kept false inside far is = refl

module _ {Key Row : Type 0} (compare : Key → Key → Ordering) (key_of : Row → Key) (order : IsTotalOrder compare) where
  -- ---- what holds of every row

  pub All-with_row : (P : Row → Type 0) (row : Row) (rows : List Row) → P row → All P rows → All P (with_row compare key_of row rows)
  unfolding with_row
  All-with_row P row rows here all =
      let below = λ (other : Row). is_lt (compare (key_of other) (key_of row)) in
      let above = λ (other : Row). is_gt (compare (key_of other) (key_of row)) in
      All-append P (filter below rows) (row ∷ filter above rows) (All-filter below P rows all)
      (All-cons P row (filter above rows) here (All-filter above P rows all))

  pub All-without_row : (P : Row → Type 0) (key : Key) (rows : List Row) → All P rows → All P (without_row compare key_of key rows)
  unfolding without_row
  All-without_row P key rows all = All-filter (λ row. not (is_eq (compare (key_of row) key))) P rows all

  -- ---- the rows of a group

  -- putting a row of the group puts it among the rows of the group
  pub filter-with_inside : (p : Row → Bool) (row : Row) (rows : List Row) → p row ≡ true
      → filter p (with_row compare key_of row rows) ≡ with_row compare key_of row (filter p rows)
  unfolding with_row
  filter-with_inside p row rows inside =
      let below = λ (other : Row). is_lt (compare (key_of other) (key_of row)) in
      let above = λ (other : Row). is_gt (compare (key_of other) (key_of row)) in
      rw (filter-append p (filter below rows) (row ∷ filter above rows), inside, filter-filter_comm p below rows, filter-filter_comm p above rows) refl

  -- putting a row outside the group takes the row of its key out of the group
  pub filter-with_outside : (p : Row → Bool) (row : Row) (rows : List Row) → in_key_order compare key_of rows ≡ true → p row ≡ false
      → filter p (with_row compare key_of row rows) ≡ without_row compare key_of (key_of row) (filter p rows)
  unfolding with_row
  filter-with_outside p row rows ordered outside =
      let below = λ (other : Row). is_lt (compare (key_of other) (key_of row)) in
      let above = λ (other : Row). is_gt (compare (key_of other) (key_of row)) in
      rw (filter-append p (filter below rows) (row ∷ filter above rows), outside, filter-filter_comm p below rows, filter-filter_comm p above rows)
      (sym (without_row-parts compare key_of order (key_of row) (filter p rows) (in_key_order-filter compare key_of order p rows ordered)))

  -- taking a row takes it out of the group
  pub filter-without_row : (p : Row → Bool) (key : Key) (rows : List Row)
      → filter p (without_row compare key_of key rows) ≡ without_row compare key_of key (filter p rows)
  unfolding without_row
  filter-without_row p key rows = filter-filter_comm p (λ row. not (is_eq (compare (key_of row) key))) rows

  -- where no row of the key can be in the group, it stays
  pub filter-without_far : (p : Row → Bool) (key : Key) (rows : List Row) → ((row : Row) → is_eq (compare (key_of row) key) ≡ true → p row ≡ false)
      → filter p (without_row compare key_of key rows) ≡ filter p rows
  unfolding without_row
  filter-without_far p key rows far = filter-filter_wider p (λ row. not (is_eq (compare (key_of row) key)))
      (λ row inside. kept (is_eq (compare (key_of row) key)) (p row) (far row) inside) rows

  pub filter-with_far : (p : Row → Bool) (row : Row) (rows : List Row) → in_key_order compare key_of rows ≡ true
      → ((other : Row) → is_eq (compare (key_of other) (key_of row)) ≡ true → p other ≡ false)
      → filter p (with_row compare key_of row rows) ≡ filter p rows
  filter-with_far p row rows ordered far =
      filter-with_outside p row rows ordered (far row (ap is_eq (tied_itself order (key_of row))))
      ∙ sym (filter-without_row p (key_of row) rows) ∙ filter-without_far p (key_of row) rows far

  -- ---- reading among the rows of a group

  -- where each row of the key is in the group, it is read there as in the whole list
  pub row_of-filter_inside : (p : Row → Bool) (key : Key) (rows : List Row) → ((row : Row) → is_eq (compare (key_of row) key) ≡ true → p row ≡ true)
      → row_of compare key_of key (filter p rows) ≡ row_of compare key_of key rows
  unfolding row_of
  row_of-filter_inside p key rows inside = find-filter_wider (λ row. is_eq (compare (key_of row) key)) p inside rows

  -- after the row of a key none is read at the key
  none_after : (key : Key) (first : Row) (rest : List Row) → in_key_order compare key_of (first ∷ rest) ≡ true → is_eq (compare (key_of first) key) ≡ true
      → (p : Row → Bool) → row_of compare key_of key (filter p rest) ≡ None
  none_after key first rest ordered tied p =
      let above = λ (next : Row). is_lt (compare (key_of first) (key_of next)) in
      sym (row_of-tied compare key_of order (key_of first) key (filter p rest) tied)
      ∙ none_below compare key_of order (key_of first) (filter p rest) (list_all-filter above p rest (in_key_order-first compare key_of order first rest ordered))

  filter_step : (p : Row → Bool) (key : Key) (first : Row) (rest : List Row) (tied inside : Bool)
      → is_eq (compare (key_of first) key) ≡ tied → p first ≡ inside → in_key_order compare key_of (first ∷ rest) ≡ true
      → row_of compare key_of key (filter p rest) ≡ option_filter p (row_of compare key_of key rest)
      → row_of compare key_of key (filter p (first ∷ rest)) ≡ option_filter p (row_of compare key_of key (first ∷ rest))
  unfolding row_of
  filter_step p key first rest true true ties is_in ordered rest_read = rw (ties, is_in, ties) refl
  filter_step p key first rest true false ties is_out ordered rest_read = rw (ties, is_out) (none_after key first rest ordered ties p)
  filter_step p key first rest false true differs is_in ordered rest_read = rw (differs, is_in, differs) rest_read
  filter_step p key first rest false false differs is_out ordered rest_read = rw (differs, is_out) rest_read

  none_of_none : (p : Row → Bool) (key : Key) → row_of compare key_of key [] ≡ option_filter p (row_of compare key_of key [])
  unfolding row_of
  none_of_none p key = refl

  -- in key order, what is read there is the row of the key if it is in the group
  pub row_of-filter : (p : Row → Bool) (key : Key) (rows : List Row) → in_key_order compare key_of rows ≡ true
      → row_of compare key_of key (filter p rows) ≡ option_filter p (row_of compare key_of key rows)
  row_of-filter p key [] ordered = none_of_none p key
  row_of-filter p key (first ∷ rest) ordered = filter_step p key first rest (is_eq (compare (key_of first) key)) (p first) refl refl ordered
      (row_of-filter p key rest (in_key_order-rest compare key_of order first rest ordered))
