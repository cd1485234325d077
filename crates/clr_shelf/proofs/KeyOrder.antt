-- Putting a row, taking one and a filter keep the order of keys.
use Rattle.std.proofs.Common.{◌≡◌, Bool, true, not, List, [], ◌∷◌, ◌++◌, refl, arith, is_lt, is_eq, is_gt, Ordering}
use Rattle.std.specs.List.{filter, list_all}
use Rattle.std.specs.Cmp.{IsTotalOrder}
use Rattle.std.proofs.lemmas.Grind.{common_steps}
use Rattle.std.proofs.lemmas.List.Folds.{list_all-append}
use Rattle.clr_shelf.specs.Rows.{in_key_order, with_row, without_row}
use Rattle.clr_shelf.proofs.Lists.{list_all-filter, list_all-weaker, list_all-filtered}
use Rattle.clr_shelf.proofs.Keys.{above_back, below_chain}

module _ {Key Row : Type 0} (compare : Key → Key → Ordering) (key_of : Row → Key) (order : IsTotalOrder compare) where
  -- the rows after the first are in order
  pub in_key_order-rest : (row : Row) (rest : List Row) → in_key_order compare key_of (row ∷ rest) ≡ true → in_key_order compare key_of rest ≡ true
  in_key_order-rest row rest ordered = grind (arith, common_steps)

  -- and above it
  pub in_key_order-first : (row : Row) (rest : List Row) → in_key_order compare key_of (row ∷ rest) ≡ true
      → list_all (λ next. is_lt (compare (key_of row) (key_of next))) rest ≡ true
  in_key_order-first row rest ordered = grind (arith, common_steps)

  -- a filter keeps the order
  pub in_key_order-filter : (p : Row → Bool) (rows : List Row) → in_key_order compare key_of rows ≡ true → in_key_order compare key_of (filter p rows) ≡ true
  in_key_order-filter p [] ordered = refl
  in_key_order-filter p (row ∷ rest) ordered =
      let above = λ (next : Row). is_lt (compare (key_of row) (key_of next)) in
      grind (arith, common_steps, in_key_order-filter p rest, list_all-filter above p rest)

  -- a row between those below it and those above it
  in_key_order-between : (row : Row) (lower higher : List Row) → in_key_order compare key_of lower ≡ true → in_key_order compare key_of higher ≡ true
      → list_all (λ other. is_lt (compare (key_of other) (key_of row))) lower ≡ true
      → list_all (λ other. is_lt (compare (key_of row) (key_of other))) higher ≡ true
      → in_key_order compare key_of (lower ++ row ∷ higher) ≡ true
  in_key_order-between row [] higher low high below above = grind (arith, common_steps)
  in_key_order-between row (first ∷ lower) higher low high below above =
      let after = λ (other : Row). is_lt (compare (key_of first) (key_of other)) in
      let first_below : after row ≡ true = grind (arith, common_steps) in
      let all_above : list_all after higher ≡ true = list_all-weaker (λ other. is_lt (compare (key_of row) (key_of other))) after
      (λ other h. below_chain compare order (key_of first) (key_of row) (key_of other) first_below h) higher above in
      let rest : in_key_order compare key_of (lower ++ row ∷ higher) ≡ true =
      in_key_order-between row lower higher (in_key_order-rest first lower low) high (grind (arith, common_steps)) above in
      let ahead : list_all after lower ≡ true = in_key_order-first first lower low in
      rw (list_all-append after lower (row ∷ higher), ahead, first_below, all_above, rest) refl

  -- putting a row keeps the order
  pub in_key_order-with_row : (row : Row) (rows : List Row) → in_key_order compare key_of rows ≡ true
      → in_key_order compare key_of (with_row compare key_of row rows) ≡ true
  unfolding with_row
  in_key_order-with_row row rows ordered =
      let below = λ (other : Row). is_lt (compare (key_of other) (key_of row)) in
      let above = λ (other : Row). is_gt (compare (key_of other) (key_of row)) in
      let after = λ (other : Row). is_lt (compare (key_of row) (key_of other)) in
      in_key_order-between row (filter below rows) (filter above rows)
      (in_key_order-filter below rows ordered) (in_key_order-filter above rows ordered)
      (list_all-filtered below below (λ _ h. h) rows)
      (list_all-filtered after above (λ other h. above_back compare order (key_of other) (key_of row) h) rows)

  -- taking a row keeps the order
  pub in_key_order-without_row : (key : Key) (rows : List Row) → in_key_order compare key_of rows ≡ true
      → in_key_order compare key_of (without_row compare key_of key rows) ≡ true
  unfolding without_row
  in_key_order-without_row key rows ordered = in_key_order-filter (λ row. not (is_eq (compare (key_of row) key))) rows ordered
