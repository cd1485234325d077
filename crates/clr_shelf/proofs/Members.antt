-- In key order the row at a key is the only row that has it.
use Rattle.std.proofs.Common.{◌≡◌, Bool, true, false, cond, List, [], ◌∷◌, Some, None, ◌⊎◌, inl, inr, ⊎_elim, refl, sym, ◌∙◌, ap, subst, arith, is_lt, is_eq, Ordering}
use Rattle.std.specs.List.{list_all, Contains}
use Rattle.std.specs.Cmp.{IsTotalOrder}
use Rattle.std.proofs.lemmas.Grind.{common_steps}
use Rattle.std.proofs.lemmas.Cmp.{tied_itself}
use Rattle.std.proofs.lemmas.Option.{same_Some, none-some}
use Rattle.clr_shelf.specs.Rows.{in_key_order, row_of, with_row, without_row}
use Rattle.clr_shelf.proofs.Keys.{less, apart_back, below_chain}
use Rattle.clr_shelf.proofs.Lists.{list_all-weaker, Contains-cases, Contains-here, Contains-later, list_all-contains}
use Rattle.clr_shelf.proofs.Reading.{row_of-with_row, row_of-with_other, row_of-with, row_of-without_other, row_of-without}
use Rattle.clr_shelf.proofs.KeyOrder.{in_key_order-rest, in_key_order-first, in_key_order-with_row, in_key_order-without_row}

module _ {Key Row : Type 0} (compare : Key → Key → Ordering) (key_of : Row → Key) (order : IsTotalOrder compare) where
  -- a row of the list is the one read at its key
  pub row_of-member : (row : Row) (rows : List Row) → in_key_order compare key_of rows ≡ true → Contains rows row
      → row_of compare key_of (key_of row) rows ≡ Some row
  unfolding row_of
  row_of-member row [] ordered member = absurd (grind arith)
  row_of-member row (first ∷ rest) ordered member =
      ⊎_elim
      (λ here. rw (← here, tied_itself order (key_of first)) refl)
      (λ later. let below : is_lt (compare (key_of first) (key_of row)) ≡ true =
      list_all-contains (λ next. is_lt (compare (key_of first) (key_of next))) rest row (in_key_order-first compare key_of order first rest ordered) later in
      rw (less (compare (key_of first) (key_of row)) below) (row_of-member row rest (in_key_order-rest compare key_of order first rest ordered) later))
      (Contains-cases first row rest member)

  -- and what is read at a key is a row of the list that has it
  pub member-row_of : (key : Key) (row : Row) (rows : List Row) → row_of compare key_of key rows ≡ Some row
      → Contains rows row × (is_eq (compare (key_of row) key) ≡ true)
  unfolding row_of
  member-row_of key row [] read = absurd (grind arith)
  member-row_of key row (first ∷ rest) read =
      let by_test : (tied : Bool) → is_eq (compare (key_of first) key) ≡ tied → cond tied (Some first) (row_of compare key_of key rest) ≡ Some row
      → Contains (first ∷ rest) row × (is_eq (compare (key_of row) key) ≡ true) = λ tied is. elim tied as (λ v. is_eq (compare (key_of first) key) ≡ v → cond v (Some first) (row_of compare key_of key rest) ≡ Some row
      → Contains (first ∷ rest) row × (is_eq (compare (key_of row) key) ≡ true)) [
        | true ↦ λ ties found. let same : first ≡ row = same_Some first row found in (subst (λ (x : Row). Contains (first ∷ rest) x) same (Contains-here first rest), rw (← same) ties)
        | false ↦ λ _ found. let later = member-row_of key row rest found in (Contains-later first row rest later.0, later.1)
      ] is in
      by_test (is_eq (compare (key_of first) key)) refl read

  -- no row of the list is read at a key below all
  pub none_below : (key : Key) (rows : List Row) → list_all (λ next. is_lt (compare key (key_of next))) rows ≡ true → row_of compare key_of key rows ≡ None
  unfolding row_of
  none_below key [] above = refl
  none_below key (first ∷ rest) above =
      let below : is_lt (compare key (key_of first)) ≡ true = grind (arith, common_steps) in
      let differs : is_eq (compare (key_of first) key) ≡ false = apart_back compare order key (key_of first) (ap is_eq (less (compare key (key_of first)) below)) in
      rw differs (none_below key rest (grind (arith, common_steps)))

  -- no row is read at a key below the first
  pub none_before : (key : Key) (first : Row) (rest : List Row) → in_key_order compare key_of (first ∷ rest) ≡ true → is_lt (compare key (key_of first)) ≡ true
      → row_of compare key_of key (first ∷ rest) ≡ None
  none_before key first rest ordered below =
      let after : list_all (λ next. is_lt (compare key (key_of next))) rest ≡ true =
      list_all-weaker (λ next. is_lt (compare (key_of first) (key_of next))) (λ next. is_lt (compare key (key_of next)))
      (λ next h. below_chain compare order key (key_of first) (key_of next) below h) rest (in_key_order-first compare key_of order first rest ordered) in
      none_below key (first ∷ rest) (rw (below, after) refl)

  member_from : (tied : Bool) (row other : Row) (rows : List Row) → cond tied (Some row) (row_of compare key_of (key_of other) rows) ≡ Some other
      → (row ≡ other) ⊎ Contains rows other
  member_from true row other rows read = inl (same_Some row other read)
  member_from false row other rows read = inr (member-row_of (key_of other) other rows read).0

  -- the rows of a list after one is put: it, and those that were there
  pub member-with_row : (row other : Row) (rows : List Row) → in_key_order compare key_of rows ≡ true
      → Contains (with_row compare key_of row rows) other → (row ≡ other) ⊎ Contains rows other
  member-with_row row other rows ordered member =
      let read = row_of-member other (with_row compare key_of row rows) (in_key_order-with_row compare key_of order row rows ordered) member in
      member_from (is_eq (compare (key_of row) (key_of other))) row other rows (sym (row_of-with compare key_of order (key_of other) row rows) ∙ read)

  -- the row that is put is there
  pub Contains-with_row : (row : Row) (rows : List Row) → Contains (with_row compare key_of row rows) row
  Contains-with_row row rows = (member-row_of (key_of row) row (with_row compare key_of row rows) (row_of-with_row compare key_of order row rows)).0

  -- and so are those of other keys
  pub Contains-with_other : (row other : Row) (rows : List Row) → in_key_order compare key_of rows ≡ true → is_eq (compare (key_of row) (key_of other)) ≡ false
      → Contains rows other → Contains (with_row compare key_of row rows) other
  Contains-with_other row other rows ordered differs member =
      (member-row_of (key_of other) other (with_row compare key_of row rows)
      (row_of-with_other compare key_of order (key_of other) row rows differs ∙ row_of-member other rows ordered member)).0

  left_from : (tied : Bool) (other : Row) (rows : List Row) → cond tied None (row_of compare key_of (key_of other) rows) ≡ Some other → Contains rows other
  left_from true other rows read = absurd (none-some other read)
  left_from false other rows read = (member-row_of (key_of other) other rows read).0

  -- the rows of a list after one is taken: those that were there
  pub member-without_row : (key : Key) (other : Row) (rows : List Row) → in_key_order compare key_of rows ≡ true
      → Contains (without_row compare key_of key rows) other → Contains rows other
  member-without_row key other rows ordered member =
      let read = row_of-member other (without_row compare key_of key rows) (in_key_order-without_row compare key_of order key rows ordered) member in
      left_from (is_eq (compare key (key_of other))) other rows (sym (row_of-without compare key_of order (key_of other) key rows) ∙ read)

  -- of other keys
  pub Contains-without_other : (key : Key) (other : Row) (rows : List Row) → in_key_order compare key_of rows ≡ true → is_eq (compare key (key_of other)) ≡ false
      → Contains rows other → Contains (without_row compare key_of key rows) other
  Contains-without_other key other rows ordered differs member =
      (member-row_of (key_of other) other (without_row compare key_of key rows)
      (row_of-without_other compare key_of order (key_of other) key rows differs ∙ row_of-member other rows ordered member)).0
