-- What is read of the lists of a register after an edit.
use Rattle.std.proofs.Common.{◌≡◌, ℕ, Bool, true, false, cond, ◌&&◌, ◌||◌, not, List, Option, Some, None, is_some, refl, sym, ◌∙◌, ap, ◌⊎◌, inl, inr, ⊎_elim, subst, if◌then◌else◌, Contains}
use Rattle.std.proofs.Common.{option_map, is_eq, Ordering}
use Rattle.clr_rules.proofs.Common.{IsTotalOrder, none-some, same_Some, same_name, in_key_order, row_of, with_row, without_row, Hold, HoldKind, PointState, Record, Id, id_cmp, id_cmp_total, same_id}
use Rattle.clr_rules.proofs.Common.{state_key, state_of, record_key, record_of, hold_cmp, hold_cmp_total, has_hold, hold_key, hold_of, change_state}
use Rattle.clr_shelf.proofs.KeyOrder.{in_key_order-with_row, in_key_order-without_row}
use Rattle.clr_shelf.proofs.Members.{Contains-with_other, Contains-with_row, Contains-without_other, member-with_row, member-without_row, row_of-member}
use Rattle.clr_shelf.proofs.Reading.{row_of-tied, row_of-with, row_of-with_row, row_of-without, row_of-without_row}
use Rattle.clr_rules.specs.laws.Edits.{HasRowPut, HasRowTaken, changed_where, is_hold}
use Rattle.clr_rules.specs.Id.{same_id_ties}
use Rattle.clr_rules.proofs.lists.StateFacts.{state_of-change, state_of-same}

-- ---- records and holds

pub record_of-put : (r : Record) (c : Id) (records : List Record)
    → record_of (with_row id_cmp record_key r records) c ≡ (if same_id r.id c then Some r else record_of records c)
record_of-put r c records =
    row_of-with id_cmp record_key id_cmp_total c r records ∙ ap (λ b. cond b (Some r) (record_of records c)) (sym (same_id_ties r.id c))

is_some-put : (b : Bool) (h : Hold) (found : Option Hold) → is_some (cond b (Some h) found) ≡ (b || is_some found)
is_some-put true h found = refl
is_some-put false h found = refl

pub has_hold-put : (h : Hold) (holds : List Hold) (c : Id) (kind : HoldKind) (place : List ℕ)
    → has_hold (with_row hold_cmp hold_key h holds) c kind place ≡ (is_hold h c kind place || has_hold holds c kind place)
has_hold-put h holds c kind place =
    ap is_some (row_of-with hold_cmp hold_key hold_cmp_total (hold_of c kind place) h holds)
    ∙ is_some-put (is_hold h c kind place) h (row_of hold_cmp hold_key (hold_of c kind place) holds)

is_some-taken : (b : Bool) (found : Option Hold) → is_some (cond b None found) ≡ (not b && is_some found)
is_some-taken true found = refl
is_some-taken false found = refl

pub has_hold-taken : (h : Hold) (holds : List Hold) (c : Id) (kind : HoldKind) (place : List ℕ)
    → has_hold (without_row hold_cmp hold_key h holds) c kind place ≡ (not (is_hold h c kind place) && has_hold holds c kind place)
has_hold-taken h holds c kind place =
    ap is_some (row_of-without hold_cmp hold_key hold_cmp_total (hold_of c kind place) h holds)
    ∙ is_some-taken (is_hold h c kind place) (row_of hold_cmp hold_key (hold_of c kind place) holds)

-- ---- the rows themselves

module _ {Key Row : Type 0} (compare : Key → Key → Ordering) (key_of : Row → Key) (order : IsTotalOrder compare) where
  tied_or_not : (b : Bool) → (b ≡ true) ⊎ (b ≡ false)
  tied_or_not true = inl refl
  tied_or_not false = inr refl

  only_row : (row other : Row) (rows : List Row) → in_key_order compare key_of rows ≡ true → Contains (with_row compare key_of row rows) other
      → is_eq (compare (key_of row) (key_of other)) ≡ true → row ≡ other
  only_row row other rows ordered member tied =
      let after = with_row compare key_of row rows in
      same_Some row other (sym (row_of-with_row compare key_of order row rows) ∙ row_of-tied compare key_of order (key_of row) (key_of other) after tied
      ∙ row_of-member compare key_of order other after (in_key_order-with_row compare key_of order row rows ordered) member)

  pub has_row_put : (row : Row) (rows : List Row) → in_key_order compare key_of rows ≡ true
      → HasRowPut compare key_of row rows (with_row compare key_of row rows)
  has_row_put row rows ordered other = (
    λ member. ⊎_elim (λ tied. inl (only_row row other rows ordered member tied))
        (λ differs. ⊎_elim (λ same. inl same) (λ before. inr (before, differs)) (member-with_row compare key_of order row other rows ordered member))
        (tied_or_not (is_eq (compare (key_of row) (key_of other)))),
    ⊎_elim (λ same. subst (λ (x : Row). Contains (with_row compare key_of row rows) x) same (Contains-with_row compare key_of order row rows))
        (λ before. Contains-with_other compare key_of order row other rows ordered before.1 before.0),
  )

  still_differs : (key : Key) (other : Row) (rows : List Row) → in_key_order compare key_of rows ≡ true → Contains (without_row compare key_of key rows) other
      → (b : Bool) → is_eq (compare key (key_of other)) ≡ b → b ≡ false
  still_differs key other rows ordered member true tied =
      let after = without_row compare key_of key rows in
      absurd (none-some other (sym (row_of-without_row compare key_of order key rows) ∙ row_of-tied compare key_of order key (key_of other) after tied
      ∙ row_of-member compare key_of order other after (in_key_order-without_row compare key_of order key rows ordered) member))
  still_differs key other rows ordered member false differs = refl

  pub has_row_taken : (key : Key) (rows : List Row) → in_key_order compare key_of rows ≡ true
      → HasRowTaken compare key_of key rows (without_row compare key_of key rows)
  has_row_taken key rows ordered other = (
    λ member. (
      member-without_row compare key_of order key other rows ordered member,
      still_differs key other rows ordered member (is_eq (compare key (key_of other))) refl,
    ),
    λ before. Contains-without_other compare key_of order key other rows ordered before.1 before.0,
  )

-- ---- the states of points

module _ (change : PointState → PointState) (same_point : (state : PointState) → state_key (change state) ≡ state_key state) where
  -- the state of a point after that of one is changed
  pub state_of-changed : (p q : List ℕ) (states : List PointState)
      → state_of (change_state states p change) q ≡ changed_where (same_name p q) change (state_of states q)
  state_of-changed p q states = state_of-change change same_point states p q ∙ at (same_name p q) refl
    where
      at : (b : Bool) → same_name p q ≡ b → cond b (option_map change (state_of states p)) (state_of states q) ≡ changed_where b change (state_of states q)
      at true same = ap (option_map change) (state_of-same states p q same)
      at false differs = refl
