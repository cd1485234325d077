-- A state that is replaced by a changed one; and states that are put one after the other, in the order of their points.
use Rattle.std.proofs.Common.{◌≡◌, ℕ, true, not, List, [], ◌∷◌, ◌++◌, Some, None, refl, sym, ◌∙◌, ap}
use Rattle.std.specs.Ordering.{is_lt, is_gt}
use Rattle.std.specs.Prelude.{Option, OnSome}
use Rattle.std.specs.declared.cmp.Ordering.{Ordering}
use Rattle.std.specs.declared.cmp.Ordering.TheVariants.{Less, Equal, Greater}
use Rattle.std.proofs.lemmas.Bool.{and_parts}
use Rattle.std.proofs.lemmas.Cmp.{nat_list_cmp_total}
use mathlib.Core.Bool.{true≢false}
use Rattle.clr_net.specs.Name.{name_cmp}
use Rattle.clr_shelf.proofs.Keys.{equal, same_text}
use Rattle.clr_shelf.proofs.Lists.{filter-none, filter-same, list_all-contains, list_all-weaker, Contains-here}
use Rattle.std.specs.List.{list_all}
use Rattle.std.proofs.lemmas.List.Elements.{Contains-append_right}
use Rattle.clr_shelf.proofs.Members.{member-row_of}
use Rattle.clr_shelf.specs.Rows.{in_key_order, with_row}
use Rattle.clr_rules.specs.States.{change_state, state_key, state_of}
use Rattle.clr_rules.specs.declared.point_state.PointState.{PointState}

not_higher : (o : Ordering) → is_lt o ≡ true → not (is_gt o) ≡ true
not_higher Less h = refl
not_higher Equal h = absurd (true≢false (sym h))
not_higher Greater h = absurd (true≢false (sym h))

module _ {Key Row : Type 0} (compare : Key → Key → Ordering) (key_of : Row → Key) where
  -- a row that is put after all others is at the end
  pub with_row-end : (row : Row) (front : List Row) → list_all (λ other. is_lt (compare (key_of other) (key_of row))) front ≡ true
      → with_row compare key_of row front ≡ front ++ row ∷ []
  unfolding with_row
  with_row-end row front lower =
      rw (
        filter-same (λ other. is_lt (compare (key_of other) (key_of row))) front lower,
        filter-none (λ other. is_gt (compare (key_of other) (key_of row))) front
            (list_all-weaker (λ other. is_lt (compare (key_of other) (key_of row))) (λ other. not (is_gt (compare (key_of other) (key_of row)))) (λ other. not_higher (compare (key_of other) (key_of row))) front lower),
      ) refl

  -- in key order, the rows of the front come before the first of the back
  pub front_lower : (row : Row) (front back : List Row) → in_key_order compare key_of (front ++ row ∷ back) ≡ true
      → list_all (λ other. is_lt (compare (key_of other) (key_of row))) front ≡ true
  front_lower row [] back ordered = refl
  front_lower row (first ∷ front) back ordered =
      let rest = front ++ row ∷ back in
      let (lowest, others) = and_parts (list_all (λ next. is_lt (compare (key_of first) (key_of next))) rest) (in_key_order compare key_of rest) ordered in
      rw (list_all-contains (λ next. is_lt (compare (key_of first) (key_of next))) rest row lowest (Contains-append_right front (row ∷ back) row (Contains-here row back)))
      (front_lower row front back others)

-- the state that is found is that of the point
pub found_at : (states : List PointState) (p : List ℕ) (s : PointState) → state_of states p ≡ Some s → s.point ≡ p
found_at states p s found =
    same_text s.point p (equal (name_cmp s.point p) ((member-row_of name_cmp state_key nat_list_cmp_total p s states found).1))

-- a state that is replaced by a changed one
pub replaced_changed : (states replaced : List PointState) (p : List ℕ) (s : PointState) (change : PointState → PointState) → (change s).point ≡ s.point
    → state_of states p ≡ Some s → (old : Option PointState) → old ≡ state_of states (change s).point
    → OnSome old (replaced ≡ with_row name_cmp state_key (change s) states) → replaced ≡ change_state states p change
replaced_changed states replaced p s change same found None is put =
    absurd (cc (is ∙ ap (state_of states) (same ∙ found_at states p s found) ∙ found))
replaced_changed states replaced p s change same found (Some old) is put = rw found put

-- a point without a state stays without
pub none_changed : (states : List PointState) (p : List ℕ) (change : PointState → PointState) → state_of states p ≡ None
    → states ≡ change_state states p change
none_changed states p change missing = rw missing refl
