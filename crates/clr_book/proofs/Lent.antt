-- Rows that are given as they were found: those that a test keeps go by their names, and what
-- is read at each name in turn is what a filter keeps.
use Rattle.std.proofs.Common.{◌≡◌, ◌∙◌, ℕ, Bool, true, false, ◌||◌, List, [], ◌∷◌, ◌++◌, None, map, filter, Contains, refl, sym, ap, subst}
use Rattle.std.specs.Cmp.{IsTotalOrder}
use Rattle.std.specs.Cmp.Lexicographic.{texts_ties}
use Rattle.std.specs.List.{AllByRecursion}
use Rattle.std.specs.List.Sorted.{IsStrictlySortedBy}
use Rattle.std.specs.Ordering.{is_eq, is_lt}
use Rattle.std.specs.declared.cmp.Ordering.{Ordering}
use Rattle.std.specs.declared.cmp.Ordering.TheVariants.{Less}
use Rattle.std.proofs.lemmas.Bool.{true≢false}
use Rattle.std.proofs.lemmas.Cmp.{nat_list_cmp_total}
use Rattle.std.proofs.lemmas.Option.{same_Some}
use Rattle.clr_net.proofs.Walks.{one_name}
use Rattle.clr_net.specs.Name.{name_cmp, same_name}
use Rattle.clr_net.specs.Names.{has_name}
use Rattle.clr_shelf.proofs.KeyOrder.{in_key_order-first, in_key_order-rest}
use Rattle.clr_shelf.proofs.Keys.{apart_back, less}
use Rattle.clr_shelf.proofs.Lists.{filter-filter_comm}
use Rattle.clr_shelf.proofs.Members.{none_before, none_below, row_of-member}
use Rattle.clr_shelf.proofs.Reading.{row_of-tied}
use Rattle.clr_shelf.specs.Rows.{in_key_order, row_of}
use Rattle.clr_rules.proofs.good.Opening.{in_key_order-from_sorted}
use Rattle.clr_rules.proofs.lists.Filters.{filter-kept, kept_there}
use Rattle.clr_rules.proofs.lists.NamedRows.{Contains-filter, has_name-row, row_named}
use Rattle.clr_rules.specs.States.{state_key, state_of}
use Rattle.clr_rules.specs.declared.point_state.PointState.{PointState}
use Rattle.clr_shelf.proofs.NextGroups.{rising-first}
use Rattle.clr_book.proofs.Grouped.{rising-rest}
use Rattle.clr_book.proofs.LookedUp.{listed}

-- ---- rows that a test keeps, by their names

module _ {Row : Type 0} (name_of : Row → List ℕ) (rows : List Row) (rise : IsStrictlySortedBy name_cmp (map name_of rows)) where
  -- a name is that of one row
  one_row : (a b : Row) → Contains rows a → Contains rows b → name_of a ≡ name_of b → a ≡ b
  one_row a b a_there b_there same =
      let ordered = in_key_order-from_sorted name_cmp name_of rows rise in
      same_Some a b
      (sym (row_of-member name_cmp name_of nat_list_cmp_total a rows ordered a_there)
      ∙ ap (λ (name : List ℕ). row_of name_cmp name_of name rows) same
      ∙ row_of-member name_cmp name_of nat_list_cmp_total b rows ordered b_there)

  named_passes : (test : Row → Bool) (row : Row) → Contains rows row → has_name (map name_of (filter test rows)) (name_of row) ≡ true → test row ≡ true
  named_passes test row there named =
      let found = row_named name_of (filter test rows) (name_of row) named in
      let kept = kept_there test rows found.0 found.1 in
      subst (λ (x : Row). test x ≡ true) (sym (one_row row found.0 there kept.0 found.2)) kept.1

  -- the rows of the names of those that a test keeps are these
  pub kept_by_name : (test : Row → Bool) → filter (λ row. has_name (map name_of (filter test rows)) (name_of row)) rows ≡ filter test rows
  kept_by_name test =
      let named = λ (row : Row). has_name (map name_of (filter test rows)) (name_of row) in
      sym (filter-kept named test rows (λ row there is. named_passes test row there is))
      ∙ filter-filter_comm named test rows
      ∙ filter-kept test named rows (λ row there is. has_name-row name_of (filter test rows) row (Contains-filter test rows row there is))

-- ---- what is read at each key in turn

module _ {Key Row : Type 0} (compare : Key → Key → Ordering) (key_of : Row → Key) (order : IsTotalOrder compare) where
  module _ (key : Key) (later : Row → Bool) (above : (row : Row) → later row ≡ true → is_lt (compare key (key_of row)) ≡ true) where
    first_step : (first : Row) (rest : List Row) (here after : Bool) → is_eq (compare (key_of first) key) ≡ here → later first ≡ after
        → in_key_order compare key_of (first ∷ rest) ≡ true
        → filter (λ row. is_eq (compare (key_of row) key) || later row) rest ≡ listed (row_of compare key_of key rest) ++ filter later rest
        → filter (λ row. is_eq (compare (key_of row) key) || later row) (first ∷ rest) ≡ listed (row_of compare key_of key (first ∷ rest)) ++ filter later (first ∷ rest)
    unfolding row_of
    first_step first rest true true ties passes ordered more =
        absurd (true≢false (sym ties ∙ apart_back compare order key (key_of first) (ap is_eq (less (compare key (key_of first)) (above first passes)))))
    first_step first rest true false ties fails ordered more =
        let none : row_of compare key_of key rest ≡ None =
        sym (row_of-tied compare key_of order (key_of first) key rest ties)
        ∙ none_below compare key_of order (key_of first) rest (in_key_order-first compare key_of order first rest ordered) in
        rw (ties, fails) (ap (λ rows. first ∷ rows) (more ∙ ap (λ row. listed row ++ filter later rest) none))
    first_step first rest false true differs passes ordered more =
        let none : row_of compare key_of key rest ≡ None =
        (rw differs at (none_before compare key_of order key first rest ordered (above first passes))) in
        rw (differs, passes)
        (ap (λ rows. first ∷ rows) (more ∙ ap (λ row. listed row ++ filter later rest) none)
        ∙ sym (ap (λ row. listed row ++ first ∷ filter later rest) none))
    first_step first rest false false differs fails ordered more = rw (differs, fails) more

    nothing_read : [] ≡ listed (row_of compare key_of key []) ++ []
    unfolding row_of
    nothing_read = refl

    -- the row of a key comes before those of keys above it
    pub filter-first : (rows : List Row) → in_key_order compare key_of rows ≡ true
        → filter (λ row. is_eq (compare (key_of row) key) || later row) rows ≡ listed (row_of compare key_of key rows) ++ filter later rows
    filter-first [] ordered = nothing_read
    filter-first (first ∷ rest) ordered =
        first_step first rest (is_eq (compare (key_of first) key)) (later first) refl refl ordered (filter-first rest (in_key_order-rest compare key_of order first rest ordered))

above_name : (point : List ℕ) (next p : List ℕ) (above : List (List ℕ)) (same : Bool) → same_name p next ≡ same → name_cmp point next ≡ Less
    → (has_name above p ≡ true → is_lt (name_cmp point p) ≡ true) → has_name (next ∷ above) p ≡ true → is_lt (name_cmp point p) ≡ true
above_name point next p above true is below more named = rw (one_name p next is, below) refl
above_name point next p above false differs below more named = more (rw differs at named)

-- a name among some that are all above another is above it
all_above : (point : List ℕ) (above : List (List ℕ)) (p : List ℕ) → AllByRecursion (λ next. name_cmp point next ≡ Less) above → has_name above p ≡ true
    → is_lt (name_cmp point p) ≡ true
all_above point [] p all named = absurd (true≢false (sym named))
all_above point (next ∷ above) p all named = above_name point next p above (same_name p next) refl all.0 (all_above point above p all.1) named

-- the state of the first of some points comes before those of the rest
pub states_more : (point : List ℕ) (above : List (List ℕ)) (states : List PointState) → IsStrictlySortedBy name_cmp (point ∷ above)
    → in_key_order name_cmp state_key states ≡ true
    → filter (λ state. has_name (point ∷ above) state.point) states ≡ listed (state_of states point) ++ filter (λ state. has_name above state.point) states
states_more point above states rise ordered =
    ap (λ (same : PointState → Bool). filter (λ state. same state || has_name above state.point) states) (λ i state. texts_ties state.point point i)
    ∙ filter-first name_cmp state_key nat_list_cmp_total point (λ state. has_name above state.point)
    (λ state named. all_above point above state.point
    (rising-first name_cmp point above rise) named)
    states ordered

pub points_rest : (point : List ℕ) (above : List (List ℕ)) → IsStrictlySortedBy name_cmp (point ∷ above) → IsStrictlySortedBy name_cmp above
points_rest = rising-rest name_cmp nat_list_cmp_total (λ name row. same_name row name) (λ (row : List ℕ). row) (λ name row. texts_ties row name)

-- no point more
pub states_done : (states : List PointState) → filter (λ state. has_name [] state.point) states ≡ []
states_done [] = refl
states_done (state ∷ states) = states_done states
