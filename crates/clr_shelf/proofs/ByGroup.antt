-- Rows in the order of group and then key, and the same rows in key order: what puts, takes and groups are of both.
use Rattle.std.proofs.Common.{◌≡◌, ◌+◌, Bool, true, false, cond, List, [], ◌∷◌, get_or, Some, None, refl, sym, ◌∙◌, ap, subst, arith, Ordering, Less, Equal, Greater}
use Rattle.std.specs.List.{filter, list_all}
use Rattle.std.specs.List.Sorted.{IsSortedBy, IsNonDecreasingBy}
use Rattle.std.specs.Cmp.{IsTotalOrder}
use Rattle.std.specs.Ordering.{is_lt, is_eq, ordering_then, ordering_index}
use Rattle.std.proofs.lemmas.Grind.{common_steps}
use Rattle.std.proofs.lemmas.Cmp.{tied_itself, tied_back, then_total, on_total}
use Rattle.std.proofs.lemmas.Map.Entries.{option_filter}
use Rattle.std.proofs.lemmas.List.Sorted.{searchable_from_sorted}
use Rattle.clr_shelf.specs.ByKey.{insert_by_key, rows_by_key}
use Rattle.clr_shelf.specs.Rows.{in_key_order, row_of, with_row, without_row}
use Rattle.clr_shelf.specs.Places.{place_cmp}
use Rattle.clr_shelf.proofs.Keys.{equal}
use Rattle.clr_shelf.proofs.Lists.{list_all-filtered}
use Rattle.clr_shelf.proofs.KeyOrder.{in_key_order-rest, in_key_order-first, in_key_order-filter, in_key_order-with_row, in_key_order-without_row}
use Rattle.clr_shelf.proofs.Reading.{row_of-with, row_of-without}
use Rattle.clr_shelf.proofs.Members.{none_below}
use Rattle.clr_shelf.proofs.Groups.{row_of-filter}
use Rattle.clr_shelf.proofs.SameRows.{same_from_reading}
use Rattle.clr_shelf.proofs.FirstRow.{with_row-after, with_row-before}
use Rattle.clr_shelf.proofs.Places.{sorted}
use Rattle.std.proofs.lemmas.Option.{none-some}

no_tie : (group key : Ordering) → is_eq key ≡ false → is_eq (ordering_then group key) ≡ false
no_tie Less key differs = refl
no_tie Equal key differs = differs
no_tie Greater key differs = refl

-- where the first comparison is below, so are both in turn
not_below : (group key : Ordering) → is_lt (ordering_then group key) ≡ false → is_lt group ≡ false
not_below Less key h = h
not_below Equal key h = refl
not_below Greater key h = refl

-- a test that passes where two others do
list_all-both : {X : Type 0} (p q r : X → Bool) → ((x : X) → p x ≡ true → q x ≡ true → r x ≡ true) → (xs : List X)
    → list_all p xs ≡ true → list_all q xs ≡ true → list_all r xs ≡ true
list_all-both p q r both [] first second = refl
list_all-both p q r both (x ∷ xs) first second =
    let here : r x ≡ true = both x (grind (arith, common_steps)) (grind (arith, common_steps)) in
    grind (arith, common_steps, list_all-both p q r both xs)

cond_same : {X : Type 0} {a b : Bool} → a ≡ b → (x : X) {y z : X} → y ≡ z → cond a x y ≡ cond b x z
cond_same test x rest i = cond (test i) x (rest i)

module _ {Key Row Group : Type 0} (compare : Key → Key → Ordering) (key_of : Row → Key) (group_of : Key → Group) (group_cmp : Group → Group → Ordering)
    (order : IsTotalOrder compare) (group_order : IsTotalOrder group_cmp) (same_key : (a b : Key) → compare a b ≡ Equal → a ≡ b) where
  pub place_total : IsTotalOrder (place_cmp compare group_of group_cmp)
  place_total = then_total (on_total group_of group_order) order

  tie_tested : (a b : Key) (tied : Bool) → is_eq (compare a b) ≡ tied → is_eq (place_cmp compare group_of group_cmp a b) ≡ is_eq (compare a b)
  tie_tested a b true is =
      let one : a ≡ b = same_key a b (equal (compare a b) is) in
      let group_tied : group_cmp (group_of a) (group_of b) ≡ Equal =
      subst (λ (k : Key). group_cmp (group_of a) (group_of k) ≡ Equal) one (tied_itself group_order (group_of a)) in
      rw group_tied refl
  tie_tested a b false is = no_tie (group_cmp (group_of a) (group_of b)) (compare a b) is ∙ sym is

  -- keys tie by place where they tie
  same_tie : (a b : Key) → is_eq (place_cmp compare group_of group_cmp a b) ≡ is_eq (compare a b)
  same_tie a b = tie_tested a b (is_eq (compare a b)) refl

  -- so the same row is read at a key
  pub row_of-place : (key : Key) (rows : List Row) → row_of (place_cmp compare group_of group_cmp) key_of key rows ≡ row_of compare key_of key rows
  unfolding row_of
  row_of-place key [] = refl
  row_of-place key (row ∷ rest) = rw (same_tie (key_of row) key, row_of-place key rest) refl

  -- ---- the list in key order

  -- where no row has the key, a row that is inserted is put
  insert_step : (row first : Row) (rest : List Row) (o : Ordering) → compare (key_of first) (key_of row) ≡ o → in_key_order compare key_of (first ∷ rest) ≡ true
      → row_of compare key_of (key_of row) (first ∷ rest) ≡ None
      → (row_of compare key_of (key_of row) rest ≡ None → insert_by_key compare key_of row rest ≡ with_row compare key_of row rest)
      → insert_by_key compare key_of row (first ∷ rest) ≡ with_row compare key_of row (first ∷ rest)
  unfolding insert_by_key row_of
  insert_step row first rest Less is ordered new later =
      rw is (ap (λ (rows : List Row). first ∷ rows) (later (rw is at new)) ∙ sym (with_row-after compare key_of order row first rest is))
  insert_step row first rest Equal is ordered new later = absurd (none-some first (sym (rw is at new)))
  insert_step row first rest Greater is ordered new later = rw is (sym (with_row-before compare key_of order row first rest ordered is))

  insert_new : (row : Row) (rows : List Row) → in_key_order compare key_of rows ≡ true → row_of compare key_of (key_of row) rows ≡ None
      → insert_by_key compare key_of row rows ≡ with_row compare key_of row rows
  unfolding insert_by_key with_row
  insert_new row [] ordered new = refl
  insert_new row (first ∷ rest) ordered new =
      insert_step row first rest (compare (key_of first) (key_of row)) refl ordered new
      (insert_new row rest (in_key_order-rest compare key_of order first rest ordered))

  -- it is in key order, and reads the same at each key
  record ByKey (rows : List Row) : Type 0 where
    ordered : in_key_order compare key_of (rows_by_key compare key_of rows) ≡ true
    read : (key : Key) → row_of compare key_of key (rows_by_key compare key_of rows) ≡ row_of compare key_of key rows

  by_key_step : (row : Row) (rest : List Row) → row_of compare key_of (key_of row) rest ≡ None → ByKey rest → ByKey (row ∷ rest)
  unfolding rows_by_key row_of
  by_key_step row rest new sorted =
      let by_key = rows_by_key compare key_of rest in
      let put : insert_by_key compare key_of row by_key ≡ with_row compare key_of row by_key = insert_new row by_key sorted.ordered (sorted.read (key_of row) ∙ new) in
      record {
        ordered = rw put (in_key_order-with_row compare key_of order row by_key sorted.ordered);
        read = λ key. rw put (row_of-with compare key_of order key row by_key) ∙ ap (λ found. cond (is_eq (compare (key_of row) key)) (Some row) found) (sorted.read key);
      }

  by_key_none : ByKey []
  unfolding rows_by_key row_of
  by_key_none = record { ordered = refl; read = λ key. refl }

  by_key : (rows : List Row) → in_key_order (place_cmp compare group_of group_cmp) key_of rows ≡ true → ByKey rows
  by_key [] ordered = by_key_none
  by_key (row ∷ rest) ordered =
      let new : row_of compare key_of (key_of row) rest ≡ None =
      sym (row_of-place (key_of row) rest)
      ∙ none_below (place_cmp compare group_of group_cmp) key_of place_total (key_of row) rest (in_key_order-first (place_cmp compare group_of group_cmp) key_of place_total row rest ordered) in
      by_key_step row rest new (by_key rest (in_key_order-rest (place_cmp compare group_of group_cmp) key_of place_total row rest ordered))

  pub in_key_order-rows_by_key : (rows : List Row) → in_key_order (place_cmp compare group_of group_cmp) key_of rows ≡ true
      → in_key_order compare key_of (rows_by_key compare key_of rows) ≡ true
  in_key_order-rows_by_key rows ordered = (by_key rows ordered).ordered

  pub row_of-rows_by_key : (key : Key) (rows : List Row) → in_key_order (place_cmp compare group_of group_cmp) key_of rows ≡ true
      → row_of compare key_of key (rows_by_key compare key_of rows) ≡ row_of (place_cmp compare group_of group_cmp) key_of key rows
  row_of-rows_by_key key rows ordered = (by_key rows ordered).read key ∙ sym (row_of-place key rows)

  -- ---- puts and takes

  pub rows_by_key-with_row : (row : Row) (rows : List Row) → in_key_order (place_cmp compare group_of group_cmp) key_of rows ≡ true
      → rows_by_key compare key_of (with_row (place_cmp compare group_of group_cmp) key_of row rows) ≡ with_row compare key_of row (rows_by_key compare key_of rows)
  rows_by_key-with_row row rows ordered =
      let before = rows_by_key compare key_of rows in
      let put = with_row (place_cmp compare group_of group_cmp) key_of row rows in
      let put_ordered = in_key_order-with_row (place_cmp compare group_of group_cmp) key_of place_total row rows ordered in
      same_from_reading compare key_of order (rows_by_key compare key_of put) (with_row compare key_of row before)
      (in_key_order-rows_by_key put put_ordered)
      (in_key_order-with_row compare key_of order row before (in_key_order-rows_by_key rows ordered))
      (λ key. row_of-rows_by_key key put put_ordered ∙ row_of-with (place_cmp compare group_of group_cmp) key_of place_total key row rows
      ∙ cond_same (same_tie (key_of row) key) (Some row) (sym (row_of-rows_by_key key rows ordered))
      ∙ sym (row_of-with compare key_of order key row before))

  pub rows_by_key-without_row : (key : Key) (rows : List Row) → in_key_order (place_cmp compare group_of group_cmp) key_of rows ≡ true
      → rows_by_key compare key_of (without_row (place_cmp compare group_of group_cmp) key_of key rows) ≡ without_row compare key_of key (rows_by_key compare key_of rows)
  rows_by_key-without_row taken rows ordered =
      let before = rows_by_key compare key_of rows in
      let left = without_row (place_cmp compare group_of group_cmp) key_of taken rows in
      let left_ordered = in_key_order-without_row (place_cmp compare group_of group_cmp) key_of place_total taken rows ordered in
      same_from_reading compare key_of order (rows_by_key compare key_of left) (without_row compare key_of taken before)
      (in_key_order-rows_by_key left left_ordered)
      (in_key_order-without_row compare key_of order taken before (in_key_order-rows_by_key rows ordered))
      (λ key. row_of-rows_by_key key left left_ordered ∙ row_of-without (place_cmp compare group_of group_cmp) key_of place_total key taken rows
      ∙ cond_same (same_tie taken key) None (sym (row_of-rows_by_key key rows ordered))
      ∙ sym (row_of-without compare key_of order key taken before))

  -- ---- the rows of a group

  -- in one group the order of places is that of keys
  below_within : (a b : Key) (group : Group) → is_eq (group_cmp (group_of a) group) ≡ true → is_eq (group_cmp (group_of b) group) ≡ true
      → is_lt (place_cmp compare group_of group_cmp a b) ≡ true → is_lt (compare a b) ≡ true
  below_within a b group a_in b_in below =
      let tied : group_cmp (group_of a) (group_of b) ≡ Equal =
      group_order.congr (group_of a) group (group_of b) (equal (group_cmp (group_of a) group) a_in)
      ∙ tied_back group_order (group_of b) group (equal (group_cmp (group_of b) group) b_in) in
      rw tied at below

  key_order_within : (group : Group) (rows : List Row) → list_all (λ row. is_eq (group_cmp (group_of (key_of row)) group)) rows ≡ true
      → in_key_order (place_cmp compare group_of group_cmp) key_of rows ≡ true → in_key_order compare key_of rows ≡ true
  key_order_within group [] all ordered = refl
  key_order_within group (row ∷ rest) all ordered =
      let here : is_eq (group_cmp (group_of (key_of row)) group) ≡ true = grind (arith, common_steps) in
      let others : list_all (λ row. is_eq (group_cmp (group_of (key_of row)) group)) rest ≡ true = grind (arith, common_steps) in
      let first : list_all (λ next. is_lt (compare (key_of row) (key_of next))) rest ≡ true =
      list_all-both (λ next. is_eq (group_cmp (group_of (key_of next)) group)) (λ next. is_lt (place_cmp compare group_of group_cmp (key_of row) (key_of next)))
      (λ next. is_lt (compare (key_of row) (key_of next))) (λ next next_in below. below_within (key_of row) (key_of next) group here next_in below) rest others
      (in_key_order-first (place_cmp compare group_of group_cmp) key_of place_total row rest ordered) in
      let later : in_key_order compare key_of rest ≡ true =
      key_order_within group rest others (in_key_order-rest (place_cmp compare group_of group_cmp) key_of place_total row rest ordered) in
      rw (first, later) refl

  -- the rows of a group are in the order of places as they are in key order
  pub filter-rows_by_key : (group : Group) (p : Row → Bool) → ((row : Row) → p row ≡ is_eq (group_cmp (group_of (key_of row)) group)) → (rows : List Row)
      → in_key_order (place_cmp compare group_of group_cmp) key_of rows ≡ true
      → filter p rows ≡ filter p (rows_by_key compare key_of rows)
  filter-rows_by_key group p is_group rows ordered =
      let by_key = rows_by_key compare key_of rows in
      let by_key_ordered = in_key_order-rows_by_key rows ordered in
      let place_ordered = in_key_order-filter (place_cmp compare group_of group_cmp) key_of place_total p rows ordered in
      same_from_reading compare key_of order (filter p rows) (filter p by_key)
      (key_order_within group (filter p rows) (list_all-filtered (λ row. is_eq (group_cmp (group_of (key_of row)) group)) p (λ row h. sym (is_group row) ∙ h) rows) place_ordered)
      (in_key_order-filter compare key_of order p by_key by_key_ordered)
      (λ key. sym (row_of-place key (filter p rows)) ∙ row_of-filter (place_cmp compare group_of group_cmp) key_of place_total p key rows ordered
      ∙ ap (option_filter p) (sym (row_of-rows_by_key key rows ordered))
      ∙ sym (row_of-filter compare key_of order p key by_key by_key_ordered))

  -- ---- where the rows of a group are

  groups_sorted : (rows : List Row) → in_key_order (place_cmp compare group_of group_cmp) key_of rows ≡ true
      → IsSortedBy (λ a b. is_lt (group_cmp (group_of (key_of a)) (group_of (key_of b)))) rows
  groups_sorted rows ordered k d le lt =
      let a = key_of (get_or rows (k + 1) d) in
      let b = key_of (get_or rows k d) in
      not_below (group_cmp (group_of a) (group_of b)) (compare a b) (sorted (place_cmp compare group_of group_cmp) key_of place_total rows ordered k d le lt)

  pub groups_rise : (group : Group) (rows : List Row) → in_key_order (place_cmp compare group_of group_cmp) key_of rows ≡ true
      → IsNonDecreasingBy (λ row. ordering_index (group_cmp (group_of (key_of row)) group)) rows
  groups_rise group rows ordered = searchable_from_sorted group_order (λ row. group_of (key_of row)) rows group (groups_sorted rows ordered)
