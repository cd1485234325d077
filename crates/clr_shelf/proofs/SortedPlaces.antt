-- What a search finds in a list by group and then key, and what a put or a take does there, said of the rows in key order.
use Rattle.std.proofs.Common.{◌≡◌, ℕ, true, List, [], set, length, get_or, Some, None, refl, sym, ◌∙◌, ap, insert, remove, Ordering, Equal}
use Rattle.std.specs.Cmp.{IsTotalOrder}
use Rattle.std.proofs.lemmas.List.Sorted.{length_permutation}
use Rattle.clr_shelf.specs.ByKey.{rows_by_key, IsPermutation-rows_by_key}
use Rattle.clr_shelf.specs.Rows.{in_key_order, row_of, with_row, without_row}
use Rattle.clr_shelf.specs.Places.{IsPlaceOf, IsGapFor, place_cmp}
use Rattle.clr_shelf.proofs.KeyOrder.{in_key_order-with_row, in_key_order-without_row}
use Rattle.clr_shelf.proofs.Reading.{without_row-missing}
use Rattle.clr_shelf.proofs.Places.{set_at, remove_at, insert_in_gap, row_at, none_in_gap}
use Rattle.clr_shelf.proofs.ByGroup.{place_total, in_key_order-rows_by_key, row_of-rows_by_key, rows_by_key-with_row, rows_by_key-without_row}

module _ {Key Row Group : Type 0} (compare : Key → Key → Ordering) (key_of : Row → Key) (group_of : Key → Group) (group_cmp : Group → Group → Ordering) where
  -- rows by group and then key, which are these in key order
  pub record IsSorted (rows by_key : List Row) : Type 0 where
    pub in_place : in_key_order (place_cmp compare group_of group_cmp) key_of rows ≡ true
    pub in_order : in_key_order compare key_of (rows_by_key compare key_of rows) ≡ true
    pub is : rows_by_key compare key_of rows ≡ by_key

  pub sorted-none : IsSorted [] []
  unfolding rows_by_key
  sorted-none = record { in_place = refl; in_order = refl; is = refl }

  pub length-rows_by_key : (rows : List Row) → length rows ≡ length (rows_by_key compare key_of rows)
  length-rows_by_key rows = length_permutation (rows_by_key compare key_of rows) rows (IsPermutation-rows_by_key compare key_of rows)

module _ {Key Row Group : Type 0} (compare : Key → Key → Ordering) (key_of : Row → Key) (group_of : Key → Group) (group_cmp : Group → Group → Ordering)
    (order : IsTotalOrder compare) (group_order : IsTotalOrder group_cmp) (same_key : (a b : Key) → compare a b ≡ Equal → a ≡ b) where
  sorted-with : (row : Row) (rows put : List Row) → in_key_order (place_cmp compare group_of group_cmp) key_of rows ≡ true
      → put ≡ with_row (place_cmp compare group_of group_cmp) key_of row rows
      → IsSorted compare key_of group_of group_cmp put (with_row compare key_of row (rows_by_key compare key_of rows))
  sorted-with row rows put ordered is =
      let kept : in_key_order (place_cmp compare group_of group_cmp) key_of put ≡ true =
      rw is (in_key_order-with_row (place_cmp compare group_of group_cmp) key_of (place_total compare key_of group_of group_cmp order group_order same_key) row rows ordered) in
      record {
        in_place = kept;
        in_order = in_key_order-rows_by_key compare key_of group_of group_cmp order group_order same_key put kept;
        is = ap (rows_by_key compare key_of) is ∙ rows_by_key-with_row compare key_of group_of group_cmp order group_order same_key row rows ordered;
      }

  -- a row written over the row of its key
  pub sorted-set : (row : Row) (rows : List Row) (place : ℕ) → in_key_order (place_cmp compare group_of group_cmp) key_of rows ≡ true
      → IsPlaceOf (place_cmp compare group_of group_cmp) key_of (key_of row) rows place
      → IsSorted compare key_of group_of group_cmp (set rows place row) (with_row compare key_of row (rows_by_key compare key_of rows))
  sorted-set row rows place ordered here = sorted-with row rows (set rows place row) ordered
      (set_at (place_cmp compare group_of group_cmp) key_of (place_total compare key_of group_of group_cmp order group_order same_key) row rows place ordered here.in_range here.has_key)

  -- a row put into the gap for its key
  pub sorted-insert : (row : Row) (rows : List Row) (place : ℕ) → in_key_order (place_cmp compare group_of group_cmp) key_of rows ≡ true
      → IsGapFor (place_cmp compare group_of group_cmp) key_of (key_of row) rows place
      → IsSorted compare key_of group_of group_cmp (insert rows place row) (with_row compare key_of row (rows_by_key compare key_of rows))
  sorted-insert row rows place ordered gap = sorted-with row rows (insert rows place row) ordered
      (insert_in_gap (place_cmp compare group_of group_cmp) key_of (place_total compare key_of group_of group_cmp order group_order same_key) row rows place gap)

  -- the list without the row of a key
  pub sorted-remove : (key : Key) (rows : List Row) (place : ℕ) → in_key_order (place_cmp compare group_of group_cmp) key_of rows ≡ true
      → IsPlaceOf (place_cmp compare group_of group_cmp) key_of key rows place
      → IsSorted compare key_of group_of group_cmp (remove rows place) (without_row compare key_of key (rows_by_key compare key_of rows))
  sorted-remove key rows place ordered here =
      let is = remove_at (place_cmp compare group_of group_cmp) key_of (place_total compare key_of group_of group_cmp order group_order same_key) key rows place ordered here.in_range here.has_key in
      let kept : in_key_order (place_cmp compare group_of group_cmp) key_of (remove rows place) ≡ true =
      rw is (in_key_order-without_row (place_cmp compare group_of group_cmp) key_of (place_total compare key_of group_of group_cmp order group_order same_key) key rows ordered) in
      record {
        in_place = kept;
        in_order = in_key_order-rows_by_key compare key_of group_of group_cmp order group_order same_key (remove rows place) kept;
        is = ap (rows_by_key compare key_of) is ∙ rows_by_key-without_row compare key_of group_of group_cmp order group_order same_key key rows ordered;
      }

  -- what is read at a key that has a place, and at one that has a gap
  pub read_at : (key : Key) (rows : List Row) (place : ℕ) (row : Row) → in_key_order (place_cmp compare group_of group_cmp) key_of rows ≡ true
      → IsPlaceOf (place_cmp compare group_of group_cmp) key_of key rows place → row ≡ get_or rows place row
      → Some row ≡ row_of compare key_of key (rows_by_key compare key_of rows)
  read_at key rows place row ordered here read =
      sym (row_of-rows_by_key compare key_of group_of group_cmp order group_order same_key key rows ordered
      ∙ row_at (place_cmp compare group_of group_cmp) key_of (place_total compare key_of group_of group_cmp order group_order same_key) key rows place row ordered here read)

  pub none_read : (key : Key) (rows : List Row) (place : ℕ) → in_key_order (place_cmp compare group_of group_cmp) key_of rows ≡ true
      → IsGapFor (place_cmp compare group_of group_cmp) key_of key rows place → None ≡ row_of compare key_of key (rows_by_key compare key_of rows)
  none_read key rows place ordered gap =
      sym (row_of-rows_by_key compare key_of group_of group_cmp order group_order same_key key rows ordered
      ∙ none_in_gap (place_cmp compare group_of group_cmp) key_of (place_total compare key_of group_of group_cmp order group_order same_key) key rows place gap)

  pub none_taken : (key : Key) (rows : List Row) (place : ℕ) → in_key_order (place_cmp compare group_of group_cmp) key_of rows ≡ true
      → IsGapFor (place_cmp compare group_of group_cmp) key_of key rows place
      → rows_by_key compare key_of rows ≡ without_row compare key_of key (rows_by_key compare key_of rows)
  none_taken key rows place ordered gap =
      sym (without_row-missing compare key_of order key (rows_by_key compare key_of rows) (sym (none_read key rows place ordered gap)))
