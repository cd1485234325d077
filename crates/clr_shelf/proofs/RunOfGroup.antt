-- The rows of a group are the run between those below it and those above it.
use Rattle.std.proofs.Common.{◌≡◌, ◌∙◌, ℕ, ◌+◌, ◌<◌, ◌≤◌, Bool, true, false, List, filter, get_or, length, slice_range, sym, ap, Ordering, Less, Equal, Greater}
use Rattle.std.specs.Cmp.{IsTotalOrder}
use Rattle.std.specs.List.Sorted.{IsPartitionPoint}
use Rattle.std.specs.Ordering.{is_eq, is_le, is_lt}
use Rattle.clr_shelf.specs.ByKey.{rows_by_key}
use Rattle.clr_shelf.specs.Places.{place_cmp}
use Rattle.clr_shelf.specs.Rows.{in_key_order}
use Rattle.clr_shelf.proofs.ByGroup.{filter-rows_by_key, groups_rise}
use Rattle.clr_shelf.proofs.GroupRuns.{filter-between, partitioned_lower, start_le_end}
use Rattle.clr_shelf.proofs.Halves.{partition_from_point}

pub lower_no_higher : (o : Ordering) → is_lt o ≡ true → is_le o ≡ true
lower_no_higher Less lt = cc
lower_no_higher Equal lt = cc
lower_no_higher Greater lt = cc

module _ {Key Row Group : Type 0} (compare : Key → Key → Ordering) (key_of : Row → Key) (group_of : Key → Group) (group_cmp : Group → Group → Ordering)
    (order : IsTotalOrder compare) (group_order : IsTotalOrder group_cmp) (same_key : (a b : Key) → compare a b ≡ Equal → a ≡ b)
    (group : Group) (is_in : Row → Bool) (in_one_group : (row : Row) → is_in row ≡ is_eq (group_cmp (group_of (key_of row)) group))
    (rows : List Row) (ordered : in_key_order (place_cmp compare group_of group_cmp) key_of rows ≡ true) (start end : ℕ) where
  pub run_of_group : start ≤ end → end ≤ length rows
      → IsPartitionPoint (λ row. is_lt (group_cmp (group_of (key_of row)) group) ≡ true) (λ row. is_lt (group_cmp (group_of (key_of row)) group) ≡ false) rows start
      → IsPartitionPoint (λ row. is_le (group_cmp (group_of (key_of row)) group) ≡ true) (λ row. is_le (group_cmp (group_of (key_of row)) group) ≡ false) rows end
      → slice_range rows start end ≡ filter is_in (rows_by_key compare key_of rows)
  run_of_group rises within starts ends =
      sym (filter-between (λ row. group_cmp (group_of (key_of row)) group) start end rows rises within starts ends)
      ∙ ap (λ p. filter p rows) (λ i row. sym (in_one_group row) i)
      ∙ filter-rows_by_key compare key_of group_of group_cmp order group_order same_key group is_in in_one_group rows ordered

  -- where the row before the start is below the group, and the one there is not
  pub run_from_start : start ≤ length rows
      → ((k : ℕ) (d : Row) → k + 1 ≡ start → is_lt (group_cmp (group_of (key_of (get_or rows k d))) group) ≡ true)
      → ((d : Row) → start < length rows → is_lt (group_cmp (group_of (key_of (get_or rows start d))) group) ≡ false)
      → end ≤ length rows
      → IsPartitionPoint (λ row. is_le (group_cmp (group_of (key_of row)) group) ≡ true) (λ row. is_le (group_cmp (group_of (key_of row)) group) ≡ false) rows end
      → (start ≤ end) × (slice_range rows start end ≡ filter is_in (rows_by_key compare key_of rows))
  run_from_start fits before here within ends =
      let side = λ (row : Row). group_cmp (group_of (key_of row)) group in
      let rise = groups_rise compare key_of group_of group_cmp order group_order same_key group rows ordered in
      let starts = partition_from_point (λ row. is_lt (side row)) rows start (partitioned_lower side rows rise) fits before here in
      let rises = start_le_end side start end rows fits starts ends in
      (rises, run_of_group rises within starts ends)
