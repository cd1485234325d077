-- Where in a list by group and then key the rows of a group begin and end: they are one run of it.
use Rattle.std.proofs.Common.{◌≡◌, ℕ, zero, suc, ◌+◌, ◌-◌, ◌<◌, ◌≤◌, Bool, true, false, List, [], ◌∷◌, take, drop, length, get_or, Some, None, refl, ◌∙◌, ap, arith, Ordering, Less, Equal, Greater}
use Rattle.std.specs.List.{filter, AllWithin, last_or, slice_get}
use Rattle.std.specs.List.Sorted.{IsNonDecreasingBy, IsPartitionedBy, IsPartitionPoint}
use Rattle.std.specs.Ordering.{is_lt, is_eq, is_le, ordering_index}

lower_too : (a b : Ordering) → ordering_index a ≤ ordering_index b → is_lt b ≡ true → is_lt a ≡ true
lower_too Less b le lt = refl
lower_too Equal Less le lt = absurd (omega arith)
lower_too Equal Equal le lt = lt
lower_too Equal Greater le lt = lt
lower_too Greater Less le lt = absurd (omega arith)
lower_too Greater Equal le lt = lt
lower_too Greater Greater le lt = lt

no_higher_too : (a b : Ordering) → ordering_index a ≤ ordering_index b → is_le b ≡ true → is_le a ≡ true
no_higher_too Less b le h = refl
no_higher_too Equal b le h = refl
no_higher_too Greater Less le h = absurd (omega arith)
no_higher_too Greater Equal le h = absurd (omega arith)
no_higher_too Greater Greater le h = h

-- neither below nor above
tied_from : (o : Ordering) → is_lt o ≡ false → is_le o ≡ true → is_eq o ≡ true
tied_from Less l g = cc
tied_from Equal l g = refl
tied_from Greater l g = cc

apart_below : (o : Ordering) → is_lt o ≡ true → is_eq o ≡ false
apart_below Less l = refl
apart_below Equal l = cc
apart_below Greater l = refl

apart_above : (o : Ordering) → is_le o ≡ false → is_eq o ≡ false
apart_above Less l = refl
apart_above Equal l = cc
apart_above Greater l = refl

not_both : (o : Ordering) → is_lt o ≡ true → is_le o ≡ false → ⊥
not_both Less l g = cc
not_both Equal l g = cc
not_both Greater l g = cc

module _ {Row : Type 0} (side : Row → Ordering) where
  pub partitioned_lower : (rows : List Row) → IsNonDecreasingBy (λ row. ordering_index (side row)) rows → IsPartitionedBy (λ row. is_lt (side row)) rows
  partitioned_lower rows rise i j d le within lt = lower_too (side (get_or rows i d)) (side (get_or rows j d)) (rise i j d le within) lt

  pub partitioned_no_higher : (rows : List Row) → IsNonDecreasingBy (λ row. ordering_index (side row)) rows → IsPartitionedBy (λ row. is_le (side row)) rows
  partitioned_no_higher rows rise i j d le within h = no_higher_too (side (get_or rows i d)) (side (get_or rows j d)) (rise i j d le within) h

-- a filter keeps a run where its test passes that run and nothing before or after it
filter-run : {Row : Type 0} (p : Row → Bool) (rows : List Row) (start count : ℕ) → start + count ≤ length rows
    → AllWithin (λ row. p row ≡ false) rows 0 start → AllWithin (λ row. p row ≡ true) rows start (start + count)
    → AllWithin (λ row. p row ≡ false) rows (start + count) (length rows)
    → filter p rows ≡ take count (drop start rows)
filter-run p [] zero zero fits before within after = refl
filter-run p [] zero (suc count) fits before within after = absurd (omega arith)
filter-run p [] (suc start) count fits before within after = absurd (omega arith)
filter-run p (row ∷ rest) zero zero fits before within after =
    rw (after 0 row (omega arith) (omega arith))
    (filter-run p rest 0 0 (omega arith) (λ k d le lt. absurd (omega arith)) (λ k d le lt. absurd (omega arith)) (λ k d le lt. after (suc k) d (omega arith) (omega arith)))
filter-run p (row ∷ rest) zero (suc count) fits before within after =
    rw (within 0 row (omega arith) (omega arith))
    (ap (λ rows. row ∷ rows) (filter-run p rest 0 count (omega arith) (λ k d le lt. absurd (omega arith)) (λ k d le lt. within (suc k) d (omega arith) (omega arith)) (λ k d le lt. after (suc k) d (omega arith) (omega arith))))
filter-run p (row ∷ rest) (suc start) count fits before within after =
    rw (before 0 row (omega arith) (omega arith))
    (filter-run p rest start count (omega arith) (λ k d le lt. before (suc k) d (omega arith) (omega arith)) (λ k d le lt. within (suc k) d (omega arith) (omega arith)) (λ k d le lt. after (suc k) d (omega arith) (omega arith)))

module _ {Row : Type 0} (side : Row → Ordering) (start end : ℕ) where
  -- the rows that are not below begin no later than those that are above
  pub start_le_end : (rows : List Row) → start ≤ length rows → IsPartitionPoint (λ row. is_lt (side row) ≡ true) (λ row. is_lt (side row) ≡ false) rows start
      → IsPartitionPoint (λ row. is_le (side row) ≡ true) (λ row. is_le (side row) ≡ false) rows end → start ≤ end
  start_le_end [] fits starts ends = omega arith
  start_le_end (row ∷ rest) fits starts ends =
      let at_end : end < start → ⊥ = λ later. not_both (side (get_or (row ∷ rest) end row)) (starts.0 end row (omega arith) later) (ends.1 end row (omega arith) (omega arith)) in
      grind (arith, at_end)

  pub filter-between : (rows : List Row) → start ≤ end → end ≤ length rows → IsPartitionPoint (λ row. is_lt (side row) ≡ true) (λ row. is_lt (side row) ≡ false) rows start
      → IsPartitionPoint (λ row. is_le (side row) ≡ true) (λ row. is_le (side row) ≡ false) rows end
      → filter (λ row. is_eq (side row)) rows ≡ take (end - start) (drop start rows)
  filter-between rows le fits starts ends =
      filter-run (λ row. is_eq (side row)) rows start (end - start) (omega arith)
      (λ k d low high. apart_below (side (get_or rows k d)) (starts.0 k d low high))
      (λ k d low high. tied_from (side (get_or rows k d)) (starts.1 k d low (omega arith)) (ends.0 k d (omega arith) (omega arith)))
      (λ k d low high. apart_above (side (get_or rows k d)) (ends.1 k d (omega arith) high))

after_first : {X : Type 0} (x : X) (xs : List X) → slice_get (x ∷ xs) (length xs) ≡ last_or (Some x) xs
after_first x [] = refl
after_first x (y ∷ ys) = after_first y ys

-- the last of a list is at its end
pub last_or-slice_get : {X : Type 0} (xs : List X) → slice_get xs (length xs - 1) ≡ last_or None xs
last_or-slice_get [] = refl
last_or-slice_get (x ∷ xs) = let at_end : length (x ∷ xs) - 1 ≡ length xs = omega arith in ap (slice_get (x ∷ xs)) at_end ∙ after_first x xs
