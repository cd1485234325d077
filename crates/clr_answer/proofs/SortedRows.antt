-- Rows that a sort has put in the order of their keys, where no two of them have one key.
use Rattle.std.proofs.Common.{◌≡◌, ◌∙◌, ◌<◌, ℕ, ◌+◌, Bool, true, false, List, [], ◌∷◌, length, map, filter, get_or, arith, refl, sym, ap, ◌&&◌}
use Rattle.std.specs.List.{AllByRecursion, IsDistinct, list_all}
use Rattle.std.specs.List.Sorted.{IsPermutation, IsSortedByKey, IsStrictlySortedBy}
use Rattle.std.specs.Cmp.{IsTotalOrder}
use Rattle.std.specs.Ordering.{eq_by_cmp, is_eq, is_lt, ordering_reverse}
use Rattle.std.specs.declared.cmp.Ordering.{Ordering}
use Rattle.std.specs.declared.cmp.Ordering.TheVariants.{Less, Equal, Greater}
use Rattle.std.proofs.lemmas.Bool.{both_ways}
use Rattle.std.proofs.lemmas.Cmp.{eq_by_cmp_equiv}
use Rattle.std.proofs.lemmas.List.{get_or-map, length-map}
use Rattle.std.proofs.lemmas.List.Sorted.{IsPermutation-map}
use Rattle.std.proofs.lemmas.Map.Keys.{IsDistinct-IsPermutation, IsDistinct-cons, apart_from_distinct, sorted_from_all_adjacent}
use mathlib.Core.Bool.{true≢false}
use Rattle.clr_shelf.proofs.KeyOrder.{in_key_order-first, in_key_order-rest}
use Rattle.clr_shelf.proofs.Keys.{less}
use Rattle.clr_shelf.specs.Rows.{in_key_order}
use Rattle.clr_shelf.proofs.SameRows.{same_from_permutation}
use Rattle.clr_rules.proofs.good.Opening.{in_key_order-from_sorted}

module _ {Key Row : Type 0} (compare : Key → Key → Ordering) (key_of : Row → Key) (order : IsTotalOrder compare) where
  -- of two keys that differ the first is lower, where the second is not
  lower : (a b : Key) (o : Ordering) → compare b a ≡ o → is_lt o ≡ false → is_eq (compare a b) ≡ false → compare a b ≡ Less
  lower a b Less e not_less apart = absurd (true≢false not_less)
  lower a b Equal e not_less apart = absurd (both_ways (is_eq (compare a b)) apart (ap is_eq (order.antisymm a b ∙ ap ordering_reverse e)))
  lower a b Greater e not_less apart = order.antisymm a b ∙ ap ordering_reverse e

  apart_all : (row : Row) (rest : List Row) → list_all (λ next. is_lt (compare (key_of row) (key_of next))) rest ≡ true
      → AllByRecursion (λ key. eq_by_cmp compare (key_of row) key ≡ false) (map key_of rest)
  apart_all row [] above = tt
  apart_all row (next ∷ rest) above = at (is_lt (compare (key_of row) (key_of next))) refl above (λ more. apart_all row rest more)
    where
      at : (b : Bool) → is_lt (compare (key_of row) (key_of next)) ≡ b → (b && list_all (λ next. is_lt (compare (key_of row) (key_of next))) rest) ≡ true
          → (list_all (λ next. is_lt (compare (key_of row) (key_of next))) rest ≡ true → AllByRecursion (λ key. eq_by_cmp compare (key_of row) key ≡ false) (map key_of rest))
          → AllByRecursion (λ key. eq_by_cmp compare (key_of row) key ≡ false) (key_of next ∷ map key_of rest)
      at true e more others = (ap is_eq (less (compare (key_of row) (key_of next)) e), others more)
      at false e more others = absurd (true≢false (sym more))

  -- rows in key order have different keys
  distinct_keys : (rows : List Row) → in_key_order compare key_of rows ≡ true → IsDistinct (eq_by_cmp compare) (map key_of rows)
  unfolding IsDistinct
  distinct_keys [] ordered = tt
  distinct_keys (row ∷ rest) ordered =
      IsDistinct-cons (eq_by_cmp compare) (key_of row) (map key_of rest) (apart_all row rest (in_key_order-first compare key_of order row rest ordered))
      (distinct_keys rest (in_key_order-rest compare key_of order row rest ordered))

  -- keys that do not fall and differ rise
  rising : (rows : List Row) → IsSortedByKey key_of compare rows → IsDistinct (eq_by_cmp compare) (map key_of rows) → IsStrictlySortedBy compare (map key_of rows)
  unfolding IsStrictlySortedBy
  rising [] sorted once = tt
  rising (row ∷ rest) sorted once = sorted_from_all_adjacent order (map key_of (row ∷ rest)) (key_of row) rises
    where
      rises : (k : ℕ) → k + 1 < length (map key_of (row ∷ rest)) → compare (get_or (map key_of (row ∷ rest)) k (key_of row)) (get_or (map key_of (row ∷ rest)) (k + 1) (key_of row)) ≡ Less
      rises k inside =
          let size = length-map (row ∷ rest) key_of in
          let here = get_or-map key_of (row ∷ rest) k row (key_of row) (omega arith) in
          let next = get_or-map key_of (row ∷ rest) (k + 1) row (key_of row) (omega arith) in
          let apart = apart_from_distinct (eq_by_cmp compare) (map key_of (row ∷ rest)) k (k + 1) (key_of row) once (omega arith) inside in
          lower (get_or (map key_of (row ∷ rest)) k (key_of row)) (get_or (map key_of (row ∷ rest)) (k + 1) (key_of row))
          (compare (get_or (map key_of (row ∷ rest)) (k + 1) (key_of row)) (get_or (map key_of (row ∷ rest)) k (key_of row))) refl
          (rw (here, next) (sorted k row (omega arith) (omega arith))) apart

  -- rows that are sorted are those that they are a permutation of, if these are in key order
  pub same_from_sorted : (rows sorted : List Row) → in_key_order compare key_of rows ≡ true → IsPermutation rows sorted → IsSortedByKey key_of compare sorted
      → sorted ≡ rows
  same_from_sorted rows sorted ordered moved up =
      sym (same_from_permutation compare key_of order rows sorted ordered
      (in_key_order-from_sorted compare key_of sorted (rising sorted up
      (IsDistinct-IsPermutation (eq_by_cmp compare) ((eq_by_cmp_equiv order).symm) (map key_of rows) (map key_of sorted) (IsPermutation-map key_of rows sorted moved) (distinct_keys rows ordered))))
      moved)

-- items that are sorted by the keys of what they show, show sorted rows
pub sorted-map : {Key Row X : Type 0} (compare : Key → Key → Ordering) (key_of : Row → Key) (shows : X → Row) (items : List X)
    → IsSortedByKey (λ x. key_of (shows x)) compare items → IsSortedByKey key_of compare (map shows items)
sorted-map compare key_of shows [] sorted k d above inside = absurd (omega arith)
sorted-map compare key_of shows (x ∷ items) sorted k d above inside =
    let size = length-map (x ∷ items) shows in
    rw (get_or-map shows (x ∷ items) k x d (omega arith), get_or-map shows (x ∷ items) (k + 1) x d (omega arith)) (sorted k x above (omega arith))

module _ {Key Row : Type 0} (compare : Key → Key → Ordering) (key_of : Row → Key) (q : Row → Bool) where
  all_kept : (P : Key → Type 0) (rows : List Row) → AllByRecursion P (map key_of rows) → AllByRecursion P (map key_of (filter q rows))
  all_kept P [] all = tt
  all_kept P (row ∷ rows) all = at (q row) refl (all_kept P rows all.1)
    where
      at : (b : Bool) → q row ≡ b → AllByRecursion P (map key_of (filter q rows)) → AllByRecursion P (map key_of (filter q (row ∷ rows)))
      at true e more = rw e (all.0, more)
      at false e more = rw e more

  -- rows whose keys rise still do so when some are left out
  pub rising-filter : (rows : List Row) → IsStrictlySortedBy compare (map key_of rows) → IsStrictlySortedBy compare (map key_of (filter q rows))
  unfolding IsStrictlySortedBy
  rising-filter [] rises = tt
  rising-filter (row ∷ rows) rises = at (q row) refl (rising-filter rows rises.1)
    where
      at : (b : Bool) → q row ≡ b → IsStrictlySortedBy compare (map key_of (filter q rows)) → IsStrictlySortedBy compare (map key_of (filter q (row ∷ rows)))
      at true e more = rw e (all_kept (λ key. compare (key_of row) key ≡ Less) rows rises.0, more)
      at false e more = rw e more
