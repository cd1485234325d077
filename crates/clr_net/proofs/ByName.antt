-- A row put among others by its name: where it is, that the names rise, and which rows there are.
use Rattle.std.proofs.Common.{◌≡◌, ◌∙◌, ℕ, zero, suc, ◌≤◌, Bool, true, false, not, List, [], ◌∷◌, ◌++◌, length, map, filter, take, drop, get_or, refl, sym, ap, arith, inl, inr, Ordering, Less, Equal}
use Rattle.std.proofs.Common.{Greater}
use Rattle.std.proofs.Math.Seq.{drop-append_seam, take-append_seam}
use Rattle.std.specs.List.{AllByRecursion, AllWithin, insert}
use Rattle.std.specs.List.Sorted.{IsPartitionedBy, IsPermutation, IsStrictlySortedBy}
use Rattle.std.specs.Ordering.{is_eq, is_gt, is_lt, ordering_reverse}
use Rattle.std.proofs.lemmas.Bool.{cases_lt, false≢true, or_parts}
use Rattle.std.proofs.lemmas.Cmp.{nat_list_cmp_total}
use Rattle.std.proofs.lemmas.List.{get_or-map, length-map, map-append}
use Rattle.std.proofs.lemmas.List.Elements.{filter-append}
use Rattle.std.proofs.lemmas.List.Sorted.{IsPermutation-cons, IsPermutation-filter_both, IsPermutation-insert, IsPermutation-trans}
use Rattle.std.proofs.lemmas.Map.Keys.{Less-from_sorted}
use Rattle.clr_net.specs.Additions.{with_named}
use Rattle.clr_net.specs.Prelude.{name_cmp, same_name, has_name}
use Rattle.clr_net.proofs.ListFacts.{filter-filter_comm, rising-filter}
use Rattle.clr_net.proofs.Places.{same_from_cmp}

is_less : (o : Ordering) → is_lt o ≡ true → o ≡ Less
is_less Less e = refl
is_less Equal e = cc
is_less Greater e = cc

less_is : (o : Ordering) → o ≡ Less → is_lt o ≡ true
less_is o e = ap is_lt e

-- what is above a name has it below
turned : (m n : List ℕ) → is_gt (name_cmp m n) ≡ true → name_cmp n m ≡ Less
turned m n e = nat_list_cmp_total.antisymm n m ∙ at (name_cmp m n) e
  where
    at : (o : Ordering) → is_gt o ≡ true → ordering_reverse o ≡ Less
    at Less e = cc
    at Equal e = cc
    at Greater e = refl

-- of two names that are not the same, one is above the other where it is not below
above_where : (m n : List ℕ) → same_name n m ≡ false → is_gt (name_cmp m n) ≡ not (is_lt (name_cmp m n))
above_where m n apart = at (name_cmp m n) (sym (same_from_cmp m n (name_cmp m n) refl) ∙ apart)
  where
    at : (o : Ordering) → is_eq (ordering_reverse o) ≡ false → is_gt o ≡ not (is_lt o)
    at Less e = refl
    at Equal e = cc
    at Greater e = refl

all_joined : (P : List ℕ → Type 0) (xs ys : List (List ℕ)) → AllByRecursion P xs → AllByRecursion P ys → AllByRecursion P (xs ++ ys)
all_joined P [] ys front back = back
all_joined P (x ∷ xs) ys front back = (front.0, all_joined P xs ys front.1 back)

all_weaker : (P Q : List ℕ → Type 0) → ((n : List ℕ) → P n → Q n) → (xs : List (List ℕ)) → AllByRecursion P xs → AllByRecursion Q xs
all_weaker P Q weaker [] all = tt
all_weaker P Q weaker (x ∷ xs) all = (weaker x all.0, all_weaker P Q weaker xs all.1)

-- names that rise, a name above all of them, and names that rise above it
joined : (xs ys : List (List ℕ)) (n : List ℕ) → IsStrictlySortedBy name_cmp xs → AllByRecursion (λ x. name_cmp x n ≡ Less) xs
    → AllByRecursion (λ y. name_cmp n y ≡ Less) ys → IsStrictlySortedBy name_cmp ys → IsStrictlySortedBy name_cmp (xs ++ n ∷ ys)
unfolding IsStrictlySortedBy
joined [] ys n low below above high = (above, high)
joined (x ∷ xs) ys n low below above high = (
  all_joined (λ y. name_cmp x y ≡ Less) xs (n ∷ ys) low.0
      (below.0, all_weaker (λ y. name_cmp n y ≡ Less) (λ y. name_cmp x y ≡ Less) (λ y e. nat_list_cmp_total.trans x n y below.0 e) ys above),
  joined xs ys n low.1 below.1 above high,
)

module _ {Row : Type 0} (name_of : Row → List ℕ) (row : Row) where
  abbrev lower : Row → Bool
  lower other = is_lt (name_cmp (name_of other) (name_of row))

  abbrev higher : Row → Bool
  higher other = is_gt (name_cmp (name_of other) (name_of row))

  lower_below : (rows : List Row) → AllByRecursion (λ x. name_cmp x (name_of row) ≡ Less) (map name_of (filter lower rows))
  lower_below [] = tt
  lower_below (other ∷ rows) = at (lower other) refl (lower_below rows)
    where
      at : (b : Bool) → lower other ≡ b → AllByRecursion (λ x. name_cmp x (name_of row) ≡ Less) (map name_of (filter lower rows))
          → AllByRecursion (λ x. name_cmp x (name_of row) ≡ Less) (map name_of (filter lower (other ∷ rows)))
      at true e more = rw e (is_less (name_cmp (name_of other) (name_of row)) e, more)
      at false e more = rw e more

  higher_above : (rows : List Row) → AllByRecursion (λ y. name_cmp (name_of row) y ≡ Less) (map name_of (filter higher rows))
  higher_above [] = tt
  higher_above (other ∷ rows) = at (higher other) refl (higher_above rows)
    where
      at : (b : Bool) → higher other ≡ b → AllByRecursion (λ y. name_cmp (name_of row) y ≡ Less) (map name_of (filter higher rows))
          → AllByRecursion (λ y. name_cmp (name_of row) y ≡ Less) (map name_of (filter higher (other ∷ rows)))
      at true e more = rw e (turned (name_of other) (name_of row) e, more)
      at false e more = rw e more

  -- the names rise with the new row
  pub rises_with_named : (rows : List Row) → IsStrictlySortedBy name_cmp (map name_of rows) → IsStrictlySortedBy name_cmp (map name_of (with_named name_of row rows))
  unfolding with_named
  rises_with_named rows rises =
      rw (map-append name_of (filter lower rows) (row ∷ filter higher rows))
      (joined (map name_of (filter lower rows)) (map name_of (filter higher rows)) (name_of row)
      (rising-filter name_cmp name_of lower rows rises) (lower_below rows) (higher_above rows) (rising-filter name_cmp name_of higher rows rises))

  -- where no row has the name, those that are not below it are above it
  higher_is : (rows : List Row) → has_name (map name_of rows) (name_of row) ≡ false → filter higher rows ≡ filter (λ other. not (lower other)) rows
  higher_is [] new = refl
  higher_is (other ∷ rows) new =
      let (apart, rest) = or_parts (same_name (name_of row) (name_of other)) (has_name (map name_of rows) (name_of row)) new in
      at (not (lower other)) refl (above_where (name_of other) (name_of row) apart) (higher_is rows rest)
    where
      at : (b : Bool) → not (lower other) ≡ b → higher other ≡ not (lower other) → filter higher rows ≡ filter (λ other. not (lower other)) rows
          → filter higher (other ∷ rows) ≡ filter (λ other. not (lower other)) (other ∷ rows)
      at true e same more = rw (same, e) (ap (λ (kept : List Row). other ∷ kept) more)
      at false e same more = rw (same, e) more

  -- the rows are the old ones and the new one
  pub moved_with_named : (rows : List Row) → has_name (map name_of rows) (name_of row) ≡ false → IsPermutation (row ∷ rows) (with_named name_of row rows)
  unfolding with_named
  moved_with_named rows new =
      let rest = filter (λ other. not (lower other)) rows in
      let apart = IsPermutation-cons row rows (filter lower rows ++ rest) (IsPermutation-filter_both lower (λ other. not (lower other)) (λ other. refl) rows) in
      let put : IsPermutation (row ∷ (filter lower rows ++ rest)) (filter lower rows ++ row ∷ rest) =
      rw (take-append_seam (filter lower rows) rest, drop-append_seam (filter lower rows) rest) at (IsPermutation-insert (filter lower rows ++ rest) (length (filter lower rows)) row) in
      rw (higher_is rows new) (IsPermutation-trans (row ∷ rows) (row ∷ (filter lower rows ++ rest)) (filter lower rows ++ row ∷ rest) apart put)

  -- rows in the order of names: those of lower names come before the others
  pub parted_by_name : (rows : List Row) → IsStrictlySortedBy name_cmp (map name_of rows) → IsPartitionedBy lower rows
  parted_by_name rows rises i j d before inside below = elim (cases_lt i j) [
    | inl less ↦
        let size = length-map rows name_of in
        let here : name_cmp (name_of (get_or rows i d)) (name_of (get_or rows j d)) ≡ Less =
        rw (sym (get_or-map name_of rows i d [] (omega arith)), sym (get_or-map name_of rows j d [] (omega arith)))
        (Less-from_sorted name_cmp (map name_of rows) i j [] rises less (omega arith)) in
        less_is _ (nat_list_cmp_total.trans (name_of (get_or rows i d)) (name_of (get_or rows j d)) (name_of row) here (is_less _ below))
    | inr not_less ↦ let same : i ≡ j = omega arith in rw same below
  ]

  sides : (rows : List Row) (place : ℕ) → place ≤ length rows → AllWithin (λ other. lower other ≡ true) rows 0 place
      → AllWithin (λ other. lower other ≡ false) rows place (length rows)
      → (filter lower rows ≡ take place rows) × (filter (λ other. not (lower other)) rows ≡ drop place rows)
  sides [] zero inside before after = (refl, refl)
  sides [] (suc place) inside before after = absurd (omega arith)
  sides (first ∷ rest) zero inside before after =
      let more = sides rest zero (omega arith) (λ k d le lt. absurd (omega arith)) (λ k d le lt. after (suc k) d (omega arith) (omega arith)) in
      rw (after 0 first (omega arith) (omega arith)) (more.0, ap (λ (rows : List Row). first ∷ rows) more.1)
  sides (first ∷ rest) (suc place) inside before after =
      let more = sides rest place (omega arith) (λ k d le lt. before (suc k) d (omega arith) (omega arith)) (λ k d le lt. after (suc k) d (omega arith) (omega arith)) in
      rw (before 0 first (omega arith) (omega arith)) (ap (λ (rows : List Row). first ∷ rows) more.0, more.1)

  -- a row of a new name inserted after those of lower names
  pub inserted_by_name : (rows : List Row) (place : ℕ) → has_name (map name_of rows) (name_of row) ≡ false → place ≤ length rows
      → AllWithin (λ other. lower other ≡ true) rows 0 place → AllWithin (λ other. lower other ≡ false) rows place (length rows)
      → insert rows place row ≡ with_named name_of row rows
  unfolding with_named
  inserted_by_name rows place new inside before after =
      let both = sides rows place inside before after in
      rw (higher_is rows new, both.0, both.1) refl

  -- above a row that is above the new one, there is none below it
  all_above : (first : Row) (rows : List Row) → name_cmp (name_of row) (name_of first) ≡ Less
      → AllByRecursion (λ y. name_cmp (name_of first) y ≡ Less) (map name_of rows) → (filter lower rows ≡ []) × (filter higher rows ≡ rows)
  all_above first [] less above = (refl, refl)
  all_above first (other ∷ rows) less above =
      let more = all_above first rows less above.1 in
      let after = nat_list_cmp_total.trans (name_of row) (name_of first) (name_of other) less above.0 in
      let is : name_cmp (name_of other) (name_of row) ≡ Greater = nat_list_cmp_total.antisymm (name_of other) (name_of row) ∙ ap ordering_reverse after in
      rw is (more.0, ap (λ (kept : List Row). other ∷ kept) more.1)

  -- rows in the order of names, none of them with the new one's: those below it, then those above it
  split_by_name : (rows : List Row) → IsStrictlySortedBy name_cmp (map name_of rows) → has_name (map name_of rows) (name_of row) ≡ false
      → filter lower rows ++ filter higher rows ≡ rows
  unfolding IsStrictlySortedBy
  split_by_name [] rises new = refl
  split_by_name (first ∷ rows) rises new =
      let (apart, rest) = or_parts (same_name (name_of row) (name_of first)) (has_name (map name_of rows) (name_of row)) new in
      at (name_cmp (name_of first) (name_of row)) refl apart (split_by_name rows rises.1 rest)
    where
      at : (o : Ordering) → name_cmp (name_of first) (name_of row) ≡ o → same_name (name_of row) (name_of first) ≡ false → filter lower rows ++ filter higher rows ≡ rows
          → filter lower (first ∷ rows) ++ filter higher (first ∷ rows) ≡ first ∷ rows
      at Less e apart more = rw e (ap (λ (kept : List Row). first ∷ kept) more)
      at Equal e apart more = absurd (false≢true (sym apart ∙ same_from_cmp (name_of first) (name_of row) Equal e))
      at Greater e apart more =
          let after : name_cmp (name_of row) (name_of first) ≡ Less = nat_list_cmp_total.antisymm (name_of row) (name_of first) ∙ ap ordering_reverse e in
          let both = all_above first rows after rises.0 in
          rw (e, both.0, both.1) refl

  -- a test that the new row passes keeps it too
  pub filter-with_named_inside : (q : Row → Bool) (rows : List Row) → q row ≡ true → filter q (with_named name_of row rows) ≡ with_named name_of row (filter q rows)
  unfolding with_named
  filter-with_named_inside q rows passes =
      rw (filter-append q (filter lower rows) (row ∷ filter higher rows), passes, filter-filter_comm q lower rows, filter-filter_comm q higher rows) refl

  -- a test that the new row fails keeps what it kept
  pub filter-with_named : (q : Row → Bool) (rows : List Row) → IsStrictlySortedBy name_cmp (map name_of rows) → has_name (map name_of rows) (name_of row) ≡ false
      → q row ≡ false → filter q (with_named name_of row rows) ≡ filter q rows
  unfolding with_named
  filter-with_named q rows rises new fails =
      filter-append q (filter lower rows) (row ∷ filter higher rows) ∙ rw fails refl
      ∙ sym (filter-append q (filter lower rows) (filter higher rows)) ∙ ap (λ (all : List Row). filter q all) (split_by_name rows rises new)
