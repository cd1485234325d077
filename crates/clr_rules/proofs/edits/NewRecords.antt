-- A new record, of the number after its requester's greatest.
use Rattle.std.proofs.Common.{◌≡◌, ℕ, ◌+◌, ◌<◌, ◌≤◌, suc, zero, Bool, true, false, not, List, [], ◌∷◌, ◌++◌, map, filter, Option, Some, None, Contains, length, refl, sym, ◌∙◌, ap, subst, arith, ◌⊎◌}
use Rattle.std.proofs.Common.{inl, inr, is_gt, is_lt, nat_cmp, Less, Equal, length-append}
use Rattle.std.specs.Cmp.{nat_cmp_is}
use Rattle.std.specs.List.{fold, list_all, range_with_len}
use Rattle.std.proofs.lemmas.Bool.Decides.{nat_tests}
use Rattle.clr_rules.proofs.Common.{nat_list_cmp_total, tied_itself, map-append, name_cmp, same_name, one_name, same_itself, filter-with_far, filter-with_inside, equal, member-row_of, with_row}
use Rattle.clr_rules.proofs.Common.{IsGoodByPhase, Record, Id, id_cmp, id_cmp_total, Register, greatest_number, record_key, record_of, there_mapped, Contains-filter, record_id}
use Rattle.clr_shelf.proofs.Lists.{Contains-cases, Contains-here, Contains-later, filter-none, filter-same}
use Rattle.clr_rules.specs.Id.{same_id_from_tie}
use Rattle.clr_rules.specs.Records.{greater_of, numbers_of}

-- ---- numbers

at_least : (xs : List ℕ) (a : ℕ) → a ≤ fold greater_of a xs
at_least [] a = omega arith
at_least (x ∷ xs) a = let more = at_least xs (greater_of a x) in let here : a ≤ greater_of a x = grind (arith, nat_tests) in omega arith

-- none is above the greatest
below_greatest : (xs : List ℕ) (a x : ℕ) → Contains xs x → x ≤ fold greater_of a xs
below_greatest [] a x (k, within, is) = absurd (omega arith)
below_greatest (y ∷ xs) a x there = at (below_greatest xs (greater_of a y) x) (Contains-cases y x xs there)
  where
    at : (Contains xs x → x ≤ fold greater_of (greater_of a y) xs) → (y ≡ x) ⊎ Contains xs x → x ≤ fold greater_of a (y ∷ xs)
    at later (inl here) =
        let more = at_least xs (greater_of a y) in
        let first : y ≤ greater_of a y = grind (arith, nat_tests) in
        let same : x ≤ greater_of a y = rw (← here) first in
        omega arith
    at later (inr there) = later there

-- of numbers that run on from one, the last is the greatest
greatest_of_range : (n a : ℕ) → fold greater_of a (range_with_len (a + 1) n) ≡ a + n
greatest_of_range zero a = omega arith
greatest_of_range (suc n) a =
    let next : greater_of a (a + 1) ≡ a + 1 = grind (arith, nat_tests) in
    let more = greatest_of_range n (a + 1) in
    ap (λ b. fold greater_of b (range_with_len (a + 1 + 1) n)) next ∙ more ∙ (omega arith)

range_more : (n a j : ℕ) → a + n ≡ j → range_with_len a n ++ j ∷ [] ≡ range_with_len a (suc n)
range_more zero a j is = let same : j ≡ a = omega arith in ap (λ k. k ∷ []) same
range_more (suc n) a j is = ap (λ xs. a ∷ xs) (range_more n (a + 1) j (omega arith))

-- numbers without a gap, and the next
next_number : (ns : List ℕ) → ns ≡ range_with_len 1 (length ns) → ns ++ (fold greater_of 0 ns + 1) ∷ [] ≡ range_with_len 1 (length (ns ++ (fold greater_of 0 ns + 1) ∷ []))
next_number ns h =
    let last : fold greater_of 0 ns ≡ length ns = ap (fold greater_of 0) h ∙ greatest_of_range (length ns) 0 ∙ (omega arith) in
    let count : length (ns ++ (fold greater_of 0 ns + 1) ∷ []) ≡ suc (length ns) = length-append ns ((fold greater_of 0 ns + 1) ∷ []) ∙ (omega arith) in
    ap (λ xs. xs ++ (fold greater_of 0 ns + 1) ∷ []) h
    ∙ range_more (length ns) 1 (fold greater_of 0 ns + 1) (omega arith)
    ∙ ap (range_with_len 1) (sym count)

-- ---- the record

-- what holds of each that a filter keeps
each_of : {X : Type 0} (q p : X → Bool) (xs : List X) → ((x : X) → Contains xs x → q x ≡ true → p x ≡ true) → list_all p (filter q xs) ≡ true
each_of q p [] each = refl
each_of {X = X} q p (x ∷ xs) each = at (q x) refl (each_of q p xs (λ y there. each y (Contains-later x y xs there)))
  where
    at : (b : Bool) → q x ≡ b → list_all p (filter q xs) ≡ true → list_all p (filter q (x ∷ xs)) ≡ true
    at true is more = rw (is, each x (Contains-here x xs) is) more
    at false is more = rw is more

abbrev pub is_of : List ℕ → Record → Bool
is_of requester r = same_name requester r.id.requester

module _ (records : List Record) (by : List ℕ) where
  -- a number of the requester's is at most the greatest
  known_number : (r : Record) → Contains records r → is_of by r ≡ true → r.id.number ≤ greatest_number records by
  unfolding greatest_number
  known_number r there own = below_greatest (numbers_of records by) 0 r.id.number
      (there_mapped (λ (r : Record). r.id.number) (filter (is_of by) records) r (Contains-filter (is_of by) records r there own))

module _ (R : Register) (by : List ℕ) where
  -- the next number is no clearance's yet
  pub next_is_free : record_of R.records (record { requester = by; number = greatest_number R.records by + 1 }) ≡ None
  next_is_free = at (record_of R.records (record { requester = by; number = greatest_number R.records by + 1 })) refl
    where
      at : (o : Option Record) → record_of R.records (record { requester = by; number = greatest_number R.records by + 1 }) ≡ o
          → record_of R.records (record { requester = by; number = greatest_number R.records by + 1 }) ≡ None
      at None none = none
      at (Some r) found =
          let id = record_id R.records (record { requester = by; number = greatest_number R.records by + 1 }) r found in
          let there = (member-row_of id_cmp record_key id_cmp_total (record { requester = by; number = greatest_number R.records by + 1 }) r R.records found).0 in
          let name : same_name by r.id.requester ≡ true = ap (λ (d : Id). same_name by d.requester) id ∙ same_itself by in
          let number : r.id.number ≡ greatest_number R.records by + 1 = ap (λ (d : Id). d.number) id in
          let below = known_number R.records by r there name in
          absurd (omega arith)

module _ (R : Register) (good : IsGoodByPhase R) (by : List ℕ) (new : Record) (own : new.id ≡ record { requester = by; number = greatest_number R.records by + 1 }) where
  -- it comes after the requester's others
  after_others : filter (is_of by) (with_row id_cmp record_key new R.records) ≡ filter (is_of by) R.records ++ new ∷ []
  unfolding with_row
  after_others =
      filter-with_inside id_cmp record_key id_cmp_total (is_of by) new R.records (ap (λ (d : Id). same_name by d.requester) own ∙ same_itself by)
      ∙ (λ i. filter-same (λ (other : Record). is_lt (id_cmp other.id new.id)) (filter (is_of by) R.records) all_before i
      ++ new ∷ filter-none (λ (other : Record). is_gt (id_cmp other.id new.id)) (filter (is_of by) R.records) none_after i)
    where
      before : (other : Record) → Contains R.records other → is_of by other ≡ true → id_cmp other.id new.id ≡ Less
      before other there is =
          let name : name_cmp other.id.requester by ≡ Equal = rw (← one_name by other.id.requester is) (tied_itself nat_list_cmp_total by) in
          let number : other.id.number < greatest_number R.records by + 1 = let below = known_number R.records by other there is in omega arith in
          let less : nat_cmp other.id.number (greatest_number R.records by + 1) ≡ Less = sym (nat_cmp_is other.id.number (greatest_number R.records by + 1) Less number) in
          rw (own, name, less) refl

      all_before : list_all (λ (other : Record). is_lt (id_cmp other.id new.id)) (filter (is_of by) R.records) ≡ true
      all_before = each_of (is_of by) (λ (other : Record). is_lt (id_cmp other.id new.id)) R.records (λ other there is. ap is_lt (before other there is))

      none_after : list_all (λ (other : Record). not (is_gt (id_cmp other.id new.id))) (filter (is_of by) R.records) ≡ true
      none_after = each_of (is_of by) (λ (other : Record). not (is_gt (id_cmp other.id new.id))) R.records (λ other there is. ap (λ o. not (is_gt o)) (before other there is))

  new_numbers : numbers_of (with_row id_cmp record_key new R.records) by ≡ numbers_of R.records by ++ (greatest_number R.records by + 1) ∷ []
  new_numbers =
      ap (map (λ (r : Record). r.id.number)) after_others
      ∙ map-append (λ (r : Record). r.id.number) (filter (is_of by) R.records) (new ∷ [])
      ∙ ap (λ (d : Id). numbers_of R.records by ++ d.number ∷ []) own

  -- with it the numbers have no gaps
  pub new_numbered : (requester : List ℕ) → numbers_of (with_row id_cmp record_key new R.records) requester
      ≡ range_with_len 1 (length (numbers_of (with_row id_cmp record_key new R.records) requester))
  unfolding greatest_number
  new_numbered requester = at (same_name requester by) refl
    where
      at : (b : Bool) → same_name requester by ≡ b → numbers_of (with_row id_cmp record_key new R.records) requester
          ≡ range_with_len 1 (length (numbers_of (with_row id_cmp record_key new R.records) requester))
      at true is = rw (one_name requester by is) (subst (λ (ns : List ℕ). ns ≡ range_with_len 1 (length ns)) (sym new_numbers) (next_number (numbers_of R.records by) (good.numbered by)))
      at false differs =
          let same : numbers_of (with_row id_cmp record_key new R.records) requester ≡ numbers_of R.records requester =
          ap (map (λ (r : Record). r.id.number)) (filter-with_far id_cmp record_key id_cmp_total (is_of requester) new R.records good.in_order.records
          (λ other tied. ap (λ (d : Id). same_name requester d.requester) (same_id_from_tie other.id new.id (equal (id_cmp other.id new.id) tied) ∙ own) ∙ differs)) in
          subst (λ (ns : List ℕ). ns ≡ range_with_len 1 (length ns)) (sym same) (good.numbered requester)
