-- The greatest number of a requester's clearances, after a record is put.
use Rattle.std.proofs.Common.{◌≡◌, ℕ, Bool, true, false, cond, List, [], ◌∷◌, map, refl, sym, ◌∙◌, ap, arith, is_some, Some, ◌⊎◌, inl, inr, ⊎_elim, nat_le, get_or, subst, ◌≤◌, filter, fold, All}
use Rattle.std.proofs.Common.{Contains, is_eq, Ordering, Less, Equal, Greater}
use Rattle.std.proofs.lemmas.Bool.Decides.{nat_tests}
use Rattle.std.proofs.lemmas.List.Elements.{Contains-get_or}
use Rattle.clr_rules.proofs.Common.{one_name, same_itself, same_name, Contains-here, Contains-later, filter-with_far, filter-with_inside, equal, in_key_order-filter, in_key_order-rest, row_of-with}
use Rattle.clr_rules.proofs.Common.{in_key_order, row_of, with_row, has_record, Record}
use Rattle.clr_shelf.proofs.FirstRow.{keys-with_row, with_row-after, with_row-before, with_row-over}
use Rattle.clr_rules.specs.Id.{Id, id_cmp, id_cmp_total, same_id_from_tie}
use Rattle.clr_rules.specs.Records.{greater_of, greatest_number, numbers_of, record_key}
use Rattle.clr_rules.proofs.lists.NewNumbers.{number_below_greatest}
use Rattle.clr_rules.proofs.lists.Filters.{kept_there, mapped_from}

-- of three numbers the greatest, in either order
pub greater_swap : (a n m : ℕ) → greater_of (greater_of a n) m ≡ greater_of (greater_of a m) n
greater_swap a n m = grind (arith, nat_tests)

pub greater_again : (a n : ℕ) → greater_of (greater_of a n) n ≡ greater_of a n
greater_again a n = grind (arith, nat_tests)

-- a number more, before or after the others
fold_more : (xs : List ℕ) (a n : ℕ) → fold greater_of (greater_of a n) xs ≡ greater_of (fold greater_of a xs) n
fold_more [] a n = refl
fold_more (x ∷ xs) a n = ap (λ b. fold greater_of b xs) (greater_swap a n x) ∙ fold_more xs (greater_of a x) n

-- the greatest number of some rows
abbrev greatest_in : ℕ → List Record → ℕ
greatest_in a rows = fold greater_of a (map (λ r. r.id.number) rows)

-- of rows in key order, after one is put
greatest_put : (r : Record) (rows : List Record) (a : ℕ) → in_key_order id_cmp record_key rows ≡ true
    → greatest_in a (with_row id_cmp record_key r rows) ≡ greater_of (greatest_in a rows) r.id.number
unfolding with_row
greatest_put r [] a ordered = refl
greatest_put r (first ∷ rest) a ordered = at (id_cmp first.id r.id) refl
    (greatest_put r rest (greater_of a first.id.number) (in_key_order-rest id_cmp record_key id_cmp_total first rest ordered))
  where
    at : (o : Ordering) → id_cmp first.id r.id ≡ o
        → greatest_in (greater_of a first.id.number) (with_row id_cmp record_key r rest) ≡ greater_of (greatest_in (greater_of a first.id.number) rest) r.id.number
        → greatest_in a (with_row id_cmp record_key r (first ∷ rest)) ≡ greater_of (greatest_in a (first ∷ rest)) r.id.number
    at Less is more = ap (greatest_in a) (with_row-after id_cmp record_key id_cmp_total r first rest is) ∙ more
    at Equal is more =
        let xs = map (λ (s : Record). s.id.number) rest in
        ap (greatest_in a) (with_row-over id_cmp record_key id_cmp_total r first rest ordered is)
        ∙ fold_more xs a r.id.number
        ∙ sym (greater_again (fold greater_of a xs) r.id.number)
        ∙ ap (λ k. greater_of k r.id.number) (sym (fold_more xs a r.id.number))
        ∙ ap (λ (d : Id). greater_of (fold greater_of (greater_of a d.number) xs) r.id.number) (sym (same_id_from_tie first.id r.id is))
    at Greater is more =
        let xs = map (λ (s : Record). s.id.number) rest in
        ap (greatest_in a) (with_row-before id_cmp record_key id_cmp_total r first rest ordered is)
        ∙ ap (λ k. fold greater_of k xs) (greater_swap a r.id.number first.id.number)
        ∙ fold_more xs (greater_of a first.id.number) r.id.number

put_tested : (r : Record) (records : List Record) (requester : List ℕ) → in_key_order id_cmp record_key records ≡ true
    → (b : Bool) → same_name requester r.id.requester ≡ b
    → greatest_number (with_row id_cmp record_key r records) requester
    ≡ cond b (greater_of (greatest_number records requester) r.id.number) (greatest_number records requester)
unfolding greatest_number
put_tested r records requester ordered true is =
    let own = λ (s : Record). same_name requester s.id.requester in
    ap (greatest_in 0) (filter-with_inside id_cmp record_key id_cmp_total own r records is)
    ∙ greatest_put r (filter own records) 0 (in_key_order-filter id_cmp record_key id_cmp_total own records ordered)
put_tested r records requester ordered false is =
    let own = λ (s : Record). same_name requester s.id.requester in
    ap (greatest_in 0) (filter-with_far id_cmp record_key id_cmp_total own r records ordered
    (λ other tied. rw (same_id_from_tie other.id r.id (equal (id_cmp other.id r.id) tied)) is))

-- the greatest number after a record is put: a record of the requester counts
pub greatest-put : (r : Record) (records : List Record) (requester : List ℕ) → in_key_order id_cmp record_key records ≡ true
    → greatest_number (with_row id_cmp record_key r records) requester
    ≡ cond (same_name requester r.id.requester) (greater_of (greatest_number records requester) r.id.number) (greatest_number records requester)
greatest-put r records requester ordered = put_tested r records requester ordered (same_name requester r.id.requester) refl

-- the numbers as a question to the records' ids
pub numbers_by_ids : (requester : List ℕ) (records : List Record)
    → numbers_of records requester ≡ map (λ (d : Id). d.number) (filter (λ d. same_name requester d.requester) (map record_key records))
numbers_by_ids requester [] = refl
numbers_by_ids requester (r ∷ records) = at (same_name requester r.id.requester) refl (numbers_by_ids requester records)
  where
    at : (b : Bool) → same_name requester r.id.requester ≡ b
        → numbers_of records requester ≡ map (λ (d : Id). d.number) (filter (λ d. same_name requester d.requester) (map record_key records))
        → numbers_of (r ∷ records) requester ≡ map (λ (d : Id). d.number) (filter (λ d. same_name requester d.requester) (map record_key (r ∷ records)))
    at true is more = rw (is, more) refl
    at false is more = rw (is, more) refl

-- a record put over another leaves the greatest number
pub greatest-put_over : (r : Record) (records : List Record) (requester : List ℕ) → in_key_order id_cmp record_key records ≡ true
    → has_record records r.id ≡ true
    → greatest_number (with_row id_cmp record_key r records) requester ≡ greatest_number records requester
unfolding greatest_number
greatest-put_over r records requester ordered there =
    let keys = keys-with_row id_cmp record_key id_cmp_total same_id_from_tie r records ordered there in
    ap (fold greater_of 0) (numbers_by_ids requester (with_row id_cmp record_key r records)
    ∙ ap (λ (ids : List Id). map (λ (d : Id). d.number) (filter (λ d. same_name requester d.requester) ids)) keys
    ∙ sym (numbers_by_ids requester records))

-- a record that is there is there still when one is put
pub has_record-put : (c : Id) (r : Record) (records : List Record) → has_record records c ≡ true → has_record (with_row id_cmp record_key r records) c ≡ true
has_record-put c r records there = at (is_eq (id_cmp r.id c)) (row_of-with id_cmp record_key id_cmp_total c r records)
  where
    at : (b : Bool) → row_of id_cmp record_key c (with_row id_cmp record_key r records) ≡ cond b (Some r) (row_of id_cmp record_key c records)
        → has_record (with_row id_cmp record_key r records) c ≡ true
    at true read = ap is_some read
    at false read = ap is_some read ∙ there

-- ---- what the greatest number is

one_of_both : (a n : ℕ) (b : Bool) → nat_le a n ≡ b → (greater_of a n ≡ a) ⊎ (greater_of a n ≡ n)
one_of_both a n true is = inr (rw is refl)
one_of_both a n false is = inl (rw is refl)

is_one_of : (xs : List ℕ) (a : ℕ) → (fold greater_of a xs ≡ a) ⊎ Contains xs (fold greater_of a xs)
is_one_of [] a = inl refl
is_one_of (x ∷ xs) a = ⊎_elim
    (λ start. ⊎_elim (λ is_a. inl (start ∙ is_a)) (λ is_x. inr (subst (λ (n : ℕ). Contains (x ∷ xs) n) (sym (start ∙ is_x)) (Contains-here x xs))) (one_of_both a x (nat_le a x) refl))
    (λ later. inr (Contains-later x (fold greater_of a (x ∷ xs)) xs later))
    (is_one_of xs (greater_of a x))

pub greatest_is_greatest : (records : List Record) (requester : List ℕ)
    → All (λ r. requester ≡ r.id.requester → r.id.number ≤ greatest_number records requester) records
    × ((greatest_number records requester ≡ 0) ⊎ ((r : Record) × Contains records r × (requester ≡ r.id.requester) × (r.id.number ≡ greatest_number records requester)))
unfolding greatest_number
greatest_is_greatest records requester =
    let own = λ (r : Record). same_name requester r.id.requester in
    let number = λ (r : Record). r.id.number in (
      λ k d within is_own. number_below_greatest requester records (get_or records k d) (Contains-get_or records k d within)
          (subst (λ (n : List ℕ). same_name requester n ≡ true) is_own (same_itself requester)),
      ⊎_elim
          (λ none. inl none)
          (λ some.
          let found = mapped_from number (filter own records) (greatest_number records requester) some in
          let kept = kept_there own records found.0 found.1 in
          inr (found.0, kept.0, one_name requester (Id.requester (Record.id found.0)) kept.1, found.2))
          (is_one_of (numbers_of records requester) 0),
    )
