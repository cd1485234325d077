-- The number of a new clearance is that of no clearance that has a record.
use Rattle.std.proofs.Common.{◌≡◌, ℕ, ◌+◌, ◌≤◌, ◌⊎◌, inl, inr, Bool, true, false, nat_le, List, [], ◌∷◌, Contains, Option, Some, None, is_some, refl, ◌∙◌, ap, arith, ◌==◌, if◌then◌else◌, fold}
use Rattle.std.proofs.Common.{eqb-true, leb-false, leb-true}
use Rattle.clr_rules.proofs.Common.{and_parts, false_from_ne_true, one_name, same_itself, same_name, Contains-cases, member-row_of, has_record, Record, Id, id_cmp, id_cmp_total, same_id, Register}
use Rattle.clr_rules.proofs.Common.{greatest_number, record_key, record_of, record_id}
use Rattle.clr_rules.specs.Isolation.{is_about_another}
use Rattle.clr_rules.specs.Records.{greater_of, numbers_of}

-- a record that is there
pub some_record : (found : Option Record) → is_some found ≡ true → (r : Record) × (found ≡ Some r)
some_record None h = absurd (cc)
some_record (Some r) h = (r, refl)

-- ---- the greatest number of a requester is no less than any

greater_both : (a b : ℕ) → (a ≤ greater_of a b) × (b ≤ greater_of a b)
greater_both a b = at (nat_le a b) refl
  where
    at : (t : Bool) → nat_le a b ≡ t → (a ≤ (if t then b else a)) × (b ≤ (if t then b else a))
    at true is = let le = leb-true a b is in (omega arith, omega arith)
    at false is = let lt = leb-false a b is in (omega arith, omega arith)

from_start : (xs : List ℕ) (a : ℕ) → a ≤ fold greater_of a xs
from_start [] a = omega arith
from_start (x ∷ xs) a =
    let (first, _) = greater_both a x in
    let rest = from_start xs (greater_of a x) in
    omega arith

numbered_below : (requester : List ℕ) (records : List Record) (a : ℕ) (r : Record) → Contains records r → same_name requester r.id.requester ≡ true
    → r.id.number ≤ fold greater_of a (numbers_of records requester)
numbered_below requester [] a r (k, within, is) named = absurd (omega arith)
numbered_below requester (first ∷ records) a r there named =
    at (same_name requester first.id.requester) refl (Contains-cases first r records there) (λ b later. numbered_below requester records b r later named)
  where
    at : (b : Bool) → same_name requester first.id.requester ≡ b → (first ≡ r) ⊎ Contains records r
        → ((b : ℕ) → Contains records r → r.id.number ≤ fold greater_of b (numbers_of records requester))
        → r.id.number ≤ fold greater_of a (numbers_of (first ∷ records) requester)
    at true is (inl here) more =
        let (_, above) = greater_both a first.id.number in
        let rest = from_start (numbers_of records requester) (greater_of a first.id.number) in
        let same : first.id.number ≡ r.id.number = ap (λ (r : Record). r.id.number) here in
        rw is (omega arith)
    at true is (inr later) more = rw is (more (greater_of a first.id.number) later)
    at false is (inl here) more = absurd (cc (ap (λ (r : Record). same_name requester r.id.requester) here))
    at false is (inr later) more = rw is (more a later)

pub number_below_greatest : (requester : List ℕ) (records : List Record) (r : Record) → Contains records r → same_name requester r.id.requester ≡ true
    → r.id.number ≤ greatest_number records requester
unfolding greatest_number
number_below_greatest requester records r there named = numbered_below requester records 0 r there named

-- a new clearance is another than one that has a record, and than one of another requester
pub new_is_another : (c : Id) (R : Register) (by : List ℕ) (greatest : ℕ) → greatest ≡ greatest_number R.records by → is_about_another c R by None ≡ true
    → same_id c (record { requester = by; number = greatest + 1 }) ≡ false
new_is_another c R by greatest is others = false_from_ne_true _ (λ same.
    let (named, number) = and_parts (same_name c.requester by) (c.number == greatest + 1) same in
    let number_is : c.number ≡ greatest + 1 = eqb-true c.number (greatest + 1) number in
    let recorded : has_record R.records c ≡ true = rw named at others in
    let (r, found) = some_record (record_of R.records c) recorded in
    let (there, _) = member-row_of id_cmp record_key id_cmp_total c r R.records found in
    let own = record_id R.records c r found in
    let requester : same_name by r.id.requester ≡ true =
    ap (λ (id : Id). same_name by id.requester) own ∙ ap (same_name by) (one_name c.requester by named) ∙ same_itself by in
    let below = number_below_greatest by R.records r there requester in
    let own_number : r.id.number ≡ c.number = ap (λ (id : Id). id.number) own in
    omega arith)
