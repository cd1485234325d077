-- An archive keeps agreement near a clearance, and archives add up.
use Rattle.std.proofs.Common.{◌≡◌, ◌∙◌, ◌<◌, ◌≤◌, ℕ, Bool, true, false, not, ◌&&◌, nat_lt, List, Option, Some, None, Contains, refl, sym, ap, arith}
use Rattle.std.proofs.lemmas.Bool.{lt-ltb, ltb-true}
use Rattle.clr_rules.proofs.isolation.Agreement.{agrees_back, agrees_on}
use Rattle.clr_rules.proofs.isolation.ClosedSteps.{steps_stay}
use Rattle.clr_rules.proofs.lists.Filters.{filter-no_member}
use Rattle.clr_rules.proofs.near.OwnParts.{agreeing_have_same}
use Rattle.clr_rules.specs.Agreement.{Agree, part_near}
use Rattle.clr_changes.proofs.ArchiveCommon.{Id, IsGood, Record, Register, StepRow, and_from, and_parts, archived, false_from_ne_true, both_ways, filter-filter_wider, gives_up, is_closed, is_past, is_past_record, is_printed}
use Rattle.clr_changes.proofs.ArchiveCommon.{id_cmp, id_cmp_total, is_some_step, not-true, record_key, record_of, row_of-member, steps_of}
use Rattle.clr_changes.proofs.Kept.{none_left}
use Rattle.clr_changes.specs.ArchiveLaws.{ArchivesAddUp, ArchivesKeepAgreement}

-- ---- agreement

agree_alone : (c : Id) (inside : List ℕ → Bool) (before : ℕ) (R : Register) → gives_up before R c ≡ false → Agree c inside R (archived before R)
unfolding steps_of
agree_alone c inside before R kept = record {
  near = λ i. record (part_near R c inside) { steps = steps_stay (gives_up before R) R.steps c kept i };
  own_holds = refl;
  greatest = refl;
}

-- a clearance that gives up its steps in both has none in either
agree_without : (c : Id) (inside : List ℕ → Bool) (before : ℕ) (R S : Register) → Agree c inside R S → gives_up before R c ≡ true → gives_up before S c ≡ true
    → Agree c inside (archived before R) (archived before S)
unfolding steps_of
agree_without c inside before R S agree first second = record {
  near = λ i. record (agree.near i) { steps = (none_left before R c first ∙ sym (none_left before S c second)) i };
  own_holds = agree.own_holds;
  greatest = agree.greatest;
}

agree_both : (c : Id) (inside : List ℕ → Bool) (before : ℕ) (R S : Register) → Agree c inside R S → Agree c inside (archived before R) (archived before S)
agree_both c inside before R S agree = at (gives_up before R c) refl
  where
    same : gives_up before R c ≡ gives_up before S c
    same = ap (is_past_record before) (agreeing_have_same c inside R S agree).own_record

    at : (b : Bool) → gives_up before R c ≡ b → Agree c inside (archived before R) (archived before S)
    at true is = agree_without c inside before R S agree is (sym same ∙ is)
    at false kept = agrees_on c inside (archived before R) R (archived before S) (agrees_back c inside R (archived before R) (agree_alone c inside before R kept))
        (agrees_on c inside R S (archived before S) agree (agree_alone c inside before S (sym same ∙ kept)))

pub archives_keep_agreement : ArchivesKeepAgreement
archives_keep_agreement = record {
  alone = agree_alone;
  first = λ c inside before R S kept agree. agrees_on c inside (archived before R) R S (agrees_back c inside R (archived before R) (agree_alone c inside before R kept)) agree;
  both = agree_both;
}

-- ---- archives add up

-- what is past is past at a later moment
past_later : (before later : ℕ) (r : Record) → before ≤ later → is_past before r ≡ true → is_past later r ≡ true
past_later before later r up is =
    let (closed, early) = and_parts (is_closed r.phase) (nat_lt r.last before) is in
    let below : r.last < before = ltb-true r.last before early in
    and_from (is_closed r.phase) (nat_lt r.last later) closed (lt-ltb r.last later (omega arith))

gives_up_later : (before later : ℕ) (R : Register) (c : Id) → before ≤ later → gives_up later R c ≡ false → gives_up before R c ≡ false
gives_up_later before later R c up kept = at (record_of R.records c) kept
  where
    at : (o : Option Record) → is_past_record later o ≡ false → is_past_record before o ≡ false
    at None kept = refl
    at (Some r) kept = false_from_ne_true (is_past before r) (λ is. both_ways (is_past later r) kept (past_later before later r up is))

add_up : (before later : ℕ) (R : Register) → before ≤ later → archived later (archived before R) ≡ archived later R
add_up before later R up = λ i. record R {
  steps = filter-filter_wider (λ (row : StepRow). not (gives_up later R row.id)) (λ row. not (gives_up before R row.id))
      (λ row kept. ap not (gives_up_later before later R row.id up (not-true (gives_up later R row.id) kept))) R.steps i;
}

-- nothing is left to print
nothing_printed : (before : ℕ) (R : Register) → IsGood R → (r : Record) → Contains R.records r → is_printed before (archived before R) r ≡ false
nothing_printed before R good r there = at (is_past before r) refl
  where
    at : (b : Bool) → is_past before r ≡ b → is_printed before (archived before R) r ≡ false
    at false late = ap (λ b. b && is_some_step (steps_of (Register.steps (archived before R)) r.id)) late
    at true past =
        let read = row_of-member id_cmp record_key id_cmp_total r R.records good.said.in_order.records there in
        let none = none_left before R r.id (ap (is_past_record before) read ∙ past) in
        rw (past, none) refl

pub archives_add_up : ArchivesAddUp
archives_add_up = record {
  later = add_up;
  again = λ before R. add_up before before R (omega arith);
  nothing = λ before R good. filter-no_member (is_printed before (archived before R)) R.records (nothing_printed before R good);
}
