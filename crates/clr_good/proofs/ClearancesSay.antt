-- What it says that the list of clearances fits.
use Rattle.std.proofs.Common.{◌≡◌, ℕ, Bool, true, false, ◌&&◌, ◌||◌, List, length, Some, None, refl, sym, subst}
use Rattle.std.specs.List.{list_all, range_with_len}
use Rattle.clr_rules.proofs.Common.{and_from, and_parts, Grid, section_names, list_all-contains, member-row_of, row_of-member, in_key_order, is_known_work, is_operators, Id, Register}
use Rattle.clr_rules.proofs.Common.{list_all-from_each, id_cmp, id_cmp_total, record_key, record_of, is_switch_order, numbers_of, record_id}
use Rattle.clr_rules.specs.Records.{is_closed, is_open}
use Rattle.clr_good.specs.Clearances.{answers_alike, clearances_fit, names_fit, numbers_fit, record_fits, work_fits}
use Rattle.clr_good.proofs.Tests.{unless_closed, unless_closed_from}
use Rattle.clr_good.proofs.NumbersSay.{numbers_said, numbers_say}
use Rattle.clr_rules.specs.declared.record.Record.{Record}

pub record ClearancesSay (R : Register) : Type 0 where
  pub numbered : (requester : List ℕ) → numbers_of R.records requester ≡ range_with_len 1 (length (numbers_of R.records requester))
  pub work_known : (c : Id) (r : Record) → record_of R.records c ≡ Some r → is_open r.phase ≡ true → is_known_work (section_names (Grid.sections R.net)) r.work ≡ true
  pub operators : (c : Id) (r : Record) → record_of R.records c ≡ Some r → is_open r.phase ≡ true → is_switch_order r ≡ is_operators R c.requester
  pub works : (c : Id) (r : Record) → record_of R.records c ≡ Some r → work_fits r.phase r.work ≡ true

alike : (a b : Bool) → answers_alike a b ≡ true → a ≡ b
alike true b h = sym h
alike false false h = refl
alike false true h = h

alike_back : (a b : Bool) → a ≡ b → answers_alike a b ≡ true
alike_back true b h = sym h
alike_back false false h = refl
alike_back false true h = h

-- the network has the work section of a record, and the staff its requester's role
abbrev AreNamesKnown : Register → Record → Type 0
AreNamesKnown R r = (is_known_work (section_names (Grid.sections R.net)) r.work ≡ true) × (is_switch_order r ≡ is_operators R r.id.requester)

record_parts : (R : Register) (r : Record) → record_fits R r ≡ true → (work_fits r.phase r.work ≡ true) × (is_open r.phase ≡ true → AreNamesKnown R r)
record_parts R r fits = let parts = and_parts (work_fits r.phase r.work) (is_closed r.phase || names_fit R r) fits in (
  parts.0,
  λ unclosed.
      let known = is_known_work (section_names (Grid.sections R.net)) r.work in
      let alike_test = answers_alike (is_switch_order r) (is_operators R r.id.requester) in
      let names = and_parts known alike_test (unless_closed r.phase (names_fit R r) parts.1 unclosed) in
      (names.0, alike (is_switch_order r) (is_operators R r.id.requester) names.1),
)

record_back : (R : Register) (r : Record) → work_fits r.phase r.work ≡ true → (is_open r.phase ≡ true → AreNamesKnown R r) → record_fits R r ≡ true
record_back R r works names =
    let known = is_known_work (section_names (Grid.sections R.net)) r.work in
    let alike_test = answers_alike (is_switch_order r) (is_operators R r.id.requester) in
    and_from (work_fits r.phase r.work) (is_closed r.phase || names_fit R r) works (unless_closed_from r.phase (names_fit R r) (λ unclosed.
    and_from known alike_test (names unclosed).0 (alike_back (is_switch_order r) (is_operators R r.id.requester) (names unclosed).1)))

pub clearances_say : (R : Register) → in_key_order id_cmp record_key R.records ≡ true → clearances_fit R ≡ true → ClearancesSay R
clearances_say R ordered fits = record {
  numbered = numbers_say None R.records tt ordered parts.0;
  work_known = λ c r found unclosed. ((of_found c r found).1 unclosed).0;
  operators = λ c r found unclosed. subst (λ (d : Id). is_switch_order r ≡ is_operators R d.requester) (record_id R.records c r found) ((of_found c r found).1 unclosed).1;
  works = λ c r found. (of_found c r found).0;
}
  where
    parts : (numbers_fit None R.records ≡ true) × (list_all (record_fits R) R.records ≡ true)
    parts = and_parts (numbers_fit None R.records) (list_all (record_fits R) R.records) fits

    of_found : (c : Id) (r : Record) → record_of R.records c ≡ Some r → (work_fits r.phase r.work ≡ true) × (is_open r.phase ≡ true → AreNamesKnown R r)
    of_found c r found = record_parts R r (list_all-contains (record_fits R) R.records r parts.1 (member-row_of id_cmp record_key id_cmp_total c r R.records found).0)

pub clearances_said : (R : Register) → in_key_order id_cmp record_key R.records ≡ true → ClearancesSay R → clearances_fit R ≡ true
clearances_said R ordered say =
    and_from (numbers_fit None R.records) (list_all (record_fits R) R.records)
    (numbers_said None R.records tt ordered say.numbered)
    (list_all-from_each (record_fits R) R.records (λ r there.
    let found = row_of-member id_cmp record_key id_cmp_total r R.records ordered there in
    record_back R r (say.works r.id r found) (λ unclosed. (say.work_known r.id r found unclosed, say.operators r.id r found unclosed))))
