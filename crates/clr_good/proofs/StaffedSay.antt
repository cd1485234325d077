-- Of a good register, the lists are staffed exactly where it is.
use Rattle.std.proofs.Common.{◌≡◌, ◌↔◌, ◌∙◌, ◌⊎◌, inl, inr, ⊎_elim, ℕ, Bool, true, false, not, ◌&&◌, ◌||◌, ◌==◌, List, Option, Some, None, Contains, All, refl, sym, ap, subst, eqb-true, eq-eqb}
use Rattle.clr_rules.proofs.Common.{All-contains, All-from_each, IsGood, and_from, and_parts, any_from, has_hold, has_name, hold_of, hold_there, id_cmp, id_cmp_total, list_all, list_all-contains}
use Rattle.clr_rules.proofs.Common.{list_all-from_each, list_any, member-row_of, name_says, not-true, not_from_false, of_round, of_round_is, or_cases, or_left, or_right, record_id, record_key, row_of-member}
use Rattle.clr_rules.proofs.Common.{some_from, all_done, is_active, is_open, is_point_kind, is_some_step, points_of, record_of, steps_in, steps_of}
use Rattle.clr_rules.proofs.lists.HoldMembers.{hold_had}
use Rattle.clr_rules.specs.Checks.{employee, has_role, is_field, is_operator}
use Rattle.clr_rules.specs.Prelude.{Id, Register, is_restoring}
use Rattle.clr_rules.specs.Records.{is_closed, is_released}
use Rattle.clr_rules.specs.Staffed.{IsStaffed, fits_holder, has_some_role}
use Rattle.clr_rules.specs.declared.hold.Hold.{Hold}
use Rattle.clr_rules.specs.declared.hold_kind.HoldKind.{HoldKind}
use Rattle.clr_rules.specs.declared.hold_kind.HoldKind.TheVariants.{HeldOpen}
use Rattle.clr_rules.specs.declared.record.Record.{Record}
use Rattle.clr_rules.specs.declared.step_row.StepRow.{StepRow}
use Rattle.clr_good.specs.Staffed.{has_step_left, holder_fits, holders_fit, holds_some_point, holds_staffed, lists_staffed, round_fits, some_at_point, steps_staffed}
use Rattle.clr_good.proofs.Tests.{asked, asked_from, unless_closed, unless_closed_from}

-- one of two numbers
one_of_two : (n : ℕ) → ((n == 1) || (n == 2)) ≡ true → (n ≡ 1) ⊎ (n ≡ 2)
one_of_two n h = ⊎_elim (λ one. inl (eqb-true n 1 one)) (λ two. inr (eqb-true n 2 two)) (or_cases (n == 1) (n == 2) h)

one_of_two_from : (n : ℕ) → (n ≡ 1) ⊎ (n ≡ 2) → ((n == 1) || (n == 2)) ≡ true
one_of_two_from n h = ⊎_elim (λ one. or_left (n == 1) (n == 2) (eq-eqb n 1 one)) (λ two. or_right (n == 1) (n == 2) (eq-eqb n 2 two)) h

abbrev IsOfTwo : StepRow → Type 0
IsOfTwo row = is_active row.step.state ≡ true → (row.round ≡ 1) ⊎ (row.round ≡ 2)

module _ (R : Register) (good : IsGood R) where
  there : (c : Id) (r : Record) → record_of R.records c ≡ Some r → Contains R.records r
  there c r found = (member-row_of id_cmp record_key id_cmp_total c r R.records found).0

  read : (r : Record) → Contains R.records r → record_of R.records r.id ≡ Some r
  read r among = row_of-member id_cmp record_key id_cmp_total r R.records good.said.in_order.records among

  -- what is asked of each record is asked of the one that is found
  of_found : (test : Record → Bool) → list_all test R.records ≡ true → (c : Id) (r : Record) → record_of R.records c ≡ Some r → test r ≡ true
  of_found test all c r found = list_all-contains test R.records r all (there c r found)

  -- ---- lists that are staffed make a staffed register

  held_open_at : (c : Id) (r : Record) → record_of R.records c ≡ Some r → list_any (has_hold R.holds r.id HeldOpen) (points_of (of_round (steps_of R.steps r.id) 1)) ≡ true
      → (p : List ℕ) × (has_hold R.holds c HeldOpen p ≡ true)
  held_open_at c r found some =
      let (p, among, has) = some_from (has_hold R.holds r.id HeldOpen) (points_of (of_round (steps_of R.steps r.id) 1)) some in
      (p, ap (λ (d : Id). has_hold R.holds d HeldOpen p) (sym (record_id R.records c r found)) ∙ has)

  second_is : (c : Id) (r : Record) → record_of R.records c ≡ Some r → all_done (of_round (steps_of R.steps r.id) 2) ≡ all_done (steps_in R.steps c 2)
  second_is c r found = ap (λ (d : Id). all_done (of_round (steps_of R.steps d) 2)) (record_id R.records c r found) ∙ ap all_done (of_round_is R.steps c 2)

  staffed_say : lists_staffed R ≡ true → IsStaffed R
  staffed_say fits =
      let (holders, others) = and_parts (holders_fit R) (steps_staffed R && holds_staffed R) fits in
      let (steps, holds) = and_parts (steps_staffed R) (holds_staffed R) others in
      let (operator, rounds_left) = and_parts (not (is_some_step R.steps) || has_some_role R.staff is_operator) (list_all round_fits R.steps && list_all (has_step_left R) R.records) steps in
      let (rounds, left) = and_parts (list_all round_fits R.steps) (list_all (has_step_left R) R.records) rounds_left in
      let (fields, some) = and_parts (not (some_at_point R.holds) || has_some_role R.staff is_field) (list_all (holds_some_point R) R.records) holds in
      record {
        holders = λ c r found unclosed. unless_closed r.phase (has_role (fits_holder r.work) (employee R.staff r.holder)) (of_found (holder_fits R) holders c r found) unclosed;
        operators = asked (is_some_step R.steps) (has_some_role R.staff is_operator) operator;
        field = λ c kind p at_point has. asked (some_at_point R.holds) (has_some_role R.staff is_field) fields
            (any_from (λ (h : Hold). is_point_kind h.kind) R.holds (hold_of c kind p) (hold_there R.holds c kind p has) at_point);
        rounds = All-from_each IsOfTwo R.steps (λ row among active. one_of_two row.round
            (asked (is_active row.step.state) ((row.round == 1) || (row.round == 2)) (list_all-contains round_fits R.steps row rounds among) active));
        released = λ c r found is. held_open_at c r found
            (asked (is_released r.phase) (list_any (has_hold R.holds r.id HeldOpen) (points_of (of_round (steps_of R.steps r.id) 1))) (of_found (holds_some_point R) some c r found) is);
        restoring = λ c r found is. sym (second_is c r found) ∙ not-true (all_done (of_round (steps_of R.steps r.id) 2))
            (asked (is_restoring r.phase) (not (all_done (of_round (steps_of R.steps r.id) 2))) (of_found (has_step_left R) left c r found) is);
      }

  -- ---- and a staffed register has lists that are staffed

  -- a point that is held open is one of the first round
  some_held : (r : Record) → Contains R.records r → (p : List ℕ) → has_hold R.holds r.id HeldOpen p ≡ true
      → list_any (has_hold R.holds r.id HeldOpen) (points_of (of_round (steps_of R.steps r.id) 1)) ≡ true
  some_held r among p has =
      let named : has_name (points_of (of_round (steps_of R.steps r.id) 1)) p ≡ true =
      subst (λ (rows : List StepRow). has_name (points_of rows) p ≡ true) (sym (of_round_is R.steps r.id 1)) (good.said.holds_are_put.at_points r.id HeldOpen p refl has) in
      any_from (has_hold R.holds r.id HeldOpen) (points_of (of_round (steps_of R.steps r.id) 1)) p
      ((name_says (points_of (of_round (steps_of R.steps r.id) 1)) p).0 named) has

  staffed_said : IsStaffed R → lists_staffed R ≡ true
  staffed_said staffed = and_from (holders_fit R) (steps_staffed R && holds_staffed R)
      (list_all-from_each (holder_fits R) R.records (λ r among.
      unless_closed_from r.phase (has_role (fits_holder r.work) (employee R.staff r.holder)) (staffed.holders r.id r (read r among))))
      (and_from (steps_staffed R) (holds_staffed R) steps holds)
    where
      steps : steps_staffed R ≡ true
      steps = and_from (not (is_some_step R.steps) || has_some_role R.staff is_operator) (list_all round_fits R.steps && list_all (has_step_left R) R.records)
          (asked_from (is_some_step R.steps) (has_some_role R.staff is_operator) staffed.operators)
          (and_from (list_all round_fits R.steps) (list_all (has_step_left R) R.records)
          (list_all-from_each round_fits R.steps (λ row among. asked_from (is_active row.step.state) ((row.round == 1) || (row.round == 2)) (λ active.
          one_of_two_from row.round (All-contains IsOfTwo R.steps row staffed.rounds among active))))
          (list_all-from_each (has_step_left R) R.records (λ r among. asked_from (is_restoring r.phase) (not (all_done (of_round (steps_of R.steps r.id) 2))) (λ is.
          not_from_false (all_done (of_round (steps_of R.steps r.id) 2)) (second_is r.id r (read r among) ∙ staffed.restoring r.id r (read r among) is)))))

      holds : holds_staffed R ≡ true
      holds = and_from (not (some_at_point R.holds) || has_some_role R.staff is_field) (list_all (holds_some_point R) R.records)
          (asked_from (some_at_point R.holds) (has_some_role R.staff is_field) (λ some.
          let (h, among, at_point) = some_from (λ (h : Hold). is_point_kind h.kind) R.holds some in
          staffed.field h.id h.kind h.place at_point (hold_had R.holds h good.said.in_order.holds among)))
          (list_all-from_each (holds_some_point R) R.records (λ r among.
          asked_from (is_released r.phase) (list_any (has_hold R.holds r.id HeldOpen) (points_of (of_round (steps_of R.steps r.id) 1))) (λ is.
          let (p, has) = staffed.released r.id r (read r among) is in some_held r among p has)))

pub staffed_test_is_exact : (R : Register) → IsGood R → (lists_staffed R ≡ true) ↔ IsStaffed R
staffed_test_is_exact R good = (staffed_say R good, staffed_said R good)
