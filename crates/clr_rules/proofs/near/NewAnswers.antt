-- A command that makes a new clearance is answered by what is near it.
use Rattle.std.proofs.Common.{◌≡◌, ◌∙◌, ℕ, ◌+◌, Bool, true, false, ◌&&◌, not, List, [], ◌∷◌, find, length, nat_eq, nat_lt, Option, Some, None, is_some, refl, sym, ap, IsTrue, Contains, filter}
use Rattle.clr_rules.proofs.Common.{both_ways, false_from_ne_true, or_right, All-contains, Grid, point_names, section_names, same_name, has_name, PointRow, SectionRow, same_itself, Contains-here}
use Rattle.clr_rules.proofs.Common.{Contains-later, row_of, answer, answer_with, first_refusal, known_of, answer_by_checks, checks, edits_of, named_clearance, is_near_hold, SameOwn, order_refusal}
use Rattle.clr_rules.proofs.Common.{Request, Switch, Jumper, one_id}
use Rattle.clr_order.specs.OrderFault.{fault_if, name_fault}
use Rattle.clr_order.specs.Step.{Task, stray_point, task_points}
use Rattle.clr_order.specs.Switching.{unswitching_point}
use Rattle.clr_order.specs.declared.order_fault.OrderFault.TheVariants.{EmptyOrder, LongOrder, StepsWrong, UnknownPoint}
use Rattle.clr_rules.specs.Checks.{wrong_switching}
use Rattle.clr_rules.specs.Prelude.{Command, Kind, Hold, Record, Refusal, StepRow, Id, same_id, Register, greatest_number, record_of, steps_of, holds_of, after_edits}
use Rattle.clr_rules.specs.Good.{IsGoodAsSaid, OnlySwitchOrdersSwitch, has_record}
use Rattle.clr_rules.specs.Near.{Near, is_beside, near_of, near_part}
use Rattle.clr_rules.proofs.lists.Filters.{filter-no_member, filter-nothing, kept_there, name_says}
use Rattle.clr_rules.proofs.lists.NamedRows.{has_name-kept}
use Rattle.clr_rules.proofs.near.NearOrder.{near_in_order}
use Rattle.clr_rules.proofs.edits.NewRecords.{next_is_free}
use Rattle.clr_rules.proofs.near.OrderAnswers.{named_is_enough}
use Rattle.clr_rules.proofs.near.OwnAnswers.{told_alike}
use Rattle.clr_rules.proofs.near.OwnEdits.{same_own_edited_all}

-- a search by tests that agree at each element of the list
find-alike : {X : Type 0} (p q : X → Bool) (xs : List X) → ((x : X) → Contains xs x → p x ≡ q x) → find p xs ≡ find q xs
find-alike p q [] same = refl
find-alike p q (x ∷ xs) same = at (q x) refl (find-alike p q xs (λ y there. same y (Contains-later x y xs there)))
  where
    at : (b : Bool) → q x ≡ b → find p xs ≡ find q xs → find p (x ∷ xs) ≡ find q (x ∷ xs)
    at true is more = rw (same x (Contains-here x xs), is) refl
    at false is more = rw (same x (Contains-here x xs), is) more

none_of_none : (c : Id) → record_of [] c ≡ None
unfolding row_of
none_of_none c = refl

module _ (R : Register) (good : IsGoodAsSaid R) (by : List ℕ) (at : ℕ) where
  abbrev new : Id
  new = record { requester = by; number = greatest_number R.records by + 1 }

  free : record_of R.records new ≡ None
  free = next_is_free R by

  unrecorded : has_record R.records new ≡ false
  unrecorded = ap is_some free

  not_new : (d : Id) → has_record R.records d ≡ true → same_id new d ≡ false
  not_new d recorded = false_from_ne_true (same_id new d) (λ same. both_ways (has_record R.records new) unrecorded (ap (has_record R.records) (one_id new d same) ∙ recorded))

  no_step : (row : StepRow) → Contains R.steps row → same_id new row.id ≡ false
  no_step row there = not_new row.id (All-contains (λ (row : StepRow). IsTrue (has_record R.records row.id)) R.steps row good.numbers_have_no_gaps.steps_recorded there)

  no_hold : (h : Hold) → Contains R.holds h → same_id new h.id ≡ false
  no_hold h there = not_new h.id (All-contains (λ (h : Hold). IsTrue (has_record R.records h.id)) R.holds h good.numbers_have_no_gaps.holds_recorded there)

  no_steps : (kept : StepRow → Bool) → steps_of (filter kept R.steps) new ≡ steps_of R.steps new
  unfolding steps_of
  no_steps kept = filter-no_member (λ (row : StepRow). same_id new row.id) (filter kept R.steps) (λ row there. no_step row (kept_there kept R.steps row there).0)
      ∙ sym (filter-no_member (λ (row : StepRow). same_id new row.id) R.steps no_step)

  no_holds : (kept : Hold → Bool) → holds_of (filter kept R.holds) new ≡ holds_of R.holds new
  unfolding holds_of
  no_holds kept = filter-no_member (λ (h : Hold). same_id new h.id) (filter kept R.holds) (λ h there. no_hold h (kept_there kept R.holds h there).0)
      ∙ sym (filter-no_member (λ (h : Hold). same_id new h.id) R.holds no_hold)

  no_record : record_of (filter (λ (r : Record). false) R.records) new ≡ record_of R.records new
  no_record = ap (λ (l : List Record). record_of l new) (filter-nothing (λ (r : Record). false) R.records (λ r. refl)) ∙ none_of_none new ∙ sym free

  -- ---- requests

  module _ (section : List ℕ) where
    abbrev request : Command
    request = record { caller = by; moment = at; kind = Request section }

    request_own : SameOwn new R (near_part R request)
    request_own = record {
      staff = refl;
      own_record = sym no_record;
      own_steps = sym (no_steps (λ row. false));
      own_holds = sym (no_holds (is_near_hold (has_name []) (is_beside R (known_of R request) (Request section)) None));
    }

    section_near : has_name (section_names (Grid.sections (Register.net (near_part R request)))) section ≡ has_name (section_names (Grid.sections R.net)) section
    section_near = has_name-kept (λ (row : SectionRow). row.name) (same_name section) R.net.sections section
        ∙ ap (λ (b : Bool). b && has_name (section_names (Grid.sections R.net)) section) (same_itself section)

    request_checks : checks (known_of R request) R by at (Request section) ≡ checks (known_of R request) (near_part R request) by at (Request section)
    request_checks = simp section_near

    request_settled : (found : Option Refusal) → answer_by_checks (known_of R request) R request found ≡ answer_by_checks (known_of R request) (near_part R request) request found
    request_settled None =
        let edits = edits_of (greatest_number R.records by) R by at (Request section) in
        let after = same_own_edited_all new R (near_part R request) good.in_order (near_in_order R request good.in_order) request_own edits in
        let reply = told_alike new (after_edits edits R) (after_edits edits (near_part R request)) after (known_of R request) (Request section) refl in
        λ i. record { reply = reply i; edits = edits }
    request_settled (Some refusal) = refl

    pub request_is_enough : answer R request ≡ answer_with (known_of R request) (near_part R request) request
    request_is_enough = request_settled (first_refusal (checks (known_of R request) R by at (Request section)))
        ∙ ap (λ list. answer_by_checks (known_of R request) (near_part R request) request (first_refusal list)) request_checks

  -- ---- switch orders

  module _ (tasks : List Task) where
    abbrev switch : Command
    switch = record { caller = by; moment = at; kind = Switch tasks }

    switch_own : SameOwn new R (near_part R switch)
    switch_own = record {
      staff = refl;
      own_record = sym no_record;
      own_steps = sym (no_steps (λ row. false));
      own_holds = sym (no_holds (is_near_hold (has_name []) (is_beside R (known_of R switch) (Switch tasks)) None));
    }

    -- a point of its steps is known where it is known among those that are near
    point_near : (p : List ℕ) → Contains (task_points tasks) p
        → has_name (point_names (Grid.points (Register.net (near_part R switch)))) p ≡ has_name (point_names (Grid.points R.net)) p
    point_near p there = has_name-kept (λ (row : PointRow). row.name) (is_beside R (known_of R switch) (Switch tasks)) R.net.points p
        ∙ ap (λ (b : Bool). b && has_name (point_names (Grid.points R.net)) p) (or_right _ (has_name (task_points tasks) p) ((name_says (task_points tasks) p).1 there))

    stray_near : stray_point (point_names (Grid.points R.net)) tasks ≡ stray_point (point_names (Grid.points (Register.net (near_part R switch)))) tasks
    stray_near = find-alike (λ p. not (has_name (point_names (Grid.points R.net)) p)) (λ p. not (has_name (point_names (Grid.points (Register.net (near_part R switch)))) p))
        (task_points tasks) (λ p there. ap not (sym (point_near p there)))

    switching_near : wrong_switching R tasks ≡ wrong_switching (near_part R switch) tasks
    switching_near = ap (λ (stray : Option (List ℕ)). order_refusal (fault_if (nat_eq (length tasks) 0) EmptyOrder (fault_if (nat_lt 256 (length tasks)) LongOrder
        (name_fault StepsWrong (unswitching_point tasks) (name_fault UnknownPoint stray None))))) stray_near

    switch_checks : checks (known_of R switch) R by at (Switch tasks) ≡ checks (known_of R switch) (near_part R switch) by at (Switch tasks)
    switch_checks = simp switching_near

    switch_settled : (found : Option Refusal) → answer_by_checks (known_of R switch) R switch found ≡ answer_by_checks (known_of R switch) (near_part R switch) switch found
    switch_settled None =
        let edits = edits_of (greatest_number R.records by) R by at (Switch tasks) in
        let after = same_own_edited_all new R (near_part R switch) good.in_order (near_in_order R switch good.in_order) switch_own edits in
        let reply = told_alike new (after_edits edits R) (after_edits edits (near_part R switch)) after (known_of R switch) (Switch tasks) refl in
        λ i. record { reply = reply i; edits = edits }
    switch_settled (Some refusal) = refl

    pub switch_is_enough : answer R switch ≡ answer_with (known_of R switch) (near_part R switch) switch
    switch_is_enough = switch_settled (first_refusal (checks (known_of R switch) R by at (Switch tasks)))
        ∙ ap (λ list. answer_by_checks (known_of R switch) (near_part R switch) switch (first_refusal list)) switch_checks

-- ---- what is near is enough

by_kind : (R : Register) → IsGoodAsSaid R → OnlySwitchOrdersSwitch R → (by : List ℕ) (at : ℕ) (kind : Kind) (named : Option Id) → named_clearance kind ≡ named
    → answer R (record { caller = by; moment = at; kind = kind })
    ≡ answer_with (known_of R (record { caller = by; moment = at; kind = kind })) (near_part R (record { caller = by; moment = at; kind = kind })) (record { caller = by; moment = at; kind = kind })
by_kind R good switches by at (Request section) named is = request_is_enough R good by at section
by_kind R good switches by at (Switch tasks) named is = switch_is_enough R good by at tasks
by_kind R good switches by at (Jumper point from to lockable remote) named is = refl
by_kind R good switches by at kind (Some c) is = named_is_enough R (record { caller = by; moment = at; kind = kind }) c good switches is
by_kind R good switches by at _ None is = cc is

pub near_is_enough : (R : Register) (q : Command) → IsGoodAsSaid R → OnlySwitchOrdersSwitch R → answer R q ≡ answer_with (known_of R q) (near_part R q) q
near_is_enough R q good switches = by_kind R good switches q.caller q.moment q.kind (named_clearance q.kind) refl

-- so registers with the same near part answer alike
pub same_near_same_answer : (R S : Register) (q : Command) → IsGoodAsSaid R → OnlySwitchOrdersSwitch R → IsGoodAsSaid S → OnlySwitchOrdersSwitch S
    → near_of R q ≡ near_of S q → answer R q ≡ answer S q
same_near_same_answer R S q R_good R_switch S_good S_switch same =
    near_is_enough R q R_good R_switch
    ∙ ap (λ (near : Near). answer_with near.known near.rows q) same
    ∙ sym (near_is_enough S q S_good S_switch)
