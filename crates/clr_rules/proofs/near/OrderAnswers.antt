-- An order is answered by what is near the fence that it would make.
use Rattle.std.proofs.Common.{◌≡◌, ◌∙◌, ℕ, Bool, true, false, ◌||◌, List, [], ◌∷◌, Option, Some, None, refl, sym, ap, Contains, filter}
use Rattle.clr_rules.proofs.Common.{both_ways, false_from_ne_true, or_left, same_Some, Grid, has_name, SectionRow, isolating_fault, Task, filter-filter_wider, answer, answer_with, first_refusal}
use Rattle.clr_rules.proofs.Common.{known_of, answer_by_checks, checks, is_operator, is_near_hold, is_beside, near_part, SameOwn, order_refusal, named_clearance, one_id}
use Rattle.clr_rules.specs.Fences.{order_fence, rows_of_fence}
use Rattle.clr_rules.specs.Good.{IsGoodAsSaid, OnlySwitchOrdersSwitch}
use Rattle.clr_rules.specs.Prelude.{Command, Kind, Hold, HoldKind, Phase, Requested, Granted, Record, Refusal, Id, same_id, Register, record_of, is_standing, is_granted, is_point_kind, has_hold}
use Rattle.clr_rules.specs.Prelude.{holds_of, Instruct, Order}
use Rattle.clr_rules.specs.Records.{is_requested}
use Rattle.clr_rules.proofs.near.GivenOut.{giving_out_is_enough}
use Rattle.clr_rules.proofs.lists.HoldMembers.{hold_had}
use Rattle.clr_rules.proofs.lists.Filters.{filter-no_member, kept_there}
use Rattle.clr_rules.proofs.near.NearOrder.{near_in_order}
use Rattle.clr_rules.proofs.near.OwnAnswers.{accepted_alike, near_is_enough_but_orders, touching_rows_near}
use Rattle.clr_rules.proofs.near.OwnChecks.{same_by_role}
use Rattle.clr_rules.proofs.near.OwnParts.{steps_of-own}
use Rattle.clr_rules.proofs.edits.Passing.{all_pass, role_begun}
use Rattle.clr_rules.proofs.isolation.SameFences.{record_of-own}

requested_stands_not : (phase : Phase) → is_requested phase ≡ true → is_standing phase ≡ false
requested_stands_not Requested is = refl
requested_stands_not _ is = cc

requested_not_granted : (phase : Phase) → is_requested phase ≡ true → is_granted phase ≡ false
requested_not_granted Granted is = cc
requested_not_granted _ is = refl

-- a requested clearance has no hold
module _ (R : Register) (c : Id) (good : IsGoodAsSaid R) (r : Record) (read : record_of R.records c ≡ Some r) (requested : is_requested r.phase ≡ true) where
  no_hold_by : (kind : HoldKind) (place : List ℕ) → has_hold R.holds c kind place ≡ true → (b : Bool) → is_point_kind kind ≡ b → ⊥
  no_hold_by kind place has true at_point =
      let belongs = good.holds_are_put.standing c kind place at_point has in
      both_ways (is_standing r.phase) (requested_stands_not r.phase requested)
      (ap (λ (x : Record). is_standing x.phase) (same_Some r belongs.0 (sym read ∙ belongs.1)) ∙ belongs.2)
  no_hold_by kind place has false elsewhere =
      let belongs = good.work_holds_belong.granted c kind place elsewhere has in
      both_ways (is_granted r.phase) (requested_not_granted r.phase requested)
      (ap (λ (x : Record). is_granted x.phase) (same_Some r belongs.0 (sym read ∙ belongs.1)) ∙ belongs.2)

  no_own_hold : (h : Hold) → Contains R.holds h → same_id c h.id ≡ false
  no_own_hold h there = false_from_ne_true (same_id c h.id) (λ own. no_hold_by h.kind h.place
      (ap (λ (d : Id). has_hold R.holds d h.kind h.place) (one_id c h.id own) ∙ hold_had R.holds h good.in_order.holds there) (is_point_kind h.kind) refl)

  holds_nothing : (near : Hold → Bool) → holds_of (filter near R.holds) c ≡ holds_of R.holds c
  unfolding holds_of
  holds_nothing near =
      filter-no_member (λ (h : Hold). same_id c h.id) (filter near R.holds) (λ h there. no_own_hold h (kept_there near R.holds h there).0)
      ∙ sym (filter-no_member (λ (h : Hold). same_id c h.id) R.holds no_own_hold)

module _ (R : Register) (good : IsGoodAsSaid R) (by : List ℕ) (at : ℕ) (c : Id) (points : List (List ℕ)) (tasks : List Task) where
  abbrev ordered : Command
  ordered = record { caller = by; moment = at; kind = Order c points tasks }

  -- the rows of the fence are near
  rows_near : rows_of_fence R.net (order_fence R c points) ≡ rows_of_fence (Register.net (near_part R ordered)) (order_fence R c points)
  rows_near =
      let sections : filter (λ (row : SectionRow). has_name (order_fence R c points) row.name) (Grid.sections (Register.net (near_part R ordered)))
      ≡ filter (λ row. has_name (order_fence R c points) row.name) R.net.sections =
      filter-filter_wider (λ (row : SectionRow). has_name (order_fence R c points) row.name) (λ row. has_name (order_fence R c points) row.name || false)
      (λ row inside. or_left (has_name (order_fence R c points) row.name) false inside) R.net.sections in
      let touching = touching_rows_near R ordered in
      sym (λ i. record { sections = sections i; touching = touching i })

  -- but for the holds the near part has the same of the clearance
  same_but_holds : SameOwn c R (record (near_part R ordered) { holds = R.holds })
  same_but_holds = record { staff = refl; own_record = sym (record_of-own R.records c); own_steps = sym (steps_of-own R.steps c); own_holds = refl }

  order_checks : checks (known_of R ordered) R by at (Order c points tasks) ≡ checks (known_of R ordered) (near_part R ordered) by at (Order c points tasks)
  order_checks =
      let S = record (near_part R ordered) { holds = R.holds } in
      same_by_role c R S same_but_holds by at is_operator is_requested (λ i. order_refusal (isolating_fault (rows_near i) points tasks) ∷ [])

  order_settled : (found : Option Refusal) → first_refusal (checks (known_of R ordered) R by at (Order c points tasks)) ≡ found
      → answer_by_checks (known_of R ordered) R ordered found ≡ answer_by_checks (known_of R ordered) (near_part R ordered) ordered found
  order_settled (Some refusal) refused = refl
  order_settled None passed =
      let (r, read, requested, _) = role_begun R c is_requested (all_pass (checks (known_of R ordered) R by at (Order c points tasks)) passed) in
      let same : SameOwn c R (near_part R ordered) = record {
        staff = refl;
        own_record = same_but_holds.own_record;
        own_steps = same_but_holds.own_steps;
        own_holds = sym (holds_nothing R c good r read requested (is_near_hold (has_name (order_fence R c points)) (is_beside R (known_of R ordered) (Order c points tasks)) (Some c)));
      } in
      accepted_alike c R (near_part R ordered) good.in_order (near_in_order R ordered good.in_order) same (known_of R ordered) ordered refl refl

  pub order_is_enough : answer R ordered ≡ answer_with (known_of R ordered) (near_part R ordered) ordered
  order_is_enough =
      order_settled (first_refusal (checks (known_of R ordered) R by at (Order c points tasks))) refl
      ∙ ap (λ list. answer_by_checks (known_of R ordered) (near_part R ordered) ordered (first_refusal list)) order_checks

-- ---- what is near is enough

by_kind : (R : Register) → IsGoodAsSaid R → OnlySwitchOrdersSwitch R → (by : List ℕ) (at : ℕ) (kind : Kind) (c : Id) → named_clearance kind ≡ Some c
    → answer R (record { caller = by; moment = at; kind = kind })
    ≡ answer_with (known_of R (record { caller = by; moment = at; kind = kind })) (near_part R (record { caller = by; moment = at; kind = kind })) (record { caller = by; moment = at; kind = kind })
by_kind R good switch by at (Order d points tasks) c named = order_is_enough R good by at d points tasks
by_kind R good switch by at (Instruct d n) c named = giving_out_is_enough R good switch by at d n
by_kind R good switch by at kind c named = near_is_enough_but_orders R (record { caller = by; moment = at; kind = kind }) c good named refl refl

pub named_is_enough : (R : Register) (q : Command) (c : Id) → IsGoodAsSaid R → OnlySwitchOrdersSwitch R → named_clearance q.kind ≡ Some c
    → answer R q ≡ answer_with (known_of R q) (near_part R q) q
named_is_enough R q c good switch named = by_kind R good switch q.caller q.moment q.kind c named
