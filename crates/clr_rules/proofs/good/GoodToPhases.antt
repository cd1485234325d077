-- A good register is good phase by phase.
use Rattle.std.proofs.Common.{◌≡◌, ℕ, Bool, true, false, ◌||◌, List, [], ◌∷◌, Option, Some, None, is_some, All, refl, sym, ◌∙◌, ap}
use Rattle.clr_rules.proofs.Common.{both_ways, false≢true, false_from_ne_true, All-contains, All-head, All-tail, All-weaker, same_Some, same_name, one_name, actions_at, clearance_fence, is_in_turn}
use Rattle.clr_rules.proofs.Common.{some_active, hold_there}
use Rattle.std.proofs.lemmas.List.Folds.{list_any_none}
use Rattle.clr_order.specs.Needed.{undoes}
use Rattle.clr_order.proofs.Undoing.{rule_undoes}
use Rattle.clr_rules.specs.Good.{IsGood, has_record, is_active_at, steps_left_of}
use Rattle.clr_rules.specs.GoodByPhase.{ActiveInRound, HasNoWork, HoldsAsPut, HoldsNothing, InPhase, InPlaceAs, IsGoodByPhase, IsInPlace, Isolates, active_at, go_in_turn, inner_fence, of_round}
use Rattle.clr_rules.specs.GoodByPhase.{outlook_of, present_of}
use Rattle.clr_rules.specs.Prelude.{Hold, HoldKind, HeldOpen, Block, Control, Tag, Phase, Requested, Ordered, Granted, Released, Restoring, Switching, Closed, Record, StepRow, Id, same_id, Register}
use Rattle.clr_rules.specs.Prelude.{has_in_hand, record_of, is_running, is_standing, is_granted, is_restoring, is_active, is_some_step, is_waiting, present_round, steps_in, steps_of, tasks_of}
use Rattle.clr_rules.specs.Prelude.{is_point_kind, has_hold, held_at, hold_of}
use Rattle.clr_rules.specs.Records.{is_closed, is_in_switching, is_requested, lacks_work}
use Rattle.clr_rules.proofs.good.PutHolds.{some_isolating}
use Rattle.clr_rules.proofs.lists.RoundSteps.{All-in_round, no_step_of, no_step_there, of_round_is, of_the_round, one_id, present_of_is, record_id}
use Rattle.clr_rules.proofs.good.StepsInTurn.{round_rises, turn_by_turn}

-- no step is where none of those that are left is
none_there : (has : List ℕ → Bool) (p : List ℕ) (rows : List StepRow) → All (λ row. has row.step.point ≡ true) rows → has p ≡ false → actions_at (tasks_of rows) p ≡ []
none_there has p [] all free = refl
none_there has p (row ∷ rows) all free = at (same_name p row.step.point) refl (none_there has p rows (All-tail (λ (row : StepRow). has row.step.point ≡ true) row rows all) free)
  where
    at : (b : Bool) → same_name p row.step.point ≡ b → actions_at (tasks_of rows) p ≡ [] → actions_at (tasks_of (row ∷ rows)) p ≡ []
    at true e more = absurd (both_ways (has row.step.point) (rw (← one_name p row.step.point e) free) (All-head (λ (row : StepRow). has row.step.point ≡ true) row rows all))
    at false e more = rw e more

module _ (R : Register) (good : IsGood R) (c : Id) where
  -- each step of a round that does not wait has its turn
  turns : (round : ℕ) → go_in_turn (of_round (steps_of R.steps c) round) ≡ true
  turns round = rw (of_round_is R.steps c round)
      (turn_by_turn (steps_in R.steps c round) (round_rises R.steps c round good.said.in_order.steps) (λ row there active.
      let own = All-contains (λ (row : StepRow). (row.id ≡ c) × (row.round ≡ round)) (steps_in R.steps c round) row (of_the_round R.steps c round) there in
      let turn = All-contains (λ (row : StepRow). is_waiting row.step.state ≡ false → is_in_turn (steps_in R.steps row.id row.round) row.ordinal ≡ true) (steps_in R.steps c round) row
      (All-in_round (λ (row : StepRow). is_waiting row.step.state ≡ false → is_in_turn (steps_in R.steps row.id row.round) row.ordinal ≡ true) R.steps c round good.said.steps_go_in_turn.in_turn) there active in
      rw (own.0, own.1) at turn))

  -- what nobody asked for has nothing
  unrecorded : record_of R.records c ≡ None → (d : Id) → c ≡ d → has_record R.records d ≡ true → ⊥
  unrecorded none d same recorded = false≢true (sym (ap is_some none) ∙ ap (has_record R.records) same ∙ recorded)

  bare_steps : record_of R.records c ≡ None → steps_of R.steps c ≡ []
  bare_steps none = no_step_of R.steps c
      (All-weaker (λ (row : StepRow). has_record R.records row.id ≡ true) (λ (row : StepRow). same_id c row.id ≡ false)
      (λ row recorded. false_from_ne_true (same_id c row.id) (λ same. unrecorded none row.id (one_id c row.id same) recorded))
      R.steps good.said.numbers_have_no_gaps.steps_recorded)

  bare_holds : record_of R.records c ≡ None → HoldsNothing (outlook_of R c)
  bare_holds none kind place = false_from_ne_true (has_hold R.holds c kind place) (λ has.
      unrecorded none c refl (All-contains (λ (h : Hold). has_record R.records h.id ≡ true) R.holds (hold_of c kind place) good.said.numbers_have_no_gaps.holds_recorded (hold_there R.holds c kind place has)))

  module _ (r : Record) (found : record_of R.records c ≡ Some r) where
    isolates : (work : List ℕ) → r.work ≡ Some work → is_standing r.phase ≡ true → Isolates R.net work (outlook_of R c)
    isolates work has_work standing = rw (of_round_is R.steps c 1) (rw has_work at (good.said.standing_orders_are_sound c r found standing))

    -- of which rounds there are steps, and where they are given out
    one_round : (is_restoring r.phase || is_closed r.phase) ≡ false → of_round (steps_of R.steps c) 2 ≡ []
    one_round other = of_round_is R.steps c 2 ∙ no_step_there (steps_in R.steps c 2) (false_from_ne_true (is_some_step (steps_in R.steps c 2)) (λ some.
        both_ways (is_restoring r.phase || is_closed r.phase) other (good.said.steps_go_in_turn.second_round c r found some)))

    given_out : (round : ℕ) → present_of (steps_of R.steps c) ≡ round → ActiveInRound (steps_of R.steps c) round
    given_out round is = All-weaker (λ (row : StepRow). is_active row.step.state ≡ true → (is_running r.phase ≡ true) × (row.round ≡ present_round R.steps c))
        (λ (row : StepRow). is_active row.step.state ≡ true → row.round ≡ round)
        (λ row now active. (now active).1 ∙ sym (present_of_is R.steps c) ∙ is) (steps_of R.steps c) (good.said.steps_go_in_turn.active_running c r found)

    given_out_first : (work : List ℕ) → r.work ≡ Some work → is_standing r.phase ≡ true → (is_restoring r.phase || is_closed r.phase) ≡ false → ActiveInRound (steps_of R.steps c) 1
    given_out_first work has_work standing other = given_out 1
        (rw (one_round other, some_isolating R.net work (of_round (steps_of R.steps c) 1) (isolates work has_work standing)) refl)

    second_round : is_restoring r.phase ≡ true → is_some_step (of_round (steps_of R.steps c) 2) ≡ true
    second_round restoring = rw (of_round_is R.steps c 2) (good.besides.restoring_rounds c r found restoring)

    given_out_second : is_restoring r.phase ≡ true → ActiveInRound (steps_of R.steps c) 2
    given_out_second restoring = given_out 2 (rw (second_round restoring) refl)

    none_active : is_running r.phase ≡ false → some_active (steps_of R.steps c) ≡ false
    none_active rests = list_any_none (λ (row : StepRow). is_active row.step.state) (steps_of R.steps c)
        (All-weaker (λ (row : StepRow). is_active row.step.state ≡ true → (is_running r.phase ≡ true) × (row.round ≡ present_round R.steps c))
        (λ (row : StepRow). is_active row.step.state ≡ false)
        (λ row now. false_from_ne_true (is_active row.step.state) (λ active. both_ways (is_running r.phase) rests (now active).0))
        (steps_of R.steps c) (good.said.steps_go_in_turn.active_running c r found))

    -- what is held
    as_put : is_standing r.phase ≡ true → is_restoring r.phase ≡ false → HoldsAsPut (outlook_of R c)
    as_put standing not_restoring kind p at_point = rw (of_round_is R.steps c 1) (good.said.holds_are_put.as_put c r found standing not_restoring kind p at_point)

    no_work : is_granted r.phase ≡ false → HasNoWork (outlook_of R c)
    no_work not_granted kind place off_point = false_from_ne_true (has_hold R.holds c kind place) (λ has.
        let (s, is_there, granted) = good.said.work_holds_belong.granted c kind place off_point has in
        let same : r ≡ s = same_Some r s (sym found ∙ is_there) in
        both_ways (is_granted r.phase) not_granted (rw same granted))

    no_hold : is_standing r.phase ≡ false → is_granted r.phase ≡ false → HoldsNothing (outlook_of R c)
    no_hold not_standing not_granted kind place = at (is_point_kind kind) refl
      where
        at : (b : Bool) → is_point_kind kind ≡ b → has_hold R.holds c kind place ≡ false
        at true e = false_from_ne_true (has_hold R.holds c kind place) (λ has.
            let (s, is_there, standing) = good.said.holds_are_put.standing c kind place e has in
            let same : r ≡ s = same_Some r s (sym found ∙ is_there) in
            both_ways (is_standing r.phase) not_standing (rw same standing))
        at false e = no_work not_granted kind place e

    fence_is : (work : List ℕ) → r.work ≡ Some work → r.phase ≡ Granted → clearance_fence R c ≡ inner_fence R.net work (outlook_of R c)
    fence_is work has_work granted = rw (found, granted, has_work, record_id R.records c r found, of_round_is R.steps c 1) refl

    -- what is held beside a HeldOpen is not held without it, and what is left of the second round undoes what is held
    beside : (kind : HoldKind) (p : List ℕ) → is_point_kind kind ≡ true → has_hold R.holds c HeldOpen p ≡ false → has_hold R.holds c kind p ≡ false
    beside kind p at_point free = false_from_ne_true (has_hold R.holds c kind p) (λ has.
        both_ways (has_hold R.holds c HeldOpen p) free (good.said.held_points_are_open.beside_held_open c kind p at_point has))

    undone : is_restoring r.phase ≡ true → (p : List ℕ)
        → undoes (has_hold R.holds c Tag p) (has_hold R.holds c Control p) (has_hold R.holds c Block p) (has_hold R.holds c HeldOpen p)
        (actions_at (tasks_of (steps_left_of (of_round (steps_of R.steps c) 2))) p) ≡ true
    undone restoring p = rw (of_round_is R.steps c 2) (at (has_hold R.holds c HeldOpen p) refl)
      where
        at : (b : Bool) → has_hold R.holds c HeldOpen p ≡ b
            → undoes (has_hold R.holds c Tag p) (has_hold R.holds c Control p) (has_hold R.holds c Block p) (has_hold R.holds c HeldOpen p)
            (actions_at (tasks_of (steps_left_of (steps_in R.steps c 2))) p) ≡ true
        at true e = rw e (rule_undoes (held_at R.holds c p) (actions_at (tasks_of (steps_left_of (steps_in R.steps c 2))) p) (good.said.holds_are_put.undone c r found restoring p e))
        at false e = rw (
          e,
          beside Tag p refl e,
          beside Control p refl e,
          beside Block p refl e,
          none_there (has_hold R.holds c HeldOpen) p (steps_left_of (steps_in R.steps c 2)) (good.said.holds_are_put.nowhere_else c r found restoring) e,
        ) refl

    -- the phases in which a record has no work section
    not_switch_order : (is_in_switching r.phase || is_closed r.phase) ≡ false → r.work ≡ None → ⊥
    not_switch_order other none = both_ways (is_in_switching r.phase || is_closed r.phase) other (good.besides.switch_orders.phases c r found (ap lacks_work none))

    -- the clearance as its phase wants it
    by_phase : (phase : Phase) → r.phase ≡ phase → (work : Option (List ℕ)) → r.work ≡ work → InPhase R.net phase work (outlook_of R c)
    by_phase Requested is (Some work) has_work = record {
      no_step = good.said.steps_go_in_turn.none_requested c r found (ap is_requested is);
      no_hold = no_hold (ap is_standing is) (ap is_granted is);
    }
    by_phase Ordered is (Some work) has_work = record {
      isolates = isolates work has_work (ap is_standing is);
      one_round = one_round (rw is refl);
      given_out = given_out_first work has_work (ap is_standing is) (rw is refl);
      as_put = as_put (ap is_standing is) (ap is_restoring is);
      no_work = no_work (ap is_granted is);
    }
    by_phase Granted is (Some work) has_work = record {
      isolates = isolates work has_work (ap is_standing is);
      one_round = one_round (rw is refl);
      done = rw (of_round_is R.steps c 1) (good.said.granted_points_are_held.done c r found (ap is_granted is));
      none_active = none_active (ap is_running is);
      as_put = as_put (ap is_standing is) (ap is_restoring is);
      tested_inside = λ place has. rw (← fence_is work has_work is) (good.said.work_holds_belong.tested_inside c place has);
      grounded_inside = λ place has. rw (← fence_is work has_work is) (good.said.work_holds_belong.grounded_inside c place has);
      crews_grounded = λ crew has. rw has_work at (good.said.work_holds_belong.crews_grounded c crew r has found);
    }
    by_phase Released is (Some work) has_work = record {
      isolates = isolates work has_work (ap is_standing is);
      one_round = one_round (rw is refl);
      none_active = none_active (ap is_running is);
      as_put = as_put (ap is_standing is) (ap is_restoring is);
      no_work = no_work (ap is_granted is);
    }
    by_phase Restoring is (Some work) has_work = record {
      isolates = isolates work has_work (ap is_standing is);
      second_round = second_round (ap is_restoring is);
      given_out = given_out_second (ap is_restoring is);
      at_points = λ p has. rw (of_round_is R.steps c 1) (good.said.holds_are_put.at_points c HeldOpen p refl has);
      beside_held_open = good.said.held_points_are_open.beside_held_open c;
      undone = undone (ap is_restoring is);
      no_work = no_work (ap is_granted is);
    }
    by_phase Switching is None has_work = record {
      only_switching = good.said.steps_go_in_turn.only_switching c r found (ap is_in_switching is);
      one_round = one_round (rw is refl);
      given_out = given_out (present_of (steps_of R.steps c)) refl;
      no_hold = no_hold (ap is_standing is) (ap is_granted is);
    }
    by_phase Switching is (Some work) has_work =
        absurd (false≢true (sym (ap lacks_work has_work) ∙ good.besides.switch_orders.switching c r found (ap is_in_switching is)))
    by_phase Closed is work has_work = record {
      none_active = none_active (ap is_running is);
      no_hold = no_hold (ap is_standing is) (ap is_granted is);
    }
    by_phase Requested is None none = not_switch_order (rw is refl) none
    by_phase _ is None none = not_switch_order (rw is refl) none

  -- with a record or without one
  in_place_as : (o : Option Record) → record_of R.records c ≡ o → InPlaceAs R.net o (outlook_of R c)
  in_place_as None none = record { no_step = bare_steps none; no_hold = bare_holds none }
  in_place_as (Some r) found = by_phase r found r.phase refl r.work refl

  hands : (p : List ℕ) → has_in_hand R.states c p ≡ active_at (steps_of R.steps c) p
  unfolding is_active_at
  hands p = good.said.hand_matches_step.hand c p

  in_place : IsInPlace R.net (outlook_of R c)
  in_place = record { in_turn = turns; hands = hands; phase = in_place_as (record_of R.records c) refl }

pub to_phases : (R : Register) → IsGood R → IsGoodByPhase R
to_phases R good = record {
  network = good.said.network;
  staff = good.said.staff;
  in_place = in_place R good;
  operators = good.besides.switch_orders.without_work;
  held_open = good.said.held_points_are_open.open_there;
  closing_free = good.said.hand_matches_step.closing;
  numbered = good.said.numbers_have_no_gaps.numbered;
  work_known = good.said.numbers_have_no_gaps.work_known;
  placed = good.besides.placed;
  points_known = good.besides.points_known;
  in_order = good.said.in_order;
}
