-- A register that is good phase by phase is good.
use Rattle.std.proofs.Common.{◌≡◌, ℕ, true, false, List, Option, Some, None, is_some, All, Contains, refl, sym, ◌∙◌, ap, subst, arith}
use Rattle.clr_rules.proofs.Common.{list_any, both_ways, false≢true, All-weaker, Grid, has_name, PointRow, IsSoundOrder, actions_at, clearance_fence, work_fence, is_in_turn}
use Rattle.clr_order.specs.Needed.{needed}
use Rattle.clr_rules.specs.Good.{GrantedPointsAreHeld, HandMatchesStep, HeldPointsAreOpen, HoldsAreWhatDoneStepsPut, IsFullyHeld, IsGood, IsSoundFor, NumbersHaveNoGaps, StepsGoInTurn}
use Rattle.clr_rules.specs.Good.{SwitchOrdersAreOperators, WorkHoldsBelong, has_record, is_active_at, puts, works_on}
use Rattle.clr_rules.specs.GoodByPhase.{InPhase, InPlaceAs, IsBare, IsGoodByPhase, active_at, of_round, outlook_of, present_of}
use Rattle.clr_rules.specs.Prelude.{Hold, HoldKind, HeldOpen, Block, Control, Tag, Tested, Ground, Phase, Granted, Record, StepRow, Id, Register, has_in_hand, record_of, is_running, is_standing}
use Rattle.clr_rules.specs.Prelude.{is_granted, is_restoring, is_active, is_waiting, points_of, present_round, steps_in, steps_of, tasks_of, is_point_kind, has_hold, first_of_each}
use Rattle.clr_rules.specs.Live.{is_live, is_shut}
use Rattle.clr_rules.proofs.live.DeadFences.{dead_work_fence}
use Rattle.clr_rules.proofs.lists.HoldMembers.{hold_had}
use Rattle.clr_rules.proofs.good.PhaseFacts.{HoldFacts, OrderFacts, StepFacts, WorkFacts, hold_facts, order_facts, stands_at_work, step_facts, work_facts}
use Rattle.clr_rules.proofs.good.PutHolds.{all_put, needed_block, needed_control, needed_open, needed_tag, needed_there, one_of_name}
use Rattle.clr_rules.proofs.lists.RoundSteps.{All-from_each, among_own, in_own_round, of_round_is, present_of_is, record_id}
use Rattle.clr_rules.proofs.good.StepsInTurn.{round_rises, turn_of_each}

-- the phase whose test passes
granted_is : (phase : Phase) → is_granted phase ≡ true → phase ≡ Granted
granted_is Granted h = refl
granted_is _ h = absurd (false≢true h)

-- an order that isolates has a work section
sound_work : (g : Grid) (work : Option (List ℕ)) (rows : List StepRow) → IsSoundFor g work rows
    → (w : List ℕ) × (work ≡ Some w) × IsSoundOrder g w (first_of_each (points_of rows)) (tasks_of rows)
sound_work g None rows sound = absurd sound
sound_work g (Some w) rows sound = (w, refl, sound)

works_at : (holds : List Hold) (c : Id) (kind : HoldKind) (work : Option (List ℕ)) → stands_at_work (has_hold holds c) kind work ≡ works_on holds c kind work
works_at holds c kind None = refl
works_at holds c kind (Some w) = refl

module _ (R : Register) (good : IsGoodByPhase R) where
  module _ (c : Id) where
    bare : record_of R.records c ≡ None → IsBare (outlook_of R c)
    bare none = subst (λ (o : Option Record). InPlaceAs R.net o (outlook_of R c)) none (good.in_place c).phase

    -- whose hold, step or hand it is, has a record
    recorded : (record_of R.records c ≡ None → ⊥) → (r : Record) × (record_of R.records c ≡ Some r)
    recorded some = at (record_of R.records c) refl
      where
        at : (o : Option Record) → record_of R.records c ≡ o → (r : Record) × (record_of R.records c ≡ Some r)
        at None none = absurd (some none)
        at (Some r) found = (r, found)

    recorded_hold : (kind : HoldKind) (place : List ℕ) → has_hold R.holds c kind place ≡ true → (r : Record) × (record_of R.records c ≡ Some r)
    recorded_hold kind place has = recorded (λ none. both_ways (has_hold R.holds c kind place) ((bare none).no_hold kind place) has)

    recorded_hand : (p : List ℕ) → has_in_hand R.states c p ≡ true → has_record R.records c ≡ true
    recorded_hand p has =
        let (r, found) = recorded (λ none. false≢true (sym (ap (λ (steps : List StepRow). active_at steps p) (bare none).no_step) ∙ sym ((good.in_place c).hands p) ∙ has)) in
        ap is_some found

    hand_is : (p : List ℕ) → has_in_hand R.states c p ≡ is_active_at R.steps c p
    unfolding is_active_at
    hand_is p = (good.in_place c).hands p

    module _ (r : Record) (found : record_of R.records c ≡ Some r) where
      in_phase : InPhase R.net r.phase r.work (outlook_of R c)
      in_phase = subst (λ (o : Option Record). InPlaceAs R.net o (outlook_of R c)) found (good.in_place c).phase

      order : OrderFacts R.net r.phase r.work (outlook_of R c)
      order = order_facts R.net r.phase r.work (outlook_of R c) in_phase

      steps : StepFacts r.phase (outlook_of R c)
      steps = step_facts R.net r.phase r.work (outlook_of R c) in_phase

      work : WorkFacts R.net r.phase r.work (outlook_of R c)
      work = work_facts R.net r.phase r.work (outlook_of R c) in_phase

      holds : HoldFacts r.phase (outlook_of R c)
      holds = hold_facts R.net r.phase r.work (outlook_of R c) ((good.in_place c).in_turn 1) in_phase

      fence_is : r.phase ≡ Granted → clearance_fence R c ≡ work_fence R.net r.work (points_of (of_round (steps_of R.steps c) 1))
      fence_is granted = rw (found, granted, record_id R.records c r found, of_round_is R.steps c 1) refl

      active : All (λ row. is_active row.step.state ≡ true → (is_running r.phase ≡ true) × (row.round ≡ present_round R.steps c)) (steps_of R.steps c)
      active = All-weaker (λ (row : StepRow). is_active row.step.state ≡ true → (is_running r.phase ≡ true) × (row.round ≡ present_of (steps_of R.steps c)))
          (λ (row : StepRow). is_active row.step.state ≡ true → (is_running r.phase ≡ true) × (row.round ≡ present_round R.steps c))
          (λ row now is. ((now is).0, (now is).1 ∙ present_of_is R.steps c)) (steps_of R.steps c) steps.active

      -- what a granted clearance has at the points of its order
      module _ (granted : is_granted r.phase ≡ true) where
        as_needed : (kind : HoldKind) (p : List ℕ) (row : PointRow) → is_point_kind kind ≡ true → actions_at (tasks_of (of_round (steps_of R.steps c) 1)) p ≡ needed row
            → has_hold R.holds c kind p ≡ list_any (λ action. puts action kind) (needed row)
        as_needed kind p row at_point steps_there =
            holds.as_put (ap is_standing (granted_is r.phase granted)) (ap is_restoring (granted_is r.phase granted)) kind p at_point
            ∙ all_put kind p (of_round (steps_of R.steps c) 1) (order.done granted)
            ∙ ap (list_any (λ action. puts action kind)) steps_there

        sound : (w : List ℕ) × (r.work ≡ Some w) × IsSoundOrder R.net w (first_of_each (points_of (of_round (steps_of R.steps c) 1))) (tasks_of (of_round (steps_of R.steps c) 1))
        sound = sound_work R.net r.work (of_round (steps_of R.steps c) 1) (order.isolates (ap is_standing (granted_is r.phase granted)))

        fully_held : (point : PointRow) → Contains (Grid.points R.net) point → has_name (points_of (of_round (steps_of R.steps c) 1)) point.name ≡ true → IsFullyHeld R.holds c point
        fully_held point there known =
            let (w, is, sound_order) = sound in
            let (row, row_there, named, steps_there) = needed_there R.net w (of_round (steps_of R.steps c) 1) sound_order point.name known in
            let same : row ≡ point = one_of_name (λ (p : PointRow). p.name) R.net.points good.network.points_rise row point row_there there (sym named) in
            let here : actions_at (tasks_of (of_round (steps_of R.steps c) 1)) point.name ≡ needed point = steps_there ∙ ap needed same in
            record {
              held_open = as_needed HeldOpen point.name point refl here ∙ needed_open point;
              tagged = as_needed Tag point.name point refl here ∙ needed_tag point;
              blocked = λ lockable. as_needed Block point.name point refl here ∙ needed_block point lockable;
              controlled = λ remote. as_needed Control point.name point refl here ∙ needed_control point remote;
            }

        dead : (s : List ℕ) → has_name (clearance_fence R c) s ≡ true → is_live R.net R.states s ≡ false
        dead s inside =
            let (w, is, sound_order) = sound in
            let rows = of_round (steps_of R.steps c) 1 in
            let within : has_name (work_fence R.net (Some w) (points_of rows)) s ≡ true = rw (fence_is (granted_is r.phase granted), is) at inside in
            dead_work_fence R.net good.network R.states w (points_of rows) (tasks_of rows) sound_order
            (λ p known.
            let (row, there, named, steps_there) = needed_there R.net w rows sound_order p known in
            ap is_shut (good.held_open c HeldOpen p refl (as_needed HeldOpen p row refl steps_there ∙ needed_open row)))
            s within

  -- ---- the parts

  held_points_are_open : HeldPointsAreOpen R
  held_points_are_open = record {
    open_there = good.held_open;
    beside_held_open = λ c kind p at_point has. let (r, found) = recorded_hold c kind p has in (holds c r found).beside kind p at_point has;
  }

  hand_matches_step : HandMatchesStep R
  hand_matches_step = record { hand = hand_is; closing = good.closing_free }

  granted_points_are_held : GrantedPointsAreHeld R
  granted_points_are_held = record {
    done = λ c r found granted. rw (← of_round_is R.steps c 1) ((order c r found).done granted);
    held = λ c r found granted point there known. fully_held c r found granted point there (rw (of_round_is R.steps c 1) known);
  }

  work_holds_belong : WorkHoldsBelong R
  work_holds_belong = record {
    granted = λ c kind place off_point has. let (r, found) = recorded_hold c kind place has in (r, found, (work c r found).granted kind place off_point has);
    tested_inside = λ c place has.
        let (r, found) = recorded_hold c Tested place has in
        rw (fence_is c r found (granted_is r.phase ((work c r found).granted Tested place refl has))) ((work c r found).tested_inside place has);
    grounded_inside = λ c place has.
        let (r, found) = recorded_hold c Ground place has in
        rw (fence_is c r found (granted_is r.phase ((work c r found).granted Ground place refl has))) ((work c r found).grounded_inside place has);
    crews_grounded = λ c crew r has found. sym (works_at R.holds c Ground r.work) ∙ (work c r found).crews_grounded crew has;
  }

  numbers_have_no_gaps : NumbersHaveNoGaps R
  numbers_have_no_gaps = record {
    numbered = good.numbered;
    steps_recorded = All-from_each (λ (row : StepRow). has_record R.records row.id ≡ true) R.steps (λ row there.
        let (r, found) = recorded row.id (λ none.
        let (k, within, is) = subst (λ (rows : List StepRow). Contains rows row) (bare row.id none).no_step (among_own R.steps row there) in
        absurd (omega arith)) in
        ap is_some found);
    holds_recorded = All-from_each (λ (h : Hold). has_record R.records h.id ≡ true) R.holds (λ h there.
        let (r, found) = recorded_hold h.id h.kind h.place (hold_had R.holds h good.in_order.holds there) in ap is_some found);
    hands_recorded = recorded_hand;
    work_known = good.work_known;
  }

  steps_go_in_turn : StepsGoInTurn R
  steps_go_in_turn = record {
    in_turn = All-from_each (λ (row : StepRow). is_waiting row.step.state ≡ false → is_in_turn (steps_in R.steps row.id row.round) row.ordinal ≡ true) R.steps
        (λ row there active. turn_of_each (steps_in R.steps row.id row.round) (round_rises R.steps row.id row.round good.in_order.steps)
        (rw (← of_round_is R.steps row.id row.round) ((good.in_place row.id).in_turn row.round)) row (in_own_round R.steps row there) active);
    active_running = active;
    none_requested = λ c r found. (steps c r found).none_requested;
    second_round = λ c r found some. (steps c r found).second_round (rw (of_round_is R.steps c 2) some);
    only_switching = λ c r found. (steps c r found).only_switching;
  }

  holds_are_put : HoldsAreWhatDoneStepsPut R
  holds_are_put = record {
    standing = λ c kind p at_point has. let (r, found) = recorded_hold c kind p has in (r, found, (holds c r found).standing kind p at_point has);
    at_points = λ c kind p at_point has. let (r, found) = recorded_hold c kind p has in rw (← of_round_is R.steps c 1) ((holds c r found).at_points kind p at_point has);
    as_put = λ c r found standing not_restoring kind p at_point. rw (← of_round_is R.steps c 1) ((holds c r found).as_put standing not_restoring kind p at_point);
    undone = λ c r found restoring p held. rw (← of_round_is R.steps c 2) ((holds c r found).undone restoring p held);
    nowhere_else = λ c r found restoring. rw (← of_round_is R.steps c 2) ((holds c r found).nowhere_else restoring);
  }

  switch_orders : SwitchOrdersAreOperators R
  switch_orders = record {
    without_work = good.operators;
    phases = λ c r found. (order c r found).switch_phases;
    switching = λ c r found. (order c r found).switching;
  }

pub from_phases : (R : Register) → IsGoodByPhase R → IsGood R
from_phases R good = record {
  said = record {
    network = good.network;
    staff = good.staff;
    in_order = good.in_order;
    held_points_are_open = held_points_are_open R good;
    hand_matches_step = hand_matches_step R good;
    standing_orders_are_sound = λ c r found standing. rw (← of_round_is R.steps c 1) ((order R good c r found).isolates standing);
    granted_points_are_held = granted_points_are_held R good;
    granted_fences_are_dead = dead R good;
    work_holds_belong = work_holds_belong R good;
    numbers_have_no_gaps = numbers_have_no_gaps R good;
    steps_go_in_turn = steps_go_in_turn R good;
    holds_are_put = holds_are_put R good;
  };
  besides = record {
    restoring_rounds = λ c r found restoring. rw (← of_round_is R.steps c 2) ((order R good c r found).second_round restoring);
    switch_orders = switch_orders R good;
    placed = good.placed;
    points_known = good.points_known;
  };
}
