-- A command that gives a step out is answered by what is near it: the step's point is near where the checks before it pass.
use Rattle.std.proofs.Common.{◌≡◌, ◌∙◌, ℕ, Bool, true, false, ◌&&◌, ◌||◌, not, List, [], ◌∷◌, ◌++◌, Option, Some, None, refl, sym, ap, subst, if◌then◌else◌, ◌==◌, Contains}
use Rattle.clr_rules.proofs.Common.{and_from, and_parts, or_left, or_right, nat_list_cmp_total, All-contains, name_cmp, same_name, has_name, one_name, Task, task, equal, same_text}
use Rattle.clr_rules.proofs.Common.{filter-filter_wider, named_clearance, clearance_fence, touching_names, SameOwn, hand_in, is_close, there_mapped, Contains-filter, has_name-row, own_id}
use Rattle.clr_shelf.proofs.Groups.{row_of-filter_inside}
use Rattle.clr_rules.specs.Answer.{answer, answer_with, fence_for, first_refusal, known_of, answer_by_checks}
use Rattle.clr_rules.specs.Commands.{by_operator, checks}
use Rattle.clr_rules.specs.Checks.{hold_hinders, held_by, in_hand, is_operator, no_step, other_hand, out_of_turn, where_some, wrong_state}
use Rattle.clr_rules.specs.Good.{IsGoodAsSaid, OnlySwitchOrdersSwitch, steps_left_of}
use Rattle.clr_rules.specs.Prelude.{Command, Hold, HeldOpen, Phase, Ordered, Restoring, Switching, PointState, Record, Refusal, StepRow, Id, same_id, Register, hand_of, state_key, record_of}
use Rattle.clr_rules.specs.Prelude.{is_running, is_standing, is_restoring, is_done, is_some_step, is_waiting, points_of, present_steps, step_at, steps_in, steps_of, tasks_of, is_point_kind, has_hold}
use Rattle.clr_rules.specs.Prelude.{same_kind, Instruct}
use Rattle.clr_rules.specs.Holds.{first_hold, hindering_hold, hinders, is_near_hold}
use Rattle.clr_rules.specs.Near.{is_beside, near_part, part_beside, switched_in}
use Rattle.clr_rules.specs.Records.{is_closed, is_in_switching}
use Rattle.clr_rules.proofs.keeps.Repeat.{state_fits}
use Rattle.clr_rules.proofs.near.NearOrder.{near_in_order}
use Rattle.clr_rules.proofs.near.OwnAnswers.{settled_alike}
use Rattle.clr_rules.proofs.near.OwnChecks.{number, same_by_role, state, turn}
use Rattle.clr_rules.proofs.near.OwnHoldsNear.{round_one_touches}
use Rattle.clr_rules.proofs.near.OwnParts.{near_has_own}
use Rattle.clr_rules.proofs.near.OwnQuestions.{same_present}
use Rattle.clr_rules.proofs.edits.Passing.{all_pass, first_after, role_begun}
use Rattle.clr_rules.proofs.edits.PresentSteps.{FoundStep, step_there}
use Rattle.clr_rules.proofs.good.PutHolds.{found_there}
use Rattle.clr_rules.proofs.lists.StepSplits.{waiting_not_done}

-- ---- phases

restoring_stands : (phase : Phase) → is_restoring phase ≡ true → is_standing phase ≡ true
restoring_stands Restoring is = refl
restoring_stands _ is = cc

-- a phase in which steps run is that of a switch order, or one with an isolating order in force
running_stands : (phase : Phase) → is_running phase ≡ true → is_in_switching phase ≡ false → is_standing phase ≡ true
running_stands Ordered runs other = refl
running_stands Restoring runs other = refl
running_stands Switching runs other = cc other
running_stands _ runs other = cc

-- and where there may be a second round it restores
running_restores : (phase : Phase) → is_running phase ≡ true → (is_restoring phase || is_closed phase) ≡ true → is_restoring phase ≡ true
running_restores Restoring runs second = refl
running_restores Ordered runs second = cc second
running_restores Switching runs second = cc second
running_restores _ runs second = cc runs

-- ---- the point of a waiting step is near

-- the point of a step is among those of its list
step_point : (rows : List StepRow) (row : StepRow) → Contains rows row → has_name (points_of rows) row.step.point ≡ true
step_point rows row there = has_name-row (λ (t : Task). t.point) (tasks_of rows) (task row.step) (there_mapped (λ (row : StepRow). task row.step) rows row there)

module _ (R : Register) (good : IsGoodAsSaid R) (switch : OnlySwitchOrdersSwitch R) (c : Id) (n : ℕ) (r : Record) (read : record_of R.records c ≡ Some r) (runs : is_running r.phase ≡ true)
    (s : FoundStep R c n) (waits : is_waiting s.row.step.state ≡ true) where
  -- in the first round of an order in force
  of_first : is_standing r.phase ≡ true → step_at (steps_in R.steps c 1) n ≡ Some s.row
      → has_name (touching_names R.net (has_name (clearance_fence R c))) s.row.step.point ≡ true
  of_first stands found = round_one_touches R c good r read stands s.row.step.point
      (step_point (steps_in R.steps c 1) s.row (found_there (λ (row : StepRow). row.ordinal == n) (steps_in R.steps c 1) s.row found))

  -- in the second round a step that waits is at a point that the clearance holds open
  of_second : is_restoring r.phase ≡ true → step_at (steps_in R.steps c 2) n ≡ Some s.row
      → has_name (touching_names R.net (has_name (clearance_fence R c))) s.row.step.point ≡ true
  of_second restores found =
      let there = found_there (λ (row : StepRow). row.ordinal == n) (steps_in R.steps c 2) s.row found in
      let is_left = Contains-filter (λ (row : StepRow). not (is_done row.step.state)) (steps_in R.steps c 2) s.row there (ap not (waiting_not_done s.row.step.state waits)) in
      let holds : has_hold R.holds c HeldOpen s.row.step.point ≡ true =
      All-contains (λ (row : StepRow). has_hold R.holds c HeldOpen row.step.point ≡ true) (steps_left_of (steps_in R.steps c 2)) s.row (good.holds_are_put.nowhere_else c r read restores) is_left in
      round_one_touches R c good r read (restoring_stands r.phase restores) s.row.step.point (good.holds_are_put.at_points c HeldOpen s.row.step.point refl holds)

  of_standing : is_standing r.phase ≡ true → (b : Bool) → is_some_step (steps_in R.steps c 2) ≡ b
      → step_at (if b then steps_in R.steps c 2 else steps_in R.steps c 1) n ≡ Some s.row
      → has_name (touching_names R.net (has_name (clearance_fence R c))) s.row.step.point ≡ true
  of_standing stands true is found = of_second (running_restores r.phase runs (good.steps_go_in_turn.second_round c r read is)) found
  of_standing stands false is found = of_first stands found

  -- that of a switch order is one of its own points
  of_switch : is_in_switching r.phase ≡ true → has_name (switched_in R (Some c)) s.row.step.point ≡ true
  unfolding steps_of
  of_switch switching =
      let there = Contains-filter (λ (row : StepRow). same_id c row.id) R.steps s.row s.is_present.there
      (subst (λ (d : Id). same_id c d ≡ true) (sym s.is_present.own) (own_id c)) in
      rw (read, switch c r read switching) (step_point (steps_of R.steps c) s.row there)

  by_phase : (b : Bool) → is_in_switching r.phase ≡ b
      → (has_name (touching_names R.net (has_name (clearance_fence R c))) s.row.step.point || has_name (switched_in R (Some c)) s.row.step.point) ≡ true
  by_phase true is = or_right (has_name (touching_names R.net (has_name (clearance_fence R c))) s.row.step.point) _ (of_switch is)
  by_phase false is = or_left _ (has_name (switched_in R (Some c)) s.row.step.point)
      (of_standing (running_stands r.phase runs is) (is_some_step (steps_in R.steps c 2)) refl s.found)

  point_beside : (has_name (touching_names R.net (has_name (clearance_fence R c))) s.row.step.point || has_name (switched_in R (Some c)) s.row.step.point) ≡ true
  point_beside = by_phase (is_in_switching r.phase) refl

-- ---- what is at a point that is near is the same

module _ (R : Register) (q : Command) (p : List ℕ) (beside : is_beside R (known_of R q) q.kind p ≡ true) where
  same_hand : hand_of R.states p ≡ hand_of (Register.states (part_beside R q)) p
  same_hand = ap hand_in (sym (row_of-filter_inside name_cmp state_key nat_list_cmp_total (λ (state : PointState). is_beside R (known_of R q) q.kind state.point) p R.states
      (λ state tied. rw (same_text state.point p (equal (name_cmp state.point p) tied)) beside)))

  hindering_near : (c : Id) (h : Hold) → hinders c p h ≡ true
      → is_near_hold (has_name (fence_for R q.kind)) (is_beside R (known_of R q) q.kind) (named_clearance q.kind) h ≡ true
  hindering_near c h is =
      let (at_point, here) = and_parts (is_point_kind h.kind) (same_name p h.place) (and_parts (is_point_kind h.kind && same_name p h.place) (not (same_id c h.id && same_kind HeldOpen h.kind)) is).0 in
      or_left (is_point_kind h.kind && is_beside R (known_of R q) q.kind h.place) _
      (and_from (is_point_kind h.kind) (is_beside R (known_of R q) q.kind h.place) at_point
      (subst (λ (place : List ℕ). is_beside R (known_of R q) q.kind place ≡ true) (one_name p h.place here) beside))

  same_hindering : (c : Id) → hindering_hold R.holds c p ≡ hindering_hold (Register.holds (part_beside R q)) c p
  unfolding hindering_hold
  same_hindering c = ap first_hold (sym (filter-filter_wider (hinders c p)
      (is_near_hold (has_name (fence_for R q.kind)) (is_beside R (known_of R q) q.kind) (named_clearance q.kind)) (hindering_near c) R.holds))

-- ---- what is near is enough

module _ (R : Register) (good : IsGoodAsSaid R) (switch : OnlySwitchOrdersSwitch R) (by : List ℕ) (at : ℕ) (c : Id) (n : ℕ) where
  abbrev given : Command
  given = record { caller = by; moment = at; kind = Instruct c n }

  -- the checks before those of the point
  abbrev early : Register → List (Option Refusal)
  early T = by_operator T by at c is_running (no_step T c n ∷ out_of_turn T c n ∷ wrong_state T c n is_waiting ∷ [])

  abbrev at_point : Register → List (Option Refusal)
  at_point T = in_hand T c n ∷ hold_hinders T c n ∷ []

  same : SameOwn c R (near_part R given)
  same = near_has_own R given c good refl refl

  same_early : early R ≡ early (near_part R given)
  same_early =
      let S = near_part R given in
      same_by_role c R S same by at is_operator is_running (λ i. number c R S same n i ∷ turn c R S same n i ∷ state c R S same n is_waiting i ∷ [])

  -- the checks of the step's point say the same where its hand and the hold that hinders it are the same
  point_checks : (row : StepRow) → step_at (present_steps R.steps c) n ≡ Some row → is_beside R (known_of R given) (Instruct c n) row.step.point ≡ true
      → at_point R ≡ at_point (near_part R given)
  point_checks row found beside =
      let S = near_part R given in
      let second : step_at (present_steps S.steps c) n ≡ Some row = ap (λ (rows : List StepRow). step_at rows n) (sym (same_present c R S same)) ∙ found in
      let hand : in_hand R c n ≡ in_hand S c n =
      ap (λ (o : Option StepRow). where_some o (λ row. other_hand c (hand_of R.states row.step.point))) found
      ∙ ap (other_hand c) (same_hand R given row.step.point beside)
      ∙ ap (λ (o : Option StepRow). where_some o (λ row. other_hand c (hand_of S.states row.step.point))) (sym second) in
      let hold : hold_hinders R c n ≡ hold_hinders S c n =
      ap (λ (o : Option StepRow). where_some o (λ row. if is_close row.step.action then held_by (hindering_hold R.holds c row.step.point) else None)) found
      ∙ ap (λ (o : Option Hold). if is_close row.step.action then held_by o else None) (same_hindering R given row.step.point beside c)
      ∙ ap (λ (o : Option StepRow). where_some o (λ row. if is_close row.step.action then held_by (hindering_hold S.holds c row.step.point) else None)) (sym second) in
      λ i. hand i ∷ hold i ∷ []

  same_point : first_refusal (early R) ≡ None → at_point R ≡ at_point (near_part R given)
  same_point h =
      let (r, read, runs, rest) = role_begun R c is_running (all_pass (early R) h) in
      let s = step_there R c n (search rest) in
      point_checks s.row s.found
      (point_beside R good switch c n r read runs s (state_fits R c n s is_waiting (search rest)))

  same_refusal : first_refusal (checks (known_of R given) R by at (Instruct c n)) ≡ first_refusal (checks (known_of R given) (near_part R given) by at (Instruct c n))
  same_refusal = first_after (early R) (at_point R) (at_point (near_part R given)) (λ h. ap first_refusal (same_point h))
      ∙ ap (λ list. first_refusal (list ++ at_point (near_part R given))) same_early

  pub giving_out_is_enough : answer R given ≡ answer_with (known_of R given) (near_part R given) given
  giving_out_is_enough =
      settled_alike c R (near_part R given) good.in_order (near_in_order R given good.in_order) same (known_of R given) given refl
      (first_refusal (checks (known_of R given) R by at (Instruct c n))) refl
      ∙ ap (answer_by_checks (known_of R given) (near_part R given) given) same_refusal
