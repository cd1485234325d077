-- Steps and holds that suit a phase are those of a clearance in its place, and the other way round.
use Rattle.std.proofs.Common.{◌≡◌, ℕ, Bool, true, false, not, ◌&&◌, List, [], Option, Some, None, refl, sym, ◌∙◌, ap, subst}
use Rattle.clr_rules.proofs.Common.{list_all, and_from, and_parts, false≢true, false_from_ne_true, not-true, not_from_false, has_name, Opened, is_switching, put_by, Id, Register, position_of}
use Rattle.clr_rules.proofs.Common.{list_all-from_each, is_granted, all_done, is_some_step, points_of, steps_of, is_point_kind, has_hold, hold_of, some_active}
use Rattle.clr_rules.specs.GoodByPhase.{HasNoWork, HoldsAsPut, HoldsNothing, InPhase, of_round, outlook_of, present_of}
use Rattle.clr_rules.proofs.lists.RoundSteps.{no_step_there}
use Rattle.clr_good.specs.Clearances.{work_fits}
use Rattle.clr_good.specs.Holds.{all_put_stands, holds_suit, is_opened, is_undone_at, kind_suits, point_hold_suits, work_hold_suits}
use Rattle.clr_good.specs.Steps.{active_within, isolates, steps_suit}
use Rattle.clr_good.proofs.HoldsSay.{held_then_put, put_then_held, round_points, undone_each}
use Rattle.clr_good.proofs.StepsSay.{active_said, active_say, isolates_said, isolates_say}
use Rattle.clr_net.proofs.Walks.{same_tests}
use Rattle.clr_good.proofs.Tests.{All_from_list_all, list_all_from_All}
use Rattle.clr_rules.specs.declared.hold_kind.HoldKind.{HoldKind}
use Rattle.clr_rules.specs.declared.phase.Phase.{Phase}
use Rattle.clr_rules.specs.declared.step_row.StepRow.{StepRow}
use Rattle.clr_rules.specs.declared.hold_kind.HoldKind.TheVariants.{HeldOpen, Tested, Ground, Crew}
use Rattle.clr_rules.specs.declared.phase.Phase.TheVariants.{Requested, Ordered, Granted, Released, Restoring, Switching, Closed}

-- the holds that a clearance has suit a phase
abbrev pub HoldsSuit : Register → Id → Phase → Option (List ℕ) → Type 0
HoldsSuit R c phase work = (kind : HoldKind) (place : List ℕ) → has_hold R.holds c kind place ≡ true
    → kind_suits R phase work (hold_of c kind place) (is_point_kind kind) ≡ true

module _ (R : Register) (c : Id) where
  abbrev own_steps : List StepRow
  own_steps = steps_of R.steps c

  -- ---- from tests

  none_left : (rows : List StepRow) → not (is_some_step rows) ≡ true → rows ≡ []
  none_left rows h = no_step_there rows (not-true (is_some_step rows) h)

  at_point_suits : (phase : Phase) (work : Option (List ℕ)) → HoldsSuit R c phase work → (kind : HoldKind) (p : List ℕ) → is_point_kind kind ≡ true → has_hold R.holds c kind p ≡ true
      → (is_opened (position_of R.states p) ≡ true) × (point_hold_suits R.holds c own_steps phase kind p ≡ true)
  at_point_suits phase work suit kind p at_point has =
      and_parts (is_opened (position_of R.states p)) (point_hold_suits R.holds c own_steps phase kind p)
      (subst (λ (b : Bool). kind_suits R phase work (hold_of c kind p) b ≡ true) at_point (suit kind p has))

  at_work_suits : (phase : Phase) (work : Option (List ℕ)) → HoldsSuit R c phase work → (kind : HoldKind) (p : List ℕ) → is_point_kind kind ≡ false → has_hold R.holds c kind p ≡ true
      → (is_granted phase ≡ true) × (work_hold_suits R.net R.holds c own_steps work kind p ≡ true)
  at_work_suits phase work suit kind p at_work has =
      and_parts (is_granted phase) (work_hold_suits R.net R.holds c own_steps work kind p)
      (subst (λ (b : Bool). kind_suits R phase work (hold_of c kind p) b ≡ true) at_work (suit kind p has))

  no_work : (phase : Phase) (work : Option (List ℕ)) → is_granted phase ≡ false → HoldsSuit R c phase work → HasNoWork (outlook_of R c)
  no_work phase work other suit kind place at_work = false_from_ne_true (has_hold R.holds c kind place) (λ has.
      false≢true (sym other ∙ (at_work_suits phase work suit kind place at_work has).0))

  no_hold : (phase : Phase) (work : Option (List ℕ)) → is_granted phase ≡ false → ((kind : HoldKind) (p : List ℕ) → point_hold_suits R.holds c own_steps phase kind p ≡ false)
      → HoldsSuit R c phase work → HoldsNothing (outlook_of R c)
  no_hold phase work other none suit kind place = at (is_point_kind kind) refl
    where
      at : (b : Bool) → is_point_kind kind ≡ b → has_hold R.holds c kind place ≡ false
      at true e = false_from_ne_true (has_hold R.holds c kind place) (λ has. false≢true (sym (none kind place) ∙ (at_point_suits phase work suit kind place e has).1))
      at false e = no_work phase work other suit kind place e

  as_put : (phase : Phase) (work : Option (List ℕ)) → ((kind : HoldKind) (p : List ℕ) → point_hold_suits R.holds c own_steps phase kind p ≡ put_by (of_round own_steps 1) kind p)
      → HoldsSuit R c phase work → all_put_stands R.holds c (of_round own_steps 1) ≡ true → HoldsAsPut (outlook_of R c)
  as_put phase work by_steps suit stand kind p at_point =
      same_tests (has_hold R.holds c kind p) (put_by (of_round own_steps 1) kind p)
      (λ has. sym (by_steps kind p) ∙ (at_point_suits phase work suit kind p at_point has).1)
      (put_then_held R.holds c (of_round own_steps 1) stand kind p)

  from_tests : (phase : Phase) (work : Option (List ℕ)) → work_fits phase work ≡ true → steps_suit R.net phase work own_steps ≡ true → HoldsSuit R c phase work
      → holds_suit R.holds c phase own_steps ≡ true → InPhase R.net phase work (outlook_of R c)
  from_tests Requested (Some work) fits suits suit stand = record {
    no_step = none_left own_steps suits;
    no_hold = no_hold Requested (Some work) refl (λ kind p. refl) suit;
  }
  from_tests Ordered (Some work) fits suits suit stand =
      let sound = and_parts (isolates R.net (Some work) (of_round own_steps 1)) (not (is_some_step (of_round own_steps 2)) && active_within 1 own_steps) suits in
      let rest = and_parts (not (is_some_step (of_round own_steps 2))) (active_within 1 own_steps) sound.1 in
      record {
        isolates = isolates_say R.net work (of_round own_steps 1) sound.0;
        one_round = none_left (of_round own_steps 2) rest.0;
        given_out = active_say 1 own_steps rest.1;
        as_put = as_put Ordered (Some work) (λ kind p. refl) suit stand;
        no_work = no_work Ordered (Some work) refl suit;
      }
  from_tests Granted (Some work) fits suits suit stand =
      let done_test = all_done (of_round own_steps 1) in
      let idle = not (some_active own_steps) in
      let sound = and_parts (isolates R.net (Some work) (of_round own_steps 1)) (not (is_some_step (of_round own_steps 2)) && (done_test && idle)) suits in
      let rest = and_parts (not (is_some_step (of_round own_steps 2))) (done_test && idle) sound.1 in
      let last = and_parts done_test idle rest.1 in
      record {
        isolates = isolates_say R.net work (of_round own_steps 1) sound.0;
        one_round = none_left (of_round own_steps 2) rest.0;
        done = last.0;
        none_active = not-true (some_active own_steps) last.1;
        as_put = as_put Granted (Some work) (λ kind p. refl) suit stand;
        tested_inside = λ place has. (at_work_suits Granted (Some work) suit Tested place refl has).1;
        grounded_inside = λ place has. (at_work_suits Granted (Some work) suit Ground place refl has).1;
        crews_grounded = λ crew has. (at_work_suits Granted (Some work) suit Crew crew refl has).1;
      }
  from_tests Released (Some work) fits suits suit stand =
      let idle = not (some_active own_steps) in
      let sound = and_parts (isolates R.net (Some work) (of_round own_steps 1)) (not (is_some_step (of_round own_steps 2)) && idle) suits in
      let rest = and_parts (not (is_some_step (of_round own_steps 2))) idle sound.1 in
      record {
        isolates = isolates_say R.net work (of_round own_steps 1) sound.0;
        one_round = none_left (of_round own_steps 2) rest.0;
        none_active = not-true (some_active own_steps) rest.1;
        as_put = as_put Released (Some work) (λ kind p. refl) suit stand;
        no_work = no_work Released (Some work) refl suit;
      }
  from_tests Restoring (Some work) fits suits suit stand =
      let sound = and_parts (isolates R.net (Some work) (of_round own_steps 1)) (is_some_step (of_round own_steps 2) && active_within 2 own_steps) suits in
      let rest = and_parts (is_some_step (of_round own_steps 2)) (active_within 2 own_steps) sound.1 in
      record {
        isolates = isolates_say R.net work (of_round own_steps 1) sound.0;
        second_round = rest.0;
        given_out = active_say 2 own_steps rest.1;
        at_points = λ p has. (held_there HeldOpen p refl has).1;
        beside_held_open = λ kind p at_point has. (held_there kind p at_point has).0;
        undone = undone_each R.holds c own_steps stand (λ kind p at_point has. round_points 1 p own_steps (held_there kind p at_point has).1);
        no_work = no_work Restoring (Some work) refl suit;
      }
    where
      held_there : (kind : HoldKind) (p : List ℕ) → is_point_kind kind ≡ true → has_hold R.holds c kind p ≡ true
          → (has_hold R.holds c HeldOpen p ≡ true) × (has_name (points_of (of_round own_steps 1)) p ≡ true)
      held_there kind p at_point has =
          and_parts (has_hold R.holds c HeldOpen p) (has_name (points_of (of_round own_steps 1)) p) (at_point_suits Restoring (Some work) suit kind p at_point has).1
  from_tests Switching None fits suits suit stand =
      let switching = list_all (λ (row : StepRow). is_switching row.step.action) own_steps in
      let first = and_parts switching (not (is_some_step (of_round own_steps 2)) && active_within (present_of own_steps) own_steps) suits in
      let rest = and_parts (not (is_some_step (of_round own_steps 2))) (active_within (present_of own_steps) own_steps) first.1 in
      record {
        only_switching = All_from_list_all (λ (row : StepRow). is_switching row.step.action) own_steps first.0;
        one_round = none_left (of_round own_steps 2) rest.0;
        given_out = active_say (present_of own_steps) own_steps rest.1;
        no_hold = no_hold Switching None refl (λ kind p. refl) suit;
      }
  from_tests Closed work fits suits suit stand = record {
    none_active = not-true (some_active own_steps) suits;
    no_hold = no_hold Closed work refl (λ kind p. refl) suit;
  }
  from_tests Switching (Some work) fits suits suit stand = absurd (false≢true fits)
  from_tests Requested None fits suits suit stand = absurd (false≢true fits)
  from_tests Ordered None fits suits suit stand = absurd (false≢true fits)
  from_tests Granted None fits suits suit stand = absurd (false≢true fits)
  from_tests Released None fits suits suit stand = absurd (false≢true fits)
  from_tests Restoring None fits suits suit stand = absurd (false≢true fits)

  -- ---- to tests

  works_fit : (phase : Phase) (work : Option (List ℕ)) → InPhase R.net phase work (outlook_of R c) → work_fits phase work ≡ true
  works_fit Requested (Some work) h = refl
  works_fit Ordered (Some work) h = refl
  works_fit Granted (Some work) h = refl
  works_fit Released (Some work) h = refl
  works_fit Restoring (Some work) h = refl
  works_fit Switching None h = refl
  works_fit Closed work h = refl
  works_fit _ _ h = absurd h

  no_rows : (rows : List StepRow) → rows ≡ [] → not (is_some_step rows) ≡ true
  no_rows rows none = ap (λ (rows : List StepRow). not (is_some_step rows)) none

  steps_are : (phase : Phase) (work : Option (List ℕ)) → InPhase R.net phase work (outlook_of R c) → steps_suit R.net phase work own_steps ≡ true
  steps_are Requested (Some work) h = no_rows own_steps h.no_step
  steps_are Ordered (Some work) h =
      and_from (isolates R.net (Some work) (of_round own_steps 1)) (not (is_some_step (of_round own_steps 2)) && active_within 1 own_steps)
      (isolates_said R.net work (of_round own_steps 1) h.isolates)
      (and_from (not (is_some_step (of_round own_steps 2))) (active_within 1 own_steps) (no_rows (of_round own_steps 2) h.one_round) (active_said 1 own_steps h.given_out))
  steps_are Granted (Some work) h =
      let done_test = all_done (of_round own_steps 1) in
      let idle = not (some_active own_steps) in
      and_from (isolates R.net (Some work) (of_round own_steps 1)) (not (is_some_step (of_round own_steps 2)) && (done_test && idle))
      (isolates_said R.net work (of_round own_steps 1) h.isolates)
      (and_from (not (is_some_step (of_round own_steps 2))) (done_test && idle) (no_rows (of_round own_steps 2) h.one_round)
      (and_from done_test idle h.done (not_from_false (some_active own_steps) h.none_active)))
  steps_are Released (Some work) h =
      let idle = not (some_active own_steps) in
      and_from (isolates R.net (Some work) (of_round own_steps 1)) (not (is_some_step (of_round own_steps 2)) && idle)
      (isolates_said R.net work (of_round own_steps 1) h.isolates)
      (and_from (not (is_some_step (of_round own_steps 2))) idle (no_rows (of_round own_steps 2) h.one_round) (not_from_false (some_active own_steps) h.none_active))
  steps_are Restoring (Some work) h =
      and_from (isolates R.net (Some work) (of_round own_steps 1)) (is_some_step (of_round own_steps 2) && active_within 2 own_steps)
      (isolates_said R.net work (of_round own_steps 1) h.isolates)
      (and_from (is_some_step (of_round own_steps 2)) (active_within 2 own_steps) h.second_round (active_said 2 own_steps h.given_out))
  steps_are Switching None h =
      let switching = list_all (λ (row : StepRow). is_switching row.step.action) own_steps in
      and_from switching (not (is_some_step (of_round own_steps 2)) && active_within (present_of own_steps) own_steps)
      (list_all_from_All (λ (row : StepRow). is_switching row.step.action) own_steps h.only_switching)
      (and_from (not (is_some_step (of_round own_steps 2))) (active_within (present_of own_steps) own_steps) (no_rows (of_round own_steps 2) h.one_round)
      (active_said (present_of own_steps) own_steps h.given_out))
  steps_are Closed work h = not_from_false (some_active own_steps) h.none_active
  steps_are _ _ h = absurd h

  all_stand : HoldsAsPut (outlook_of R c) → all_put_stands R.holds c (of_round own_steps 1) ≡ true
  all_stand put = held_then_put R.holds c (of_round own_steps 1) (λ kind p at_point is. put kind p at_point ∙ is)

  holds_are : (phase : Phase) (work : Option (List ℕ)) → InPhase R.net phase work (outlook_of R c) → holds_suit R.holds c phase own_steps ≡ true
  holds_are Requested (Some work) h = refl
  holds_are Ordered (Some work) h = all_stand h.as_put
  holds_are Granted (Some work) h = all_stand h.as_put
  holds_are Released (Some work) h = all_stand h.as_put
  holds_are Restoring (Some work) h = list_all-from_each (is_undone_at R.holds c (of_round own_steps 2)) (points_of own_steps) (λ p there. h.undone p)
  holds_are Switching None h = refl
  holds_are Closed work h = refl
  holds_are _ _ h = absurd h

  -- what a hold needs, by the phase
  abbrev Needs : Phase → Option (List ℕ) → HoldKind → List ℕ → Bool → Type 0
  Needs phase work kind p true = point_hold_suits R.holds c own_steps phase kind p ≡ true
  Needs phase work kind p false = (is_granted phase ≡ true) × (work_hold_suits R.net R.holds c own_steps work kind p ≡ true)

  unheld : {A : Type 0} (kind : HoldKind) (p : List ℕ) → HoldsNothing (outlook_of R c) → has_hold R.holds c kind p ≡ true → A
  unheld kind p none has = absurd (false≢true (sym (none kind p) ∙ has))

  unworked : {A : Type 0} (kind : HoldKind) (p : List ℕ) → HasNoWork (outlook_of R c) → is_point_kind kind ≡ false → has_hold R.holds c kind p ≡ true → A
  unworked kind p none at_work has = absurd (false≢true (sym (none kind p at_work) ∙ has))

  granted_work : (work : List ℕ) → InPhase R.net Granted (Some work) (outlook_of R c) → (kind : HoldKind) (p : List ℕ) → is_point_kind kind ≡ false → has_hold R.holds c kind p ≡ true
      → work_hold_suits R.net R.holds c own_steps (Some work) kind p ≡ true
  granted_work work h Tested p at_work has = h.tested_inside p has
  granted_work work h Ground p at_work has = h.grounded_inside p has
  granted_work work h Crew p at_work has = h.crews_grounded p has
  granted_work work h HeldOpen p at_work has = absurd (false≢true (sym at_work))
  granted_work work h _ p at_work has = absurd (false≢true (sym at_work))

  needs_met : (phase : Phase) (work : Option (List ℕ)) → InPhase R.net phase work (outlook_of R c) → (kind : HoldKind) (p : List ℕ) → has_hold R.holds c kind p ≡ true
      → (b : Bool) → is_point_kind kind ≡ b → Needs phase work kind p b
  needs_met Requested (Some work) h kind p has b e = unheld kind p h.no_hold has
  needs_met Ordered (Some work) h kind p has true e = sym (h.as_put kind p e) ∙ has
  needs_met Ordered (Some work) h kind p has false e = unworked kind p h.no_work e has
  needs_met Granted (Some work) h kind p has true e = sym (h.as_put kind p e) ∙ has
  needs_met Granted (Some work) h kind p has false e = (refl, granted_work work h kind p e has)
  needs_met Released (Some work) h kind p has true e = sym (h.as_put kind p e) ∙ has
  needs_met Released (Some work) h kind p has false e = unworked kind p h.no_work e has
  needs_met Restoring (Some work) h kind p has true e =
      let open_there = h.beside_held_open kind p e has in
      and_from (has_hold R.holds c HeldOpen p) (has_name (points_of (of_round own_steps 1)) p) open_there (h.at_points p open_there)
  needs_met Restoring (Some work) h kind p has false e = unworked kind p h.no_work e has
  needs_met Switching None h kind p has b e = unheld kind p h.no_hold has
  needs_met Closed work h kind p has b e = unheld kind p h.no_hold has
  needs_met _ _ h kind p has b e = absurd h

  needed_suits : (phase : Phase) (work : Option (List ℕ)) (kind : HoldKind) (p : List ℕ) (b : Bool) → (b ≡ true → position_of R.states p ≡ Some Opened)
      → Needs phase work kind p b → kind_suits R phase work (hold_of c kind p) b ≡ true
  needed_suits phase work kind p true placed needs =
      and_from (is_opened (position_of R.states p)) (point_hold_suits R.holds c own_steps phase kind p) (ap is_opened (placed refl)) needs
  needed_suits phase work kind p false placed needs =
      and_from (is_granted phase) (work_hold_suits R.net R.holds c own_steps work kind p) needs.0 needs.1

  holds_all_suit : (phase : Phase) (work : Option (List ℕ)) → InPhase R.net phase work (outlook_of R c)
      → ((kind : HoldKind) (p : List ℕ) → is_point_kind kind ≡ true → has_hold R.holds c kind p ≡ true → position_of R.states p ≡ Some Opened)
      → HoldsSuit R c phase work
  holds_all_suit phase work h placed kind p has =
      needed_suits phase work kind p (is_point_kind kind) (λ at_point. placed kind p at_point has) (needs_met phase work h kind p has (is_point_kind kind) refl)

pub phase_from_tests : (R : Register) (c : Id) (phase : Phase) (work : Option (List ℕ)) → work_fits phase work ≡ true → steps_suit R.net phase work (steps_of R.steps c) ≡ true
    → HoldsSuit R c phase work → holds_suit R.holds c phase (steps_of R.steps c) ≡ true → InPhase R.net phase work (outlook_of R c)
phase_from_tests = from_tests

pub work_from_phase : (R : Register) (c : Id) (phase : Phase) (work : Option (List ℕ)) → InPhase R.net phase work (outlook_of R c) → work_fits phase work ≡ true
work_from_phase = works_fit

pub steps_from_phase : (R : Register) (c : Id) (phase : Phase) (work : Option (List ℕ)) → InPhase R.net phase work (outlook_of R c) → steps_suit R.net phase work (steps_of R.steps c) ≡ true
steps_from_phase = steps_are

pub holds_from_phase : (R : Register) (c : Id) (phase : Phase) (work : Option (List ℕ)) → InPhase R.net phase work (outlook_of R c) → holds_suit R.holds c phase (steps_of R.steps c) ≡ true
holds_from_phase = holds_are

pub suits_from_phase : (R : Register) (c : Id) (phase : Phase) (work : Option (List ℕ)) → InPhase R.net phase work (outlook_of R c)
    → ((kind : HoldKind) (p : List ℕ) → is_point_kind kind ≡ true → has_hold R.holds c kind p ≡ true → position_of R.states p ≡ Some Opened)
    → HoldsSuit R c phase work
suits_from_phase = holds_all_suit
