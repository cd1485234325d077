-- A clearance in its place stays there when what does not count is changed: its record but for phase and work section, and its hands.
use Rattle.std.proofs.Common.{◌≡◌, refl, ℕ, Bool, true, false, nat_eq, List, Option, Some, None, Contains, eq-eqb}
use Rattle.clr_rules.proofs.Common.{both_ways, false≢true, false_from_ne_true, All-contains, Grid, StepState, list_all-contains, ActiveInRound, InPhase, Outlook, of_round, some_active}
use Rattle.clr_rules.proofs.Common.{Contains-filter, All-from_each}
use Rattle.std.proofs.lemmas.List.Folds.{list_any_none}
use Rattle.clr_rules.specs.Prelude.{Instructed, Repeated, Tested, Ground, Crew, Phase, Requested, Ordered, Granted, Released, Restoring, Switching, Closed, Record, StepRow, is_ordered, all_done}
use Rattle.clr_rules.specs.Prelude.{is_active, is_done}

-- the phase of a clearance is a matter of its steps and holds
pub phase_beside : (g : Grid) (phase : Phase) (work : Option (List ℕ)) (v : Outlook) (o : Option Record) (hand : List ℕ → Bool)
    → InPhase g phase work v → InPhase g phase work (record v { clearance = o; hand = hand })
phase_beside g Requested (Some work) v o hand h = record { no_step = h.no_step; no_hold = h.no_hold }
phase_beside g Ordered (Some work) v o hand h = record { isolates = h.isolates; one_round = h.one_round; given_out = h.given_out; as_put = h.as_put; no_work = h.no_work }
phase_beside g Granted (Some work) v o hand h = record {
  isolates = h.isolates;
  one_round = h.one_round;
  done = h.done;
  none_active = h.none_active;
  as_put = h.as_put;
  tested_inside = h.tested_inside;
  grounded_inside = h.grounded_inside;
  crews_grounded = h.crews_grounded;
}
phase_beside g Released (Some work) v o hand h = record { isolates = h.isolates; one_round = h.one_round; none_active = h.none_active; as_put = h.as_put; no_work = h.no_work }
phase_beside g Restoring (Some work) v o hand h = record {
  isolates = h.isolates;
  second_round = h.second_round;
  given_out = h.given_out;
  at_points = h.at_points;
  beside_held_open = h.beside_held_open;
  undone = h.undone;
  no_work = h.no_work;
}
phase_beside g Switching None v o hand h = record { only_switching = h.only_switching; one_round = h.one_round; given_out = h.given_out; no_hold = h.no_hold }
phase_beside g Closed work v o hand h = record { none_active = h.none_active; no_hold = h.no_hold }
phase_beside g _ _ v o hand h = absurd h

-- a step that is Done is not given out
pub done_rests : (state : StepState) → is_done state ≡ true → is_active state ≡ false
done_rests Instructed h = cc
done_rests Repeated h = cc
done_rests _ h = refl

-- a step of a round is among those of the round
pub in_round : (steps : List StepRow) (round : ℕ) (row : StepRow) → Contains steps row → row.round ≡ round → Contains (of_round steps round) row
unfolding of_round
in_round steps round row there is = Contains-filter (λ (row : StepRow). nat_eq row.round round) steps row there (eq-eqb row.round round is)

-- where all steps of the one round in which steps are given out are Done, none is given out
pub none_given_out : (steps : List StepRow) (round : ℕ) → ActiveInRound steps round → all_done (of_round steps round) ≡ true → some_active steps ≡ false
none_given_out steps round given_out done = list_any_none (λ (row : StepRow). is_active row.step.state) steps
    (All-from_each (λ (row : StepRow). is_active row.step.state ≡ false) steps (λ row there. false_from_ne_true (is_active row.step.state) (λ active.
    both_ways (is_active row.step.state)
    (done_rests row.step.state (list_all-contains (λ (row : StepRow). is_done row.step.state) (of_round steps round) row done
    (in_round steps round row there (All-contains (λ (row : StepRow). is_active row.step.state ≡ true → row.round ≡ round) steps row given_out there active))))
    active)))

-- ORDERED TO GRANTED, when all steps are Done
pub to_granted : (g : Grid) (phase : Phase) (work : Option (List ℕ)) (v : Outlook) (o : Option Record) → is_ordered phase ≡ true → all_done (of_round v.steps 1) ≡ true
    → InPhase g phase work v → InPhase g Granted work (record v { clearance = o })
to_granted g Ordered (Some work) v o is done h = record {
  isolates = h.isolates;
  one_round = h.one_round;
  done = done;
  none_active = none_given_out v.steps 1 h.given_out done;
  as_put = h.as_put;
  tested_inside = λ place has. absurd (both_ways (v.has Tested place) (h.no_work Tested place refl) has);
  grounded_inside = λ place has. absurd (both_ways (v.has Ground place) (h.no_work Ground place refl) has);
  crews_grounded = λ crew has. absurd (both_ways (v.has Crew crew) (h.no_work Crew crew refl) has);
}
to_granted g Ordered None v o is done h = absurd h
to_granted g _ work v o is done h = absurd (false≢true is)
