-- What holds of a clearance in its place, whatever its phase: of its order, its steps, its holds and its work.
use Rattle.std.proofs.Common.{◌≡◌, ◌⊎◌, inl, inr, ℕ, Bool, true, false, ◌||◌, List, [], ◌∷◌, Option, Some, None, All, Contains, refl, sym, ◌∙◌, ap, arith}
use Rattle.std.proofs.lemmas.Bool.{both_ways, false≢true, false_from_ne_true, true_from_ne_false}
use Rattle.clr_rules.proofs.Common.{All-nil, All-weaker, Grid, same_name, has_name, any_from, same_itself, is_switching, actions_at, Contains-cases, work_fence, some_active, All-from_each}
use Rattle.clr_order.specs.Needed.{Undoes}
use Rattle.clr_order.specs.declared.held.Held.{Held}
use Rattle.clr_order.proofs.Undoing.{nothing_left, undoes_rule}
use Rattle.clr_rules.specs.Good.{IsSoundFor, steps_left_of}
use Rattle.clr_rules.specs.GoodByPhase.{ActiveInRound, HasNoWork, HoldsAsPut, HoldsNothing, InPhase, InRestoring, Isolates, Outlook, go_in_turn, of_round, present_of}
use Rattle.clr_rules.specs.Prelude.{HoldKind, HeldOpen, Block, Control, Tag, Tested, Ground, Crew, Phase, Requested, Ordered, Granted, Released, Restoring, Switching, Closed, StepRow, is_running}
use Rattle.clr_rules.specs.Prelude.{is_standing, is_granted, is_restoring, all_done, is_active, is_some_step, points_of, tasks_of, is_point_kind}
use Rattle.clr_rules.specs.Records.{is_closed, is_in_switching, is_requested, lacks_work}
use Rattle.clr_rules.proofs.good.PutHolds.{put_at_points, put_beside_open, some_isolating}

-- ---- the order

pub record OrderFacts (g : Grid) (phase : Phase) (work : Option (List ℕ)) (v : Outlook) : Type 0 where
  pub isolates : is_standing phase ≡ true → IsSoundFor g work (of_round v.steps 1)
  pub done : is_granted phase ≡ true → all_done (of_round v.steps 1) ≡ true
  pub second_round : is_restoring phase ≡ true → is_some_step (of_round v.steps 2) ≡ true
  pub switch_phases : lacks_work work ≡ true → (is_in_switching phase || is_closed phase) ≡ true
  pub switching : is_in_switching phase ≡ true → lacks_work work ≡ true

impossible : {A : Type 0} → false ≡ true → A
impossible h = absurd (false≢true h)

pub order_facts : (g : Grid) (phase : Phase) (work : Option (List ℕ)) (v : Outlook) → InPhase g phase work v → OrderFacts g phase work v
order_facts g Requested (Some work) v h = record { isolates = impossible; done = impossible; second_round = impossible; switch_phases = impossible; switching = impossible }
order_facts g Ordered (Some work) v h = record { isolates = λ _. h.isolates; done = impossible; second_round = impossible; switch_phases = impossible; switching = impossible }
order_facts g Granted (Some work) v h = record { isolates = λ _. h.isolates; done = λ _. h.done; second_round = impossible; switch_phases = impossible; switching = impossible }
order_facts g Released (Some work) v h = record { isolates = λ _. h.isolates; done = impossible; second_round = impossible; switch_phases = impossible; switching = impossible }
order_facts g Restoring (Some work) v h = record { isolates = λ _. h.isolates; done = impossible; second_round = λ _. h.second_round; switch_phases = impossible; switching = impossible }
order_facts g Switching None v h = record { isolates = impossible; done = impossible; second_round = impossible; switch_phases = λ _. refl; switching = λ _. refl }
order_facts g Closed work v h = record { isolates = impossible; done = impossible; second_round = impossible; switch_phases = λ _. refl; switching = impossible }
order_facts g _ _ v h = absurd h

-- ---- the steps

-- the steps that are given out are in the present round, in a phase in which steps are given out
abbrev pub ActiveNow : Phase → List StepRow → Type 0
ActiveNow phase steps = All (λ row. is_active row.step.state ≡ true → (is_running phase ≡ true) × (row.round ≡ present_of steps)) steps

pub record StepFacts (phase : Phase) (v : Outlook) : Type 0 where
  pub active : ActiveNow phase v.steps
  pub none_requested : is_requested phase ≡ true → v.steps ≡ []
  pub second_round : is_some_step (of_round v.steps 2) ≡ true → (is_restoring phase || is_closed phase) ≡ true
  pub only_switching : is_in_switching phase ≡ true → All (λ row. is_switching row.step.action ≡ true) v.steps

active_now : (phase : Phase) (steps : List StepRow) (round : ℕ) → is_running phase ≡ true → present_of steps ≡ round → ActiveInRound steps round → ActiveNow phase steps
active_now phase steps round runs is all =
    All-weaker (λ (row : StepRow). is_active row.step.state ≡ true → row.round ≡ round) (λ (row : StepRow). is_active row.step.state ≡ true → (is_running phase ≡ true) × (row.round ≡ present_of steps))
    (λ row here active. (runs, here active ∙ sym is)) steps all

none_now : (phase : Phase) (steps : List StepRow) → some_active steps ≡ false → ActiveNow phase steps
none_now phase steps none = All-from_each (λ (row : StepRow). is_active row.step.state ≡ true → (is_running phase ≡ true) × (row.round ≡ present_of steps)) steps
    (λ row there active. absurd (both_ways (some_active steps) none (any_from (λ (row : StepRow). is_active row.step.state) steps row there active)))

-- the present round, where there is no second, and where there is one
pub first_present : (g : Grid) (work : List ℕ) (v : Outlook) → Isolates g work v → of_round v.steps 2 ≡ [] → present_of v.steps ≡ 1
first_present g work v isolates one = rw (one, some_isolating g work (of_round v.steps 1) isolates) refl

pub second_present : (steps : List StepRow) → is_some_step (of_round steps 2) ≡ true → present_of steps ≡ 2
second_present steps some = rw some refl

pub no_second : {A : Type 0} (steps : List StepRow) → of_round steps 2 ≡ [] → is_some_step (of_round steps 2) ≡ true → A
no_second steps none some = absurd (false≢true (sym (ap is_some_step none) ∙ some))

pub none_of_round : (round : ℕ) → of_round [] round ≡ []
unfolding of_round
none_of_round round = refl

pub step_facts : (g : Grid) (phase : Phase) (work : Option (List ℕ)) (v : Outlook) → InPhase g phase work v → StepFacts phase v
step_facts g Requested (Some work) v h = record {
  active = rw h.no_step (All-nil (λ (row : StepRow). is_active row.step.state ≡ true → (false ≡ true) × (row.round ≡ present_of [])));
  none_requested = λ _. h.no_step;
  second_round = no_second v.steps (rw h.no_step (none_of_round 2));
  only_switching = impossible;
}
step_facts g Ordered (Some work) v h = record {
  active = active_now Ordered v.steps 1 refl (first_present g work v h.isolates h.one_round) h.given_out;
  none_requested = impossible;
  second_round = no_second v.steps h.one_round;
  only_switching = impossible;
}
step_facts g Granted (Some work) v h = record {
  active = none_now Granted v.steps h.none_active;
  none_requested = impossible;
  second_round = no_second v.steps h.one_round;
  only_switching = impossible;
}
step_facts g Released (Some work) v h = record {
  active = none_now Released v.steps h.none_active;
  none_requested = impossible;
  second_round = no_second v.steps h.one_round;
  only_switching = impossible;
}
step_facts g Restoring (Some work) v h = record {
  active = active_now Restoring v.steps 2 refl (second_present v.steps h.second_round) h.given_out;
  none_requested = impossible;
  second_round = λ _. refl;
  only_switching = impossible;
}
step_facts g Switching None v h = record {
  active = active_now Switching v.steps (present_of v.steps) refl refl h.given_out;
  none_requested = impossible;
  second_round = no_second v.steps h.one_round;
  only_switching = λ _. h.only_switching;
}
step_facts g Closed work v h = record { active = none_now Closed v.steps h.none_active; none_requested = impossible; second_round = λ _. refl; only_switching = impossible }
step_facts g _ _ v h = absurd h

-- ---- work

-- whether a hold of this kind is at the work section, if there is one
abbrev pub stands_at_work : (HoldKind → List ℕ → Bool) → HoldKind → Option (List ℕ) → Bool
stands_at_work has kind None = false
stands_at_work has kind (Some work) = has kind work

pub record WorkFacts (g : Grid) (phase : Phase) (work : Option (List ℕ)) (v : Outlook) : Type 0 where
  pub granted : (kind : HoldKind) (place : List ℕ) → is_point_kind kind ≡ false → v.has kind place ≡ true → is_granted phase ≡ true
  pub tested_inside : (place : List ℕ) → v.has Tested place ≡ true → has_name (work_fence g work (points_of (of_round v.steps 1))) place ≡ true
  pub grounded_inside : (place : List ℕ) → v.has Ground place ≡ true → has_name (work_fence g work (points_of (of_round v.steps 1))) place ≡ true
  pub crews_grounded : (crew : List ℕ) → v.has Crew crew ≡ true → stands_at_work v.has Ground work ≡ true

-- without tests, grounds and crews
no_work_facts : (g : Grid) (phase : Phase) (work : Option (List ℕ)) (v : Outlook) → HasNoWork v → WorkFacts g phase work v
no_work_facts g phase work v none = record {
  granted = λ kind place off_point has. absurd (both_ways (v.has kind place) (none kind place off_point) has);
  tested_inside = λ place has. absurd (both_ways (v.has Tested place) (none Tested place refl) has);
  grounded_inside = λ place has. absurd (both_ways (v.has Ground place) (none Ground place refl) has);
  crews_grounded = λ crew has. absurd (both_ways (v.has Crew crew) (none Crew crew refl) has);
}

pub work_facts : (g : Grid) (phase : Phase) (work : Option (List ℕ)) (v : Outlook) → InPhase g phase work v → WorkFacts g phase work v
work_facts g Granted (Some work) v h = record {
  granted = λ kind place off_point has. refl;
  tested_inside = h.tested_inside;
  grounded_inside = h.grounded_inside;
  crews_grounded = h.crews_grounded;
}
work_facts g Requested (Some work) v h = no_work_facts g Requested (Some work) v (λ kind place _. h.no_hold kind place)
work_facts g Ordered (Some work) v h = no_work_facts g Ordered (Some work) v h.no_work
work_facts g Released (Some work) v h = no_work_facts g Released (Some work) v h.no_work
work_facts g Restoring (Some work) v h = no_work_facts g Restoring (Some work) v h.no_work
work_facts g Switching None v h = no_work_facts g Switching None v (λ kind place _. h.no_hold kind place)
work_facts g Closed work v h = no_work_facts g Closed work v (λ kind place _. h.no_hold kind place)
work_facts g _ _ v h = absurd h

-- ---- holds at points

-- what is at a point beside a HeldOpen
abbrev pub held_there : Outlook → List ℕ → Held
held_there v p = record { point = p; block = v.has Block p; control = v.has Control p; tag = v.has Tag p }

pub record HoldFacts (phase : Phase) (v : Outlook) : Type 0 where
  pub standing : (kind : HoldKind) (p : List ℕ) → is_point_kind kind ≡ true → v.has kind p ≡ true → is_standing phase ≡ true
  pub at_points : (kind : HoldKind) (p : List ℕ) → is_point_kind kind ≡ true → v.has kind p ≡ true → has_name (points_of (of_round v.steps 1)) p ≡ true
  pub beside : (kind : HoldKind) (p : List ℕ) → is_point_kind kind ≡ true → v.has kind p ≡ true → v.has HeldOpen p ≡ true
  pub as_put : is_standing phase ≡ true → is_restoring phase ≡ false → HoldsAsPut v
  pub undone : is_restoring phase ≡ true → (p : List ℕ) → v.has HeldOpen p ≡ true → Undoes (held_there v p) (actions_at (tasks_of (steps_left_of (of_round v.steps 2))) p)
  pub nowhere_else : is_restoring phase ≡ true → All (λ row. v.has HeldOpen row.step.point ≡ true) (steps_left_of (of_round v.steps 2))

-- where nothing is held
no_hold_facts : (phase : Phase) (v : Outlook) → is_standing phase ≡ false → is_restoring phase ≡ false → HoldsNothing v → HoldFacts phase v
no_hold_facts phase v not_standing not_restoring none = record {
  standing = λ kind p _ has. absurd (both_ways (v.has kind p) (none kind p) has);
  at_points = λ kind p _ has. absurd (both_ways (v.has kind p) (none kind p) has);
  beside = λ kind p _ has. absurd (both_ways (v.has kind p) (none kind p) has);
  as_put = λ standing. absurd (both_ways (is_standing phase) not_standing standing);
  undone = λ restoring. absurd (both_ways (is_restoring phase) not_restoring restoring);
  nowhere_else = λ restoring. absurd (both_ways (is_restoring phase) not_restoring restoring);
}

-- where the holds are what the Done steps put
put_facts : (g : Grid) (work : List ℕ) (phase : Phase) (v : Outlook) → is_standing phase ≡ true → is_restoring phase ≡ false
    → Isolates g work v → go_in_turn (of_round v.steps 1) ≡ true → HoldsAsPut v → HoldFacts phase v
put_facts g work phase v stands not_restoring isolates turns as_put = record {
  standing = λ kind p _ has. stands;
  at_points = λ kind p at_point has. put_at_points kind p (of_round v.steps 1) (sym (as_put kind p at_point) ∙ has);
  beside = λ kind p at_point has. as_put HeldOpen p refl ∙ put_beside_open g work (of_round v.steps 1) isolates turns kind p (sym (as_put kind p at_point) ∙ has);
  as_put = λ _ _. as_put;
  undone = λ restoring. absurd (both_ways (is_restoring phase) not_restoring restoring);
  nowhere_else = λ restoring. absurd (both_ways (is_restoring phase) not_restoring restoring);
}

-- a step at a point is an action there
some_action : (rows : List StepRow) (row : StepRow) → Contains rows row → actions_at (tasks_of rows) row.step.point ≡ [] → ⊥
some_action [] row there none = let (k, within, is) = there in absurd (omega arith)
some_action (first ∷ rows) row there none = at (same_name row.step.point first.step.point) refl (some_action rows row) (Contains-cases first row rows there)
  where
    at : (b : Bool) → same_name row.step.point first.step.point ≡ b → (Contains rows row → actions_at (tasks_of rows) row.step.point ≡ [] → ⊥)
        → (first ≡ row) ⊎ Contains rows row → ⊥
    at true e more place = let some = rw e at none in absurd (cc)
    at false e more (inl here) = both_ways (same_name row.step.point first.step.point) e (rw here (same_itself row.step.point))
    at false e more (inr later) = more later (rw e at none)

restoring_facts : (g : Grid) (work : List ℕ) (v : Outlook) → InRestoring g work v → HoldFacts Restoring v
restoring_facts g work v h = record {
  standing = λ kind p _ has. refl;
  at_points = λ kind p at_point has. h.at_points p (h.beside_held_open kind p at_point has);
  beside = h.beside_held_open;
  as_put = λ _ never. absurd (false≢true (sym never));
  undone = λ _ p held. undoes_rule (held_there v p) (actions_at (tasks_of (steps_left_of (of_round v.steps 2))) p) (rw held at (h.undone p));
  nowhere_else = λ _. All-from_each (λ (row : StepRow). v.has HeldOpen row.step.point ≡ true) (steps_left_of (of_round v.steps 2)) (λ row there. held row there);
}
  where
    none_beside : (kind : HoldKind) (p : List ℕ) → is_point_kind kind ≡ true → v.has HeldOpen p ≡ false → v.has kind p ≡ false
    none_beside kind p at_point free = false_from_ne_true (v.has kind p) (λ has. both_ways (v.has HeldOpen p) free (h.beside_held_open kind p at_point has))

    held : (row : StepRow) → Contains (steps_left_of (of_round v.steps 2)) row → v.has HeldOpen row.step.point ≡ true
    held row there = true_from_ne_false (v.has HeldOpen row.step.point) (λ free.
        some_action (steps_left_of (of_round v.steps 2)) row there (nothing_left (actions_at (tasks_of (steps_left_of (of_round v.steps 2))) row.step.point)
        (rw (none_beside Tag row.step.point refl free, none_beside Control row.step.point refl free, none_beside Block row.step.point refl free, free) at (h.undone row.step.point))))

pub hold_facts : (g : Grid) (phase : Phase) (work : Option (List ℕ)) (v : Outlook) → go_in_turn (of_round v.steps 1) ≡ true → InPhase g phase work v → HoldFacts phase v
hold_facts g Ordered (Some work) v turns h = put_facts g work Ordered v refl refl h.isolates turns h.as_put
hold_facts g Granted (Some work) v turns h = put_facts g work Granted v refl refl h.isolates turns h.as_put
hold_facts g Released (Some work) v turns h = put_facts g work Released v refl refl h.isolates turns h.as_put
hold_facts g Restoring (Some work) v turns h = restoring_facts g work v h
hold_facts g Requested (Some work) v turns h = no_hold_facts Requested v refl refl h.no_hold
hold_facts g Switching None v turns h = no_hold_facts Switching v refl refl h.no_hold
hold_facts g Closed work v turns h = no_hold_facts Closed v refl refl h.no_hold
hold_facts g _ _ v turns h = absurd h
