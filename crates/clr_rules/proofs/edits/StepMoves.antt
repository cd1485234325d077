-- A step of a clearance's present round is put again, its task the same: what is so of its steps.
use Rattle.std.proofs.Common.{◌≡◌, ℕ, Bool, true, false, ◌&&◌, nat_eq, List, [], ◌∷◌, ◌++◌, Option, Some, None, All, Contains, refl, sym, ◌∙◌, ap, subst, eqb-true}
use Rattle.clr_rules.proofs.Common.{list_any, both_ways, false≢true, false_from_ne_true, All-contains, All-head, All-tail, Grid, same_name, is_switching, IsSoundOrder, Task, task, list_all-contains}
use Rattle.clr_rules.proofs.Common.{steps_left_of, put_by, puts, ActiveInRound, InPhase, active_at, all_waiting, go_in_turn, of_round, present_of, some_active}
use Rattle.clr_rules.specs.Prelude.{task_points, HoldKind, Phase, Ordered, Restoring, Switching, Record, StepRow, is_running, all_done, is_active, is_done, is_some_step, is_waiting, points_of}
use Rattle.clr_rules.specs.Prelude.{tasks_of, first_of_each}
use Rattle.clr_rules.proofs.good.PhaseFacts.{first_present}
use Rattle.clr_rules.proofs.good.PlaceFacts.{done_rests, in_round}
use Rattle.clr_rules.proofs.lists.RoundSteps.{All-from_each, some_step_there}
use Rattle.clr_rules.proofs.lists.StepSplits.{All-before, All-swap, any-only, any-swap, left_after_done, map-swap, of_round-far, of_round-here, turn_between, waits_not_active}

-- steps of which those of the one round in which steps are given out are not given out
none_active_in : (rows : List StepRow) (k : ℕ) → ActiveInRound rows k → ((row : StepRow) → Contains (of_round rows k) row → is_active row.step.state ≡ false)
    → All (λ row. is_active row.step.state ≡ false) rows
none_active_in rows k given_out rests = All-from_each (λ (row : StepRow). is_active row.step.state ≡ false) rows (λ row there.
    false_from_ne_true (is_active row.step.state) (λ active.
    both_ways (is_active row.step.state)
    (rests row (in_round rows k row there (All-contains (λ (row : StepRow). is_active row.step.state ≡ true → row.round ≡ k) rows row given_out there active))) active))

pub some_step_between : (before : List StepRow) (x : StepRow) (after : List StepRow) → is_some_step (before ++ x ∷ after) ≡ true
some_step_between [] x after = some_step_there x after
some_step_between (row ∷ before) x after = some_step_there row (before ++ x ∷ after)

-- a step in the midst of others of its clearance, those before it in its round Done, those after it waiting
pub record InMidst (before after : List StepRow) (row : StepRow) (k : ℕ) : Type 0 where
  pub round : row.round ≡ k
  pub given_out : ActiveInRound (before ++ row ∷ after) k
  pub done : all_done (of_round before k) ≡ true
  pub waits : all_waiting (of_round after k) ≡ true

module _ (before after : List StepRow) (row new : StepRow) (k : ℕ) (mid : InMidst before after row k) (new_round : new.round ≡ k) where
  -- no other is given out
  pub none_before : All (λ row. is_active row.step.state ≡ false) before
  none_before = none_active_in before k (All-before (λ (row : StepRow). is_active row.step.state ≡ true → row.round ≡ k) before (row ∷ after) mid.given_out).0
      (λ other there. done_rests other.step.state (list_all-contains (λ (row : StepRow). is_done row.step.state) (of_round before k) other mid.done there))

  pub none_after : All (λ row. is_active row.step.state ≡ false) after
  none_after = none_active_in after k
      (All-tail (λ (row : StepRow). is_active row.step.state ≡ true → row.round ≡ k) row after
      (All-before (λ (row : StepRow). is_active row.step.state ≡ true → row.round ≡ k) before (row ∷ after) mid.given_out).1)
      (λ other there. waits_not_active other.step.state (list_all-contains (λ (row : StepRow). is_waiting row.step.state) (of_round after k) other mid.waits there))

  -- a test that none of the others passes, as it asks for a step that is given out
  pub active-only : (f : StepRow → Bool) → ((other : StepRow) → is_active other.step.state ≡ false → f other ≡ false) → list_any f (before ++ new ∷ after) ≡ f new
  active-only f asks = any-only f before new after
      (All-weak before none_before) (All-weak after none_after)
    where
      All-weak : (rows : List StepRow) → All (λ row. is_active row.step.state ≡ false) rows → All (λ row. f row ≡ false) rows
      All-weak rows none = All-from_each (λ (row : StepRow). f row ≡ false) rows
          (λ other there. asks other (All-contains (λ (row : StepRow). is_active row.step.state ≡ false) rows other none there))

  pub active_is : (p : List ℕ) → active_at (before ++ new ∷ after) p ≡ (is_active new.step.state && same_name p new.step.point)
  active_is p = active-only (λ (row : StepRow). is_active row.step.state && same_name p row.step.point) (λ other rests. rw rests refl)

  pub some_active_is : some_active (before ++ new ∷ after) ≡ is_active new.step.state
  some_active_is = active-only (λ (row : StepRow). is_active row.step.state) (λ other rests. rests)

  pub given_out_again : ActiveInRound (before ++ new ∷ after) k
  given_out_again = All-swap (λ (row : StepRow). is_active row.step.state ≡ true → row.round ≡ k) before row new after (λ _. new_round) mid.given_out

  -- other rounds stay
  pub other_round : (round : ℕ) → nat_eq k round ≡ false → of_round (before ++ new ∷ after) round ≡ of_round (before ++ row ∷ after) round
  other_round round far =
      of_round-far before new after round (ap (λ n. nat_eq n round) new_round ∙ far)
      ∙ sym (of_round-far before row after round (ap (λ n. nat_eq n round) mid.round ∙ far))

  pub own_round : of_round (before ++ new ∷ after) k ≡ of_round before k ++ new ∷ of_round after k
  own_round = of_round-here before new after k new_round

  pub own_round_was : of_round (before ++ row ∷ after) k ≡ of_round before k ++ row ∷ of_round after k
  own_round_was = of_round-here before row after k mid.round

  -- a reading of rounds that does not distinguish the steps
  pub rounds_alike : {X : Type 0} (read : List StepRow → X) → read (of_round before k ++ new ∷ of_round after k) ≡ read (of_round before k ++ row ∷ of_round after k)
      → (round : ℕ) → read (of_round (before ++ new ∷ after) round) ≡ read (of_round (before ++ row ∷ after) round)
  rounds_alike {X} read same round = at (nat_eq k round) refl
    where
      at : (b : Bool) → nat_eq k round ≡ b → read (of_round (before ++ new ∷ after) round) ≡ read (of_round (before ++ row ∷ after) round)
      at true is = subst (λ n. read (of_round (before ++ new ∷ after) n) ≡ read (of_round (before ++ row ∷ after) n)) (eqb-true k round is)
          (ap read own_round ∙ same ∙ sym (ap read own_round_was))
      at false far = ap read (other_round round far)

  -- steps go in turn still
  pub turns_again : ((round : ℕ) → go_in_turn (of_round (before ++ row ∷ after) round) ≡ true) → (round : ℕ) → go_in_turn (of_round (before ++ new ∷ after) round) ≡ true
  turns_again turns round = at (nat_eq k round) refl
    where
      at : (b : Bool) → nat_eq k round ≡ b → go_in_turn (of_round (before ++ new ∷ after) round) ≡ true
      at true is = subst (λ n. go_in_turn (of_round (before ++ new ∷ after) n) ≡ true) (eqb-true k round is)
          (ap go_in_turn own_round ∙ turn_between (of_round before k) new (of_round after k) mid.done mid.waits)
      at false far = ap go_in_turn (other_round round far) ∙ turns round

  some_alike : (round : ℕ) → is_some_step (of_round (before ++ new ∷ after) round) ≡ is_some_step (of_round (before ++ row ∷ after) round)
  some_alike = rounds_alike is_some_step (some_step_between (of_round before k) new (of_round after k) ∙ sym (some_step_between (of_round before k) row (of_round after k)))

  pub present_again : present_of (before ++ new ∷ after) ≡ present_of (before ++ row ∷ after)
  present_again = rw (some_alike 2, some_alike 1) refl

  pub second_again : is_some_step (of_round (before ++ row ∷ after) 2) ≡ true → is_some_step (of_round (before ++ new ∷ after) 2) ≡ true
  second_again some = some_alike 2 ∙ some

  -- a round without steps is another's
  pub not_empty : (round : ℕ) → of_round (before ++ row ∷ after) round ≡ [] → nat_eq k round ≡ false
  not_empty round none = false_from_ne_true (nat_eq k round) (λ is.
      false≢true (sym (ap is_some_step (ap (of_round (before ++ row ∷ after)) (eqb-true k round is) ∙ none))
      ∙ ap is_some_step own_round_was ∙ some_step_between (of_round before k) row (of_round after k)))

  pub one_round_again : of_round (before ++ row ∷ after) 2 ≡ [] → of_round (before ++ new ∷ after) 2 ≡ []
  one_round_again none = other_round 2 (not_empty 2 none) ∙ none

  -- ---- the task the same

  module _ (same_task : task new.step ≡ task row.step) where
    pub same_tasks : (round : ℕ) → tasks_of (of_round (before ++ new ∷ after) round) ≡ tasks_of (of_round (before ++ row ∷ after) round)
    same_tasks = rounds_alike tasks_of (map-swap (λ (row : StepRow). task row.step) (of_round before k) row new (of_round after k) same_task)

    pub same_points : (round : ℕ) → points_of (of_round (before ++ new ∷ after) round) ≡ points_of (of_round (before ++ row ∷ after) round)
    same_points round = ap task_points (same_tasks round)

    pub isolates_again : (g : Grid) (work : List ℕ) → IsSoundOrder g work (first_of_each (points_of (of_round (before ++ row ∷ after) 1))) (tasks_of (of_round (before ++ row ∷ after) 1))
        → IsSoundOrder g work (first_of_each (points_of (of_round (before ++ new ∷ after) 1))) (tasks_of (of_round (before ++ new ∷ after) 1))
    isolates_again g work sound = subst (λ (tasks : List Task). IsSoundOrder g work (first_of_each (task_points tasks)) tasks) (sym (same_tasks 1)) sound

    -- and neither Done
    module _ (was_left : is_done row.step.state ≡ false) (is_left : is_done new.step.state ≡ false) where
      same_put : (kind : HoldKind) (p : List ℕ) (round : ℕ) → put_by (of_round (before ++ new ∷ after) round) kind p ≡ put_by (of_round (before ++ row ∷ after) round) kind p
      same_put kind p = rounds_alike (λ rows. put_by rows kind p)
          (any-swap (λ (row : StepRow). (is_done row.step.state && puts row.step.action kind) && same_name p row.step.point) (of_round before k) row new (of_round after k)
          (rw (was_left, is_left) refl))

      same_left : (round : ℕ) → tasks_of (steps_left_of (of_round (before ++ new ∷ after) round)) ≡ tasks_of (steps_left_of (of_round (before ++ row ∷ after) round))
      same_left = rounds_alike (λ rows. tasks_of (steps_left_of rows))
          (ap tasks_of (left_after_done (of_round before k) (new ∷ of_round after k) mid.done)
          ∙ one_left new row (of_round after k) is_left was_left same_task
          ∙ sym (ap tasks_of (left_after_done (of_round before k) (row ∷ of_round after k) mid.done)))
        where
          one_left : (new row : StepRow) (rows : List StepRow) → is_done new.step.state ≡ false → is_done row.step.state ≡ false → task new.step ≡ task row.step
              → tasks_of (steps_left_of (new ∷ rows)) ≡ tasks_of (steps_left_of (row ∷ rows))
          one_left new row rows e f same = rw (e, f) (ap (λ t. t ∷ tasks_of (steps_left_of rows)) same)

      -- the clearance is as its phase wants it still
      pub phase_again : (g : Grid) (phase : Phase) (work : Option (List ℕ)) (o q : Option Record) (has : HoldKind → List ℕ → Bool) (hand given : List ℕ → Bool)
          → is_running phase ≡ true → k ≡ present_of (before ++ row ∷ after)
          → InPhase g phase work (record { clearance = o; steps = before ++ row ∷ after; has = has; hand = hand })
          → InPhase g phase work (record { clearance = q; steps = before ++ new ∷ after; has = has; hand = given })
      phase_again g Ordered (Some work) o q has hand given runs now h = record {
        isolates = isolates_again g work h.isolates;
        one_round = one_round_again h.one_round;
        given_out = subst (ActiveInRound (before ++ new ∷ after))
            (now ∙ first_present g work (record { clearance = o; steps = before ++ row ∷ after; has = has; hand = hand }) h.isolates h.one_round) given_out_again;
        as_put = λ kind p at_point. h.as_put kind p at_point ∙ sym (same_put kind p 1);
        no_work = h.no_work;
      }
      phase_again g Restoring (Some work) o q has hand given runs now h = record {
        isolates = isolates_again g work h.isolates;
        second_round = second_again h.second_round;
        given_out = subst (ActiveInRound (before ++ new ∷ after)) (now ∙ rw h.second_round refl) given_out_again;
        at_points = λ p held. rw (same_points 1) (h.at_points p held);
        beside_held_open = h.beside_held_open;
        undone = λ p. rw (same_left 2) (h.undone p);
        no_work = h.no_work;
      }
      phase_again g Switching None o q has hand given runs now h = record {
        only_switching = All-swap (λ (row : StepRow). is_switching row.step.action ≡ true) before row new after
            (ap (λ (t : Task). is_switching t.action) same_task ∙ here h.only_switching) h.only_switching;
        one_round = one_round_again h.one_round;
        given_out = subst (ActiveInRound (before ++ new ∷ after)) (now ∙ sym present_again) given_out_again;
        no_hold = h.no_hold;
      }
        where
          here : All (λ (row : StepRow). is_switching row.step.action ≡ true) (before ++ row ∷ after) → is_switching row.step.action ≡ true
          here all = All-head (λ (row : StepRow). is_switching row.step.action ≡ true) row after
              (All-before (λ (row : StepRow). is_switching row.step.action ≡ true) before (row ∷ after) all).1
      phase_again g Ordered None o q has hand given runs now h = absurd h
      phase_again g Restoring None o q has hand given runs now h = absurd h
      phase_again g Switching (Some work) o q has hand given runs now h = absurd h
      phase_again g _ work o q has hand given runs now h = absurd (false≢true runs)
