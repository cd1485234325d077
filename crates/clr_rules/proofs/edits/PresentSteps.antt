-- The step of a number in a clearance's present round, as the checks of commands find it.
use Rattle.std.proofs.Common.{◌≡◌, ℕ, ◌<◌, Bool, true, false, not, ◌||◌, nat_eq, nat_lt, List, [], ◌∷◌, ◌++◌, Option, Some, None, is_some, Contains, refl, sym, ◌∙◌, ap, subst, arith, eqb-true, lt-ltb}
use Rattle.clr_rules.proofs.Common.{and_from, and_parts, false≢true, All-contains, All-head, All-weaker, StepState, Waiting, Done, ActiveInRound, IsGoodByPhase, go_in_turn, of_round, outlook_of}
use Rattle.clr_rules.proofs.Common.{present_of, is_in_turn, is_of_round}
use Rattle.clr_order.proofs.Finds.{found_passes}
use Rattle.clr_rules.specs.Changes.{edits_by, with_step}
use Rattle.clr_rules.specs.Checks.{no_step}
use Rattle.clr_rules.specs.Prelude.{Edit, Record, StepRow, Id, Register, record_of, is_running, all_done, is_active, is_done, is_some_step, is_waiting, present_steps, present_round, step_at, steps_in}
use Rattle.clr_rules.specs.Prelude.{steps_of, after_edits, NoStep}
use Rattle.clr_rules.proofs.keeps.OneRecord.{in_phase_of}
use Rattle.clr_rules.proofs.edits.Passing.{not_refused_true}
use Rattle.clr_rules.proofs.good.PhaseFacts.{step_facts}
use Rattle.clr_rules.proofs.good.PutHolds.{found_there, kept_there}
use Rattle.clr_rules.proofs.lists.RoundSteps.{no_step_there, of_round_is, of_the_round, present_of_is}
use Rattle.clr_rules.proofs.edits.StepMoves.{InMidst}
use Rattle.clr_rules.proofs.lists.StepSplits.{All-before, done_before, of_round-here, waiting_after, waiting_not_done}
use Rattle.clr_rules.proofs.good.StepsInTurn.{Rises, round_rises}

-- a step of the clearance's present round
pub record IsPresent (R : Register) (c : Id) (row : StepRow) : Type 0 where
  pub own : row.id ≡ c
  pub there : Contains R.steps row
  pub now : row.round ≡ present_of (steps_of R.steps c)
  pub round : present_steps R.steps c ≡ steps_in R.steps c row.round

in_steps : (steps : List StepRow) (c : Id) (k : ℕ) (row : StepRow) → Contains (steps_in steps c k) row → Contains steps row
unfolding steps_in
in_steps steps c k row there = kept_there (is_of_round c k) steps row there

present_step : (R : Register) (c : Id) (row : StepRow) → Contains (present_steps R.steps c) row → IsPresent R c row
present_step R c row there = at (is_some_step (steps_in R.steps c 2)) refl (is_some_step (steps_in R.steps c 1)) refl there
  where
    of : (k : ℕ) → Contains (steps_in R.steps c k) row → (row.id ≡ c) × (row.round ≡ k)
    of k among = All-contains (λ (row : StepRow). (row.id ≡ c) × (row.round ≡ k)) (steps_in R.steps c k) row (of_the_round R.steps c k) among

    from : (k : ℕ) → present_round R.steps c ≡ k → present_steps R.steps c ≡ steps_in R.steps c k → Contains (present_steps R.steps c) row → IsPresent R c row
    from k round is among =
        let inside : Contains (steps_in R.steps c k) row = subst (λ (rows : List StepRow). Contains rows row) is among in
        record {
          own = (of k inside).0;
          there = in_steps R.steps c k row inside;
          now = (of k inside).1 ∙ sym round ∙ sym (present_of_is R.steps c);
          round = is ∙ ap (steps_in R.steps c) (sym (of k inside).1);
        }

    at : (a : Bool) → is_some_step (steps_in R.steps c 2) ≡ a → (b : Bool) → is_some_step (steps_in R.steps c 1) ≡ b → Contains (present_steps R.steps c) row → IsPresent R c row
    at true e b f among = from 2 (rw e refl) (rw e refl) among
    at false e true f among = from 1 (rw (e, f) refl) (rw e refl) among
    at false e false f among =
        let inside : Contains (steps_in R.steps c 1) row = subst (λ (rows : List StepRow). Contains rows row) (rw e refl) among in
        let (k, within, is) = subst (λ (rows : List StepRow). Contains rows row) (no_step_there (steps_in R.steps c 1) f) inside in
        absurd (omega arith)

-- the step that a command found
pub record FoundStep (R : Register) (c : Id) (n : ℕ) : Type 0 where
  pub row : StepRow
  pub found : step_at (present_steps R.steps c) n ≡ Some row
  pub ordinal : row.ordinal ≡ n
  pub is_present : IsPresent R c row

pub step_there : (R : Register) (c : Id) (n : ℕ) → no_step R c n ≡ None → FoundStep R c n
step_there R c n passed = at (step_at (present_steps R.steps c) n) refl (not_refused_true (is_some (step_at (present_steps R.steps c) n)) NoStep passed)
  where
    at : (o : Option StepRow) → step_at (present_steps R.steps c) n ≡ o → is_some o ≡ true → FoundStep R c n
    at None none there = absurd (false≢true there)
    at (Some row) found there = record {
      row = row;
      found = found;
      ordinal = eqb-true row.ordinal n (found_passes (λ (row : StepRow). nat_eq row.ordinal n) (present_steps R.steps c) row found);
      is_present = present_step R c row (found_there (λ (row : StepRow). nat_eq row.ordinal n) (present_steps R.steps c) row found);
    }

-- the edits of a command that found its record and its step
pub found_step_edits : (R : Register) (c : Id) (n : ℕ) (r : Record) (row : StepRow) (edits : Record → StepRow → List Edit) → record_of R.records c ≡ Some r
    → step_at (present_steps R.steps c) n ≡ Some row → IsGoodByPhase (after_edits (edits r row) R) → IsGoodByPhase (after_edits (with_step R c n edits) R)
found_step_edits R c n r row edits found step h =
    subst (λ (o : Option Record). IsGoodByPhase (after_edits (edits_by o (λ r. edits_by (step_at (present_steps R.steps c) n) (edits r))) R)) (sym found)
    (subst (λ (o : Option StepRow). IsGoodByPhase (after_edits (edits_by o (edits r)) R)) (sym step) h)

-- ---- its place among the clearance's steps

pub active_moves : (state : StepState) → is_active state ≡ true → (is_waiting state ≡ false) × (is_done state ≡ false)
active_moves Waiting h = absurd (false≢true h)
active_moves Done h = absurd (false≢true h)
active_moves _ h = (refl, refl)

-- before a step that has its turn all are Done
done_in_turn : (before : List StepRow) (row : StepRow) (after : List StepRow) → Rises (before ++ row ∷ after) → is_in_turn (before ++ row ∷ after) row.ordinal ≡ true → all_done before ≡ true
done_in_turn [] row after rising turn = refl
done_in_turn (first ∷ before) row after rising turn =
    let parts = and_parts (not (nat_lt first.ordinal row.ordinal) || is_done first.step.state) (is_in_turn (before ++ row ∷ after) row.ordinal) turn in
    let lower : first.ordinal < row.ordinal = All-head (λ (next : StepRow). first.ordinal < next.ordinal) row after
    (All-before (λ (next : StepRow). first.ordinal < next.ordinal) before (row ∷ after) rising.0).1 in
    and_from (is_done first.step.state) (all_done before) (rw (lt-ltb first.ordinal row.ordinal lower) at parts.0) (done_in_turn before row after rising.1 parts.1)

module _ (R : Register) (good : IsGoodByPhase R) (c : Id) (r : Record) (found : record_of R.records c ≡ Some r) (row : StepRow) (p : IsPresent R c row)
    (before after : List StepRow) (was : steps_of R.steps c ≡ before ++ row ∷ after) where
  the_round : of_round (steps_of R.steps c) row.round ≡ of_round before row.round ++ row ∷ of_round after row.round
  the_round = ap (λ (rows : List StepRow). of_round rows row.round) was ∙ of_round-here before row after row.round refl

  turns : go_in_turn (of_round before row.round ++ row ∷ of_round after row.round) ≡ true
  turns = sym (ap go_in_turn the_round) ∙ (good.in_place c).in_turn row.round

  given_out : ActiveInRound (before ++ row ∷ after) row.round
  given_out = subst (λ (rows : List StepRow). ActiveInRound rows row.round) was
      (All-weaker (λ (other : StepRow). is_active other.step.state ≡ true → (is_running r.phase ≡ true) × (other.round ≡ present_of (steps_of R.steps c))) (λ (other : StepRow). is_active other.step.state ≡ true → other.round ≡ row.round)
      (λ other now active. (now active).1 ∙ sym p.now) (steps_of R.steps c)
      (step_facts R.net r.phase r.work (outlook_of R c) (in_phase_of R c r good found)).active)

  -- of a step that is given out
  pub active_midst : is_active row.step.state ≡ true → InMidst before after row row.round
  active_midst active =
      let moves = active_moves row.step.state active in
      record {
        round = refl;
        given_out = given_out;
        done = done_before (of_round before row.round) row (of_round after row.round) turns moves.0;
        waits = waiting_after (of_round before row.round) row (of_round after row.round) turns moves.1;
      }

  -- and of one that waits, when it has its turn
  pub waiting_midst : is_waiting row.step.state ≡ true → is_in_turn (present_steps R.steps c) row.ordinal ≡ true → InMidst before after row row.round
  waiting_midst waiting turn =
      let steps_are : steps_in R.steps c row.round ≡ of_round before row.round ++ row ∷ of_round after row.round = sym (of_round_is R.steps c row.round) ∙ the_round in
      record {
        round = refl;
        given_out = given_out;
        done = done_in_turn (of_round before row.round) row (of_round after row.round)
            (subst Rises steps_are (round_rises R.steps c row.round good.in_order.steps))
            (subst (λ (rows : List StepRow). is_in_turn rows row.ordinal ≡ true) (p.round ∙ steps_are) turn);
        waits = waiting_after (of_round before row.round) row (of_round after row.round) turns (waiting_not_done row.step.state waiting);
      }
