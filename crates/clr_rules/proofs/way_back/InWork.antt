-- Commands about a step of a record that is in the midst of its steps: each is accepted, and what it makes.
use Rattle.std.proofs.Common.{◌≡◌, ℕ, Bool, true, false, cond, List, [], ◌∷◌, Option, Some, None, is_some, Contains, refl, sym, ◌∙◌, ap, subst, arith, ◌⊎◌, ⊎_elim}
use Rattle.std.specs.Str.{bytes_eq}
use Rattle.std.proofs.lemmas.List.Elements.{All-contains}
use Rattle.std.proofs.lemmas.Slice.Eq.{bytes_eq-Decides}
use Rattle.clr_net.proofs.Walks.{same_itself}
use Rattle.clr_order.specs.Step.{task}
use Rattle.clr_order.specs.Texts.{step_text}
use Rattle.clr_order.specs.declared.action.Action.TheVariants as actions
use Rattle.clr_order.specs.declared.step.StepState.TheVariants.{Instructed, Repeated}
use Rattle.clr_rules.specs.Changes.{done_edits, step_moved, undone_edits}
use Rattle.clr_rules.specs.Checks.{hold_hinders, in_hand, is_field, is_operator, no_step, not_a_waiting_close, other_hand, out_of_turn, repeat_differs, wrong_reporter, wrong_state}
use Rattle.clr_rules.specs.GoodByPhase.{IsGoodByPhase, outlook_of, present_of}
use Rattle.clr_rules.specs.Prelude.{SetHand, PutRecord, PutStep, Command, Record, StepRow, Id, Register, hand_of, record_of, is_running, is_restoring, same_id, is_active, is_some_step, is_waiting, present_round, present_steps, step_at, steps_in, steps_of, after_edits}
use Rattle.clr_rules.specs.Run.{after}
use Rattle.clr_rules.specs.Steps.{is_close, is_in_turn, is_repeated}
use Rattle.clr_rules.specs.WayBack.{ask}
use Rattle.clr_rules.specs.declared.command.Kind.TheVariants as kinds
use Rattle.clr_rules.proofs.edits.EditReading.{record_of-put}
use Rattle.clr_rules.proofs.edits.PresentSteps.{IsPresent}
use Rattle.clr_rules.proofs.edits.PutSteps.{put_step}
use Rattle.clr_rules.proofs.keeps.EveryKind.{commands_keep_good}
use Rattle.clr_rules.proofs.staffed.EveryKind.{commands_keep_staffed}
use Rattle.clr_rules.specs.Good.{IsGood}
use Rattle.clr_rules.specs.Staffed.{IsStaffed}
use Rattle.clr_rules.proofs.good.GoodToPhases.{to_phases}
use Rattle.clr_rules.proofs.good.PhaseFacts.{step_facts}
use Rattle.clr_rules.proofs.good.PutHolds.{kept_there}
use Rattle.clr_rules.proofs.good.StepsInTurn.{round_rises}
use Rattle.clr_rules.proofs.keeps.OneRecord.{in_phase_of}
use Rattle.clr_rules.proofs.lists.RoundSteps.{in_own_round, of_clearance, own_id, present_of_is}
use Rattle.clr_rules.proofs.way_back.Accepting.{HasEmployee, Made, made, role_passes, step_edits}
use Rattle.clr_rules.proofs.way_back.Rows.{found_at}

-- a register that is good and staffed, as it is after each command
pub record GoodAndStaffed (R : Register) : Type 0 where
  pub good : IsGood R
  pub staffed : IsStaffed R

pub both_after : (R : Register) → GoodAndStaffed R → (q : Command) → GoodAndStaffed (after R q)
both_after R both q = record { good = commands_keep_good R q both.good; staffed = commands_keep_staffed R q both.good both.staffed }

pub same_bytes : (text : List ℕ) → bytes_eq text text ≡ true
same_bytes text = (bytes_eq-Decides text text).1 refl

pub own_there : (steps : List StepRow) (c : Id) (row : StepRow) → Contains (steps_of steps c) row → Contains steps row × (row.id ≡ c)
unfolding steps_of
own_there steps c row among = (kept_there (λ (row : StepRow). same_id c row.id) steps row among, All-contains (λ (row : StepRow). row.id ≡ c) (steps_of steps c) row (of_clearance steps c) among)

-- a step of the present round of a record that is in the midst of its steps
pub record InWork (R : Register) (r : Record) (row : StepRow) : Type 0 where
  pub found : record_of R.records r.id ≡ Some r
  pub runs : is_running r.phase ≡ true
  pub among : Contains (steps_of R.steps r.id) row
  pub at : step_at (present_steps R.steps r.id) row.ordinal ≡ Some row
  pub now : row.round ≡ present_of (steps_of R.steps r.id)
  pub round : present_steps R.steps r.id ≡ steps_in R.steps r.id row.round

pub in_work : (R : Register) → GoodAndStaffed R → (r : Record) → record_of R.records r.id ≡ Some r → is_running r.phase ≡ true
    → (row : StepRow) → Contains (steps_of R.steps r.id) row → row.round ≡ present_of (steps_of R.steps r.id) → (row.round ≡ 1) ⊎ (row.round ≡ 2) → InWork R r row
in_work R both r found runs row among now bounded = record {
  found = found;
  runs = runs;
  among = among;
  at = subst (λ (rows : List StepRow). step_at rows row.ordinal ≡ Some row) (sym round)
      (found_at (steps_in R.steps r.id row.round) row (round_rises R.steps r.id row.round good.in_order.steps)
      (subst (λ (d : Id). Contains (steps_in R.steps d row.round) row) own (in_own_round R.steps row there)));
  now = now;
  round = round;
}
  where
    good : IsGoodByPhase R
    good = to_phases R both.good

    there : Contains R.steps row
    there = (own_there R.steps r.id row among).0

    own : row.id ≡ r.id
    own = (own_there R.steps r.id row among).1

    is : row.round ≡ present_round R.steps r.id
    is = now ∙ present_of_is R.steps r.id

    not_zero : row.round ≡ 0 → ⊥
    not_zero zero_th = ⊎_elim (λ (one : row.round ≡ 1). omega arith) (λ (two : row.round ≡ 2). omega arith) bounded

    round : present_steps R.steps r.id ≡ steps_in R.steps r.id row.round
    round = at (is_some_step (steps_in R.steps r.id 2)) refl (is_some_step (steps_in R.steps r.id 1)) refl
      where
        at : (a : Bool) → is_some_step (steps_in R.steps r.id 2) ≡ a → (b : Bool) → is_some_step (steps_in R.steps r.id 1) ≡ b → present_steps R.steps r.id ≡ steps_in R.steps r.id row.round
        at true e b f = let two : row.round ≡ 2 = is ∙ rw e refl in rw e (sym (ap (steps_in R.steps r.id) two))
        at false e true f = let one : row.round ≡ 1 = is ∙ rw (e, f) refl in rw e (sym (ap (steps_in R.steps r.id) one))
        at false e false f = absurd (not_zero (is ∙ rw (e, f) refl))

-- as a step of the present round
pub is_present : (R : Register) (r : Record) (row : StepRow) → InWork R r row → IsPresent R r.id row
is_present R r row w = record { own = (own_there R.steps r.id row w.among).1; there = (own_there R.steps r.id row w.among).0; now = w.now; round = w.round }

-- a step that is given out is one
pub active_in_work : (R : Register) → GoodAndStaffed R → (r : Record) → record_of R.records r.id ≡ Some r → (row : StepRow) → Contains (steps_of R.steps r.id) row
    → is_active row.step.state ≡ true → InWork R r row
active_in_work R both r found row among active =
    let good = to_phases R both.good in
    let now = All-contains (λ (row : StepRow). is_active row.step.state ≡ true → (is_running r.phase ≡ true) × (row.round ≡ present_of (steps_of R.steps r.id))) (steps_of R.steps r.id) row
    (step_facts R.net r.phase r.work (outlook_of R r.id) (in_phase_of R r.id r good found)).active among active in
    in_work R both r found now.0 row among now.1
    (All-contains (λ (row : StepRow). is_active row.step.state ≡ true → (row.round ≡ 1) ⊎ (row.round ≡ 2)) R.steps row both.staffed.rounds (own_there R.steps r.id row among).0 active)

-- ---- what a command leaves that puts one step, beside points

pub record StepMade (R S : Register) (r : Record) (new : StepRow) : Type 0 where
  pub recorded : record_of S.records r.id ≡ Some r
  pub steps : S.steps ≡ put_step new R.steps
  pub holds : S.holds ≡ R.holds
  pub staff : S.staff ≡ R.staff

step_alone : (R : Register) (r : Record) (new : StepRow) → StepMade R (after_edits (PutRecord r ∷ PutStep new ∷ []) R) r new
unfolding after_edits
step_alone R r new = record {
  recorded = record_of-put r r.id R.records ∙ ap (λ b. cond b (Some r) (record_of R.records r.id)) (own_id r.id);
  steps = refl;
  holds = refl;
  staff = refl;
}

step_handed : (R : Register) (r : Record) (p : List ℕ) (hand : Option Id) (new : StepRow) → StepMade R (after_edits (SetHand p hand ∷ PutRecord r ∷ PutStep new ∷ []) R) r new
unfolding after_edits
step_handed R r p hand new = record {
  recorded = record_of-put r r.id R.records ∙ ap (λ b. cond b (Some r) (record_of R.records r.id)) (own_id r.id);
  steps = refl;
  holds = refl;
  staff = refl;
}

pub made_alone : (R : Register) (q : Command) (r : Record) (new : StepRow) → Made R q (PutRecord r ∷ PutStep new ∷ []) → StepMade R (after R q) r new
made_alone R q r new m = subst (λ (S : Register). StepMade R S r new) (sym m.is_after) (step_alone R r new)

pub made_handed : (R : Register) (q : Command) (r : Record) (p : List ℕ) (hand : Option Id) (new : StepRow) → Made R q (SetHand p hand ∷ PutRecord r ∷ PutStep new ∷ [])
    → StepMade R (after R q) r new
made_handed R q r p hand new m = subst (λ (S : Register). StepMade R S r new) (sym m.is_after) (step_handed R r p hand new)

-- ---- the commands

module _ (R : Register) (r : Record) (row : StepRow) (w : InWork R r row) (by : List ℕ) where
  abbrev repeat : Command
  repeat = ask r by (kinds.Repeat r.id row.ordinal (step_text (task row.step)))

  pub repeat_made : HasEmployee R by is_field → is_active row.step.state ≡ true
      → Made R (ask r by (kinds.Repeat r.id row.ordinal (step_text (task row.step)))) (PutRecord r ∷ PutStep (step_moved Repeated (Some by) row) ∷ [])
  repeat_made caller active = made R repeat r.id (PutRecord r ∷ PutStep (step_moved Repeated (Some by) row) ∷ []) (λ k S by s found. rw found refl) (ap is_some w.found)
      (role_passes R r.id r w.found by is_field is_running
      (no_step R r.id row.ordinal ∷ wrong_state R r.id row.ordinal is_active ∷ repeat_differs R r.id row.ordinal (step_text (task row.step)) ∷ []) caller w.runs
      (rw w.at refl, (rw (w.at, active) refl, (rw (w.at, same_bytes (step_text (task row.step))) refl, tt))))
      (step_edits R r.id row.ordinal r row (λ s row. PutRecord (record s { last = r.last }) ∷ PutStep (step_moved Repeated (Some by) row) ∷ []) w.found w.at)

  pub report_made : HasEmployee R by is_field → is_repeated row.step.state ≡ true → row.step.reader ≡ Some by → (done : Bool)
      → Made R (ask r by (kinds.Report r.id row.ordinal done)) (cond done (done_edits R r.last r row) (undone_edits r.last r row))
  report_made caller repeated reads done =
      made R (ask r by (kinds.Report r.id row.ordinal done)) r.id (cond done (done_edits R r.last r row) (undone_edits r.last r row)) (λ k S by s found. rw found refl) (ap is_some w.found)
      (role_passes R r.id r w.found by is_field is_running
      (no_step R r.id row.ordinal ∷ wrong_state R r.id row.ordinal is_repeated ∷ wrong_reporter R r.id row.ordinal by ∷ []) caller w.runs
      (rw w.at refl, (rw (w.at, repeated) refl, (rw (w.at, reads, same_itself by) refl, tt))))
      (step_edits R r.id row.ordinal r row (λ s row. cond done (done_edits R r.last s row) (undone_edits r.last s row)) w.found w.at)

  pub instruct_made : HasEmployee R by is_operator → is_waiting row.step.state ≡ true → is_close row.step.action ≡ false
      → is_in_turn (present_steps R.steps r.id) row.ordinal ≡ true → other_hand r.id (hand_of R.states row.step.point) ≡ None
      → Made R (ask r by (kinds.Instruct r.id row.ordinal)) (SetHand row.step.point (Some r.id) ∷ PutRecord r ∷ PutStep (step_moved Instructed row.step.reader row) ∷ [])
  instruct_made caller waits opens turn free =
      made R (ask r by (kinds.Instruct r.id row.ordinal)) r.id _ (λ k S by s found. rw found refl) (ap is_some w.found)
      (role_passes R r.id r w.found by is_operator is_running
      (no_step R r.id row.ordinal ∷ out_of_turn R r.id row.ordinal ∷ wrong_state R r.id row.ordinal is_waiting ∷ in_hand R r.id row.ordinal ∷ hold_hinders R r.id row.ordinal ∷ []) caller w.runs
      (rw w.at refl, (rw turn refl, (rw (w.at, waits) refl, (rw w.at free, (rw (w.at, opens) refl, tt))))))
      (step_edits R r.id row.ordinal r row (λ s row. SetHand row.step.point (Some r.id) ∷ PutRecord (record s { last = r.last }) ∷ PutStep (step_moved Instructed row.step.reader row) ∷ []) w.found w.at)

  pub amend_made : HasEmployee R by is_operator → is_restoring r.phase ≡ true → is_waiting row.step.state ≡ true → is_close row.step.action ≡ true
      → Made R (ask r by (kinds.Amend r.id row.ordinal)) (PutRecord r ∷ PutStep (record row { step = record (StepRow.step row) { action = actions.Leave } }) ∷ [])
  amend_made caller restoring waits closes =
      made R (ask r by (kinds.Amend r.id row.ordinal)) r.id _ (λ k S by s found. rw found refl) (ap is_some w.found)
      (role_passes R r.id r w.found by is_operator is_restoring
      (no_step R r.id row.ordinal ∷ not_a_waiting_close R r.id row.ordinal ∷ []) caller restoring
      (rw w.at refl, (rw (w.at, waits, closes) refl, tt)))
      (step_edits R r.id row.ordinal r row (λ s row. PutRecord (record s { last = r.last }) ∷ PutStep (record row { step = record (StepRow.step row) { action = actions.Leave } }) ∷ []) w.found w.at)
