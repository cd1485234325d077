-- Commands that move a step on without an action: it is repeated, given out, or not done.
use Rattle.std.proofs.Common.{◌≡◌, ℕ, Bool, true, not, ◌&&◌, List, [], ◌∷◌, ◌++◌, Some, None, refl, sym, ◌∙◌, ap, subst}
use Rattle.clr_rules.proofs.Common.{same_name, StepState, step_moved, IsGoodByPhase, IsInPlace, outlook_of, is_open, present_of, record_id}
use Rattle.clr_rules.specs.Prelude.{Repeated, Edit, PutRecord, PutStep, Record, StepRow, Id, Register, record_of, is_running, is_active, present_steps, step_at, steps_of, after_edits, Repeat}
use Rattle.clr_rules.specs.Checks.{refuse, wrong_state}
use Rattle.clr_rules.specs.declared.refusal.Refusal.TheVariants.{StepState as WrongState}
use Rattle.clr_rules.proofs.good.Keeping.{KeepsGood, commands_keep, keeps}
use Rattle.clr_rules.proofs.keeps.OneRecord.{in_phase_of}
use Rattle.clr_rules.proofs.edits.Passing.{check_of_found, not_refused_true, role_begun}
use Rattle.clr_rules.proofs.edits.PresentSteps.{FoundStep, IsPresent, active_midst, active_moves, found_step_edits, step_there}
use Rattle.clr_rules.proofs.edits.PutRecords.{put_changes, quiet}
use Rattle.clr_rules.proofs.edits.PutSteps.{StepPut, closes_at, closing_by, known_put, others_put, phase_by, place_by, put_step, step_put}
use Rattle.clr_rules.proofs.lists.OpenPhases.{open_where}
use Rattle.clr_rules.proofs.edits.StepMoves.{InMidst, phase_again, turns_again}
use Rattle.clr_rules.proofs.lists.StepSplits.{any-swap}

-- a check of the state of the step that was found
pub state_fits : (R : Register) (c : Id) (n : ℕ) (s : FoundStep R c n) (fits : StepState → Bool) → wrong_state R c n fits ≡ None → fits s.row.step.state ≡ true
state_fits R c n s fits passed = not_refused_true (fits s.row.step.state) WrongState
    (check_of_found (step_at (present_steps R.steps c) n) s.row (λ (row : StepRow). refuse (not (fits row.step.state)) WrongState) s.found passed)

-- the steps go in turn, when they are split
pub turns_split : (R : Register) (c : Id) (rows : List StepRow) → IsGoodByPhase R → steps_of R.steps c ≡ rows → IsInPlace R.net (record (outlook_of R c) { steps = rows })
turns_split R c rows good is = subst (λ (steps : List StepRow). IsInPlace R.net (record (outlook_of R c) { steps = steps })) is (good.in_place c)

repeat_keeps : (R : Register) (by : List ℕ) (at : ℕ) (c : Id) (r : Record) (row : StepRow) → IsGoodByPhase R → record_of R.records c ≡ Some r → is_running r.phase ≡ true
    → IsPresent R c row → is_active row.step.state ≡ true → IsGoodByPhase (after_edits (PutRecord (record r { last = at }) ∷ PutStep (step_moved Repeated (Some by) row) ∷ []) R)
unfolding after_edits
repeat_keeps R by at c r row good found runs p active =
    keeps R edits c refl good (put_changes R good c r (record r { last = at }) found unclosed (record_id R.records c r found) refl (after_edits edits R) refl
    (quiet R (after_edits edits R) c (record r { last = at }) good (record {
      same_states = refl;
      point_holds = λ d kind p at_point has. has;
      other_holds = λ d differs kind place. refl;
      other_steps = others_put R good c row new p refl;
      own_closing = λ q closing.
          closing_by R.steps c q (s.before ++ row ∷ s.after) s.was ∙ sym (any-swap (closes_at q) s.before row new s.after (rw active refl))
          ∙ sym (closing_by (put_step new R.steps) c q (s.before ++ new ∷ s.after) s.is) ∙ closing;
      steps_known = known_put R good c row new p refl (good.points_known.steps c r found unclosed) refl;
    })
    (place_by R c (Some (record r { last = at })) (steps_of (put_step new R.steps) c) (s.before ++ new ∷ s.after) (λ kind place. (outlook_of R c).has kind place) (λ q. (outlook_of R c).hand q) s.is (record {
      in_turn = turns_again s.before s.after row new row.round mid refl (turns_split R c (s.before ++ row ∷ s.after) good s.was).in_turn;
      hands = λ q. (turns_split R c (s.before ++ row ∷ s.after) good s.was).hands q
          ∙ sym (any-swap (λ (row : StepRow). is_active row.step.state && same_name q row.step.point) s.before row new s.after (rw active refl));
      phase = phase_again s.before s.after row new row.round mid refl refl (active_moves row.step.state active).1 refl R.net r.phase r.work
          (outlook_of R c).clearance (Some (record r { last = at })) (outlook_of R c).has (outlook_of R c).hand (outlook_of R c).hand runs
          (p.now ∙ ap present_of s.was) (phase_by R c r (s.before ++ row ∷ s.after) s.was (in_phase_of R c r good found));
    }))))
  where
    unclosed : is_open r.phase ≡ true
    unclosed = open_where is_running refl r.phase runs

    new : StepRow
    new = step_moved Repeated (Some by) row

    edits : List Edit
    edits = PutRecord (record r { last = at }) ∷ PutStep new ∷ []

    s : StepPut R c row new
    s = step_put R good c row new p refl

    mid : InMidst s.before s.after row row.round
    mid = active_midst R good c r found row p s.before s.after s.was active

pub repeats_keep : (c : Id) (n : ℕ) (text : List ℕ) → KeepsGood (Repeat c n text)
repeats_keep c n text = commands_keep (Repeat c n text) (λ R by at good passed.
    let (r, found, fits, rest) = role_begun R c is_running passed in
    let s = step_there R c n (search rest) in
    found_step_edits R c n r s.row (λ r row. PutRecord (record r { last = at }) ∷ PutStep (step_moved Repeated (Some by) row) ∷ []) found s.found
    (repeat_keeps R by at c r s.row good found fits s.is_present (state_fits R c n s is_active (search rest))))
