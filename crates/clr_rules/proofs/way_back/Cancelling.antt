-- A record that was not granted is cancelled by its holder, once no step of it is given out.
use Rattle.std.proofs.Common.{arith, ◌≡◌, ℕ, Bool, true, false, cond, ◌&&◌, List, [], ◌∷◌, Option, Some, None, find, is_some, refl, sym, ◌∙◌, ap, subst, ◌⊎◌, ⊎_elim}
use Rattle.std.proofs.lemmas.Bool.{both_ways, false≢true}
use Rattle.clr_net.specs.Names.{has_name}
use Rattle.clr_net.proofs.Walks.{any_from}
use Rattle.clr_order.proofs.Finds.{found_passes}
use Rattle.clr_staff.specs.declared.employee.Role.{Role}
use Rattle.clr_staff.specs.declared.employee.Role.TheVariants.{Operator, Field, Charge}
use Rattle.clr_order.specs.declared.step.StepState.TheVariants.{Waiting}
use Rattle.clr_rules.specs.Changes.{cancelled_phase, step_moved}
use Rattle.clr_rules.specs.Checks.{is_charge_or_operator, is_field, step_given_out}
use Rattle.clr_rules.specs.Good.{IsGood}
use Rattle.clr_rules.specs.Prelude.{PutRecord, Command, Phase, Requested, Ordered, Released, Switching, Closed, Record, StepRow, Register}
use Rattle.clr_rules.specs.Prelude.{position_of, record_of, is_active, is_ordered, steps_of, points_of, has_any_hold, after_edits}
use Rattle.clr_rules.specs.Records.{is_cancellable, is_closed, is_released}
use Rattle.clr_rules.specs.Run.{after}
use Rattle.clr_rules.specs.Staffed.{IsStaffed, fits_holder, has_some_role}
use Rattle.clr_rules.specs.Steps.{some_active}
use Rattle.clr_rules.specs.WayBack.{ask, cancelled, moves_in, moves_of, next_moves}
use Rattle.clr_rules.specs.declared.command.Kind.TheVariants as kinds
use Rattle.clr_rules.proofs.lists.OpenPhases.{open_where}
use Rattle.clr_rules.proofs.edits.EditReading.{record_of-put}
use Rattle.clr_rules.proofs.edits.PresentSteps.{active_midst}
use Rattle.clr_rules.proofs.edits.StepMoves.{some_active_is}
use Rattle.clr_rules.proofs.good.GoodToPhases.{to_phases}
use Rattle.clr_rules.proofs.good.PutHolds.{found_there}
use Rattle.clr_rules.proofs.lists.RoundSteps.{own_id}
use Rattle.clr_rules.proofs.staffed.Puts.{found_any}
use Rattle.clr_rules.proofs.way_back.Accepting.{HasEmployee, Made, employee_of, holder_passes, made, record_edits, is_move}
use Rattle.clr_rules.proofs.way_back.ComingBack.{own_undone, both2, repeating, reporting, split, undone_recorded, undone_steps, repeat_move, undone_move}
use Rattle.clr_rules.proofs.way_back.InWork.{active_in_work, is_present, both_after, GoodAndStaffed}
use Rattle.clr_rules.proofs.way_back.Staying.{Stays, WayOut, is_out, moved_one, moved_two, stays_after, wider}

-- what is left to do of a Released record
abbrev pub ReleasedGoOut : Type 0
ReleasedGoOut = (R : Register) → GoodAndStaffed R → (r : Record) → record_of R.records r.id ≡ Some r → is_released r.phase ≡ true → WayOut 1281 R r.id

may_cancel : (work : Option (List ℕ)) (role : Role) → fits_holder work role ≡ true → is_charge_or_operator role ≡ true
may_cancel None Operator h = refl
may_cancel (Some work) Charge h = refl
may_cancel None Field h = absurd (false≢true h)
may_cancel None Charge h = absurd (false≢true h)
may_cancel (Some work) Operator h = absurd (false≢true h)
may_cancel (Some work) Field h = absurd (false≢true h)

-- after a record alone is put
pub record PutAlone (R S : Register) (next : Record) : Type 0 where
  pub recorded : record_of S.records next.id ≡ Some next
  pub steps : S.steps ≡ R.steps
  pub positions : (p : List ℕ) → position_of S.states p ≡ position_of R.states p

put_alone : (R : Register) (next : Record) → PutAlone R (after_edits (PutRecord next ∷ []) R) next
unfolding after_edits
put_alone R next = record {
  recorded = record_of-put next next.id R.records ∙ ap (λ b. cond b (Some next) (record_of R.records next.id)) (own_id next.id);
  steps = refl;
  positions = λ p. refl;
}

no_active_found : (steps : List StepRow) → some_active steps ≡ false → find (λ (row : StepRow). is_active row.step.state) steps ≡ None
no_active_found steps none = at (find (λ (row : StepRow). is_active row.step.state) steps) refl
  where
    at : (o : Option StepRow) → find (λ (row : StepRow). is_active row.step.state) steps ≡ o → o ≡ None
    at None e = refl
    at (Some row) e = absurd (false≢true (sym none ∙ sym (found_any (λ (row : StepRow). is_active row.step.state) steps) ∙ ap is_some e))

none_active_found : (steps : List StepRow) → find (λ (row : StepRow). is_active row.step.state) steps ≡ None → some_active steps ≡ false
none_active_found steps none = sym (found_any (λ (row : StepRow). is_active row.step.state) steps) ∙ ap is_some none

module _ (released_go_out : ReleasedGoOut) where
  -- where no step is given out
  module _ (R : Register) (both : GoodAndStaffed R) (r : Record) (found : record_of R.records r.id ≡ Some r) (fits : is_cancellable r.phase ≡ true)
      (rests : some_active (steps_of R.steps r.id) ≡ false) where
    good : IsGood R
    good = GoodAndStaffed.good both

    staffed : IsStaffed R
    staffed = GoodAndStaffed.staffed both

    abbrev cancelling : Command
    cancelling = ask r r.holder (kinds.Cancel r.id)

    abbrev next : Record
    next = record r { phase = cancelled_phase R r }

    holder : HasEmployee R r.holder is_charge_or_operator
    holder =
        let unclosed = open_where is_cancellable refl r.phase fits in
        let h = employee_of R r.holder (fits_holder r.work) (staffed.holders r.id r found unclosed) in
        record { row = h.row; found = h.found; role = may_cancel r.work (h.row).role h.role }

    cancel_made : Made R cancelling (PutRecord next ∷ [])
    cancel_made = made R cancelling r.id (PutRecord next ∷ []) (λ k S by s found. rw found refl) (ap is_some found)
        (holder_passes R r.id r found r.holder is_charge_or_operator is_cancellable (step_given_out R r.id ∷ []) holder refl fits (rw rests refl, tt))
        (record_edits R r.id r (λ s. PutRecord (record s { phase = cancelled_phase R s; last = r.last }) ∷ []) found)

    after_it : PutAlone R (after R cancelling) next
    after_it = subst (λ (S : Register). PutAlone R S next) (sym cancel_made.is_after) (put_alone R next)

    stays : Stays r.id R (after R cancelling)
    stays = stays_after R good r.id cancelling refl after_it.positions (λ p of_it. ap (λ steps. has_name (points_of (steps_of steps r.id)) p) (sym after_it.steps) ∙ of_it)

    out_by : (b : Bool) → (is_ordered r.phase && has_any_hold R.holds r.id) ≡ b → WayOut 1281 (after R cancelling) r.id
    out_by true e = released_go_out (after R cancelling) (both_after R both cancelling) next after_it.recorded (ap (λ b. is_released (cond b Released Closed)) e)
    out_by false e = is_out 1281 (after R cancelling) r.id next after_it.recorded (ap (λ b. is_closed (cond b Released Closed)) e)

    pub cancelled_out : next_moves R r.id ≡ ask r r.holder (kinds.Cancel r.id) ∷ [] → WayOut 1282 R r.id
    cancelled_out are = moved_one 1281 R r.id cancelling are (is_move R cancelling (PutRecord next ∷ []) cancel_made refl) stays (out_by (is_ordered r.phase && has_any_hold R.holds r.id) refl)

  -- the moves of such a record
  cancel_moves : (R : Register) (r : Record) → is_cancellable r.phase ≡ true → record_of R.records r.id ≡ Some r
      → next_moves R r.id ≡ cancelled R r (find (λ (row : StepRow). is_active row.step.state) (steps_of R.steps r.id))
  cancel_moves R r fits found = ap (moves_of R) found ∙ by_phase r.phase fits
    where
      by_phase : (phase : Phase) → is_cancellable phase ≡ true → moves_in R r phase ≡ cancelled R r (find (λ (row : StepRow). is_active row.step.state) (steps_of R.steps r.id))
      by_phase Requested fits = refl
      by_phase Ordered fits = refl
      by_phase Switching fits = refl
      by_phase _ fits = absurd (false≢true fits)

  -- A RECORD THAT WAS NOT GRANTED goes out
  pub not_granted_go_out : (R : Register) → GoodAndStaffed R → (r : Record) → record_of R.records r.id ≡ Some r → is_cancellable r.phase ≡ true
      → (has_some_role R.staff is_field ≡ true) ⊎ (some_active (steps_of R.steps r.id) ≡ false) → WayOut 1283 R r.id
  not_granted_go_out R both r found fits who = at (find (λ (row : StepRow). is_active row.step.state) (steps_of R.steps r.id)) refl
    where
      at : (o : Option StepRow) → find (λ (row : StepRow). is_active row.step.state) (steps_of R.steps r.id) ≡ o → WayOut 1283 R r.id
      at None e = wider 1282 1283 (omega arith) R r.id
          (cancelled_out R both r found fits (none_active_found (steps_of R.steps r.id) e) (cancel_moves R r fits found ∙ ap (cancelled R r) e))
      at (Some row) e =
          let among = found_there (λ (row : StepRow). is_active row.step.state) (steps_of R.steps r.id) row e in
          let active = found_passes (λ (row : StepRow). is_active row.step.state) (steps_of R.steps r.id) row e in
          let some = ⊎_elim (λ (h : has_some_role R.staff is_field ≡ true). h)
          (λ none. absurd (both_ways (some_active (steps_of R.steps r.id)) none (any_from (λ (row : StepRow). is_active row.step.state) (steps_of R.steps r.id) row among active))) who in
          let S = after (after R (repeating R both r found row among active some)) (reporting R both r found row among active some false) in
          let s = split R both r found row among active some in
          let recorded = undone_recorded R both r found row among active some in
          let w = active_in_work R both r found row among active in
          let by_phase = to_phases R (GoodAndStaffed.good both) in
          let rests : some_active (steps_of (Register.steps S) r.id) ≡ false = ap some_active (undone_steps R both r found row among active some)
          ∙ some_active_is s.before s.after row (step_moved Waiting None row) row.round
          (active_midst R by_phase r.id r found row (is_present R r row w) s.before s.after s.was active) refl in
          moved_two 1282 R r.id (repeating R both r found row among active some) (reporting R both r found row among active some false)
          (cancel_moves R r fits found ∙ ap (cancelled R r) e)
          (repeat_move R both r found row among active some) (undone_move R both r found row among active some) (own_undone R both r found row among active some)
          (cancelled_out S (both2 R both r found row among active some false) r recorded fits rests
          (cancel_moves S r fits recorded ∙ ap (cancelled S r) (no_active_found (steps_of (Register.steps S) r.id) rests)))
