-- A step that is given out and that nobody can repeat: the first command of the way back is nobody's.
use Rattle.std.proofs.Common.{◌≡◌, ◌∙◌, ◌&&◌, ◌++◌, ◌-◌, ◌<◌, ℕ, Bool, true, false, not, List, [], Option, Some, None, Contains, find, is_some, refl, ap, sym, zero, suc, subst, arith}
use Rattle.std.specs.List.{list_any}
use Rattle.std.proofs.lemmas.Bool.{both_ways, false≢true}
use Rattle.std.proofs.lemmas.List.Elements.{All-contains}
use Rattle.clr_net.proofs.Walks.{some_from}
use Rattle.clr_rules.proofs.Common.{Contains-filter, has_hold, is_some_step, steps_left_of}
use Rattle.clr_rules.proofs.good.GoodToPhases.{to_phases}
use Rattle.clr_rules.proofs.good.PhaseFacts.{step_facts}
use Rattle.clr_rules.proofs.good.PlaceFacts.{done_rests, in_round}
use Rattle.clr_rules.proofs.keeps.OneRecord.{in_phase_of}
use Rattle.clr_rules.proofs.lists.RoundSteps.{of_round_is, record_id}
use Rattle.clr_rules.proofs.staffed.Puts.{found_any}
use Rattle.clr_rules.specs.Checks.{employee, is_field}
use Rattle.clr_rules.specs.Fit.{IsFit}
use Rattle.clr_rules.specs.Good.{IsGood}
use Rattle.clr_rules.specs.GoodByPhase.{of_round, outlook_of, present_of}
use Rattle.clr_rules.specs.Id.{Id}
use Rattle.clr_rules.specs.Records.{is_restoring, is_running, record_of}
use Rattle.clr_rules.specs.Register.{Register}
use Rattle.clr_rules.specs.declared.hold_kind.HoldKind.TheVariants.{HeldOpen}
use Rattle.clr_rules.specs.Run.{after_all}
use Rattle.clr_rules.specs.Staffed.{IsStaffed, first_of_role, has_some_role}
use Rattle.clr_rules.specs.Steps.{is_active, is_done, some_active, steps_in, steps_of}
use Rattle.clr_rules.specs.WayBack.{cancelled, enough_turns, moves_in, moves_of, next_moves, one_of_role, turns, way_back}
use Rattle.clr_rules.specs.declared.phase.Phase.{Phase}
use Rattle.clr_rules.specs.declared.phase.Phase.TheVariants.{Requested, Ordered, Granted, Released, Restoring, Switching, Closed}
use Rattle.clr_rules.specs.declared.record.Record.{Record}
use Rattle.clr_rules.specs.declared.step_row.StepRow.{StepRow}
use Rattle.clr_order.specs.declared.step.StepState.{StepState}
use Rattle.clr_staff.specs.declared.employee.StaffRow.{StaffRow}
use Rattle.clr_wayback.proofs.Callers.{by_nobody_refused}
use Rattle.clr_wayback.proofs.Walking.{accepted-append}
use Rattle.clr_wayback.specs.Answer.{are_accepted, is_by_nobody}

-- an employee whom the staff lacks has no name
nobody_there : (R : Register) → has_some_role R.staff is_field ≡ false → one_of_role R is_field ≡ []
nobody_there R none = at (first_of_role R.staff is_field) refl
  where
    at : (o : Option StaffRow) → first_of_role R.staff is_field ≡ o → one_of_role R is_field ≡ []
    at None e = rw e refl
    at (Some row) e = absurd (false≢true (sym none ∙ ap is_some e))

-- so a step that comes back is brought by nobody
comes_back_by_nobody : (R : Register) (r : Record) (o : Option StepRow) → one_of_role R is_field ≡ [] → is_some o ≡ true → list_any is_by_nobody (cancelled R r o) ≡ true
comes_back_by_nobody R r None nobody some = absurd (false≢true some)
comes_back_by_nobody R r (Some row) nobody some = rw nobody refl

not_done : (state : StepState) → is_active state ≡ true → not (is_done state) ≡ true
not_done state active = at (is_done state) refl
  where
    at : (b : Bool) → is_done state ≡ b → not (is_done state) ≡ true
    at true e = absurd (both_ways (is_active state) (done_rests state e) active)
    at false e = ap not e

-- turns begin with the next commands
turns_first : (n : ℕ) (R : Register) (c : Id) → 0 < n → turns n R c ≡ next_moves R c ++ turns (n - 1) (after_all R (next_moves R c)) c
unfolding turns
turns_first zero R c some = absurd (omega (arith, some))
turns_first (suc n) R c some = let one_less : suc n - 1 ≡ n = omega arith in rw one_less refl

module _ (R : Register) (fit : IsFit R) (c : Id) (r : Record) (found : record_of R.records c ≡ Some r) where
  good : IsGood R
  good = fit.0

  staffed : IsStaffed R
  staffed = fit.1

  -- a record whose step is given out is in the midst of its steps
  in_midst : (row : StepRow) → Contains (steps_of R.steps c) row → is_active row.step.state ≡ true → (is_running r.phase ≡ true) × (row.round ≡ present_of (steps_of R.steps c))
  in_midst row there active =
      let by_phase = to_phases R good in
      All-contains (λ (row : StepRow). is_active row.step.state ≡ true → (is_running r.phase ≡ true) × (row.round ≡ present_of (steps_of R.steps c))) (steps_of R.steps c) row
      (step_facts R.net r.phase r.work (outlook_of R c) (in_phase_of R c r by_phase found)).active there active

  -- while it is restored, its point is held, so that there is a field employee
  restored_by_field : r.phase ≡ Restoring → (row : StepRow) → Contains (steps_of R.steps c) row → is_active row.step.state ≡ true → has_some_role R.staff is_field ≡ true
  restored_by_field is row there active =
      let restoring = ap is_restoring is in
      let second : is_some_step (of_round (steps_of R.steps c) 2) ≡ true = ap is_some_step (of_round_is R.steps c 2) ∙ good.besides.restoring_rounds c r found restoring in
      let two : row.round ≡ 2 = (in_midst row there active).1 ∙ rw second refl in
      let in_second : Contains (steps_in R.steps c 2) row = subst (λ (rows : List StepRow). Contains rows row) (of_round_is R.steps c 2) (in_round (steps_of R.steps c) 2 row there two) in
      let left : Contains (steps_left_of (steps_in R.steps c 2)) row = Contains-filter (λ (row : StepRow). not (is_done row.step.state)) (steps_in R.steps c 2) row in_second (not_done row.step.state active) in
      staffed.field c HeldOpen row.step.point refl
      (All-contains (λ (row : StepRow). has_hold R.holds c HeldOpen row.step.point ≡ true) (steps_left_of (steps_in R.steps c 2)) row (good.said.holds_are_put.nowhere_else c r found restoring) left)

  own : r.id ≡ c
  own = record_id R.records c r found

  first_is_nobodys : some_active (steps_of R.steps c) ≡ true → has_some_role R.staff is_field ≡ false → list_any is_by_nobody (next_moves R c) ≡ true
  first_is_nobodys some none =
      let (row, there, active) = some_from (λ (row : StepRow). is_active row.step.state) (steps_of R.steps c) some in
      ap (λ (o : Option Record). list_any is_by_nobody (moves_of R o)) found ∙ by row there active r.phase refl (in_midst row there active).0
    where
      taken_back : list_any is_by_nobody (cancelled R r (find (λ (row : StepRow). is_active row.step.state) (steps_of R.steps r.id))) ≡ true
      taken_back = comes_back_by_nobody R r (find (λ (row : StepRow). is_active row.step.state) (steps_of R.steps r.id)) (nobody_there R none)
          (found_any (λ (row : StepRow). is_active row.step.state) (steps_of R.steps r.id) ∙ ap (λ (d : Id). some_active (steps_of R.steps d)) own ∙ some)

      by : (row : StepRow) → Contains (steps_of R.steps c) row → is_active row.step.state ≡ true → (phase : Phase) → r.phase ≡ phase → is_running r.phase ≡ true
          → list_any is_by_nobody (moves_in R r r.phase) ≡ true
      by row there active Ordered is runs = rw is taken_back
      by row there active Switching is runs = rw is taken_back
      by row there active Restoring is runs = absurd (both_ways (has_some_role R.staff is_field) none (restored_by_field is row there active))
      by row there active Requested is runs = absurd (false≢true (sym (ap is_running is) ∙ runs))
      by row there active Granted is runs = absurd (false≢true (sym (ap is_running is) ∙ runs))
      by row there active Released is runs = absurd (false≢true (sym (ap is_running is) ∙ runs))
      by row there active Closed is runs = absurd (false≢true (sym (ap is_running is) ∙ runs))

  -- so one of the way back is refused
  pub hanging_is_refused : employee R.staff [] ≡ None → some_active (steps_of R.steps c) ≡ true → has_some_role R.staff is_field ≡ false
      → are_accepted R (way_back R c) ≡ false
  hanging_is_refused nameless some none =
      let n = enough_turns R c in
      let rest = turns (n - 1) (after_all R (next_moves R c)) c in
      ap (are_accepted R) (turns_first n R c (omega arith)) ∙ accepted-append R (next_moves R c) rest
      ∙ ap (λ b. b && are_accepted (after_all R (next_moves R c)) rest) (by_nobody_refused R (next_moves R c) nameless (first_is_nobodys some none))
