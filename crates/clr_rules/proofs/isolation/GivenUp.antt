-- A good and staffed register stays so without the steps of some closed records.
use Rattle.std.proofs.Common.{◌≡◌, ◌∙◌, ◌⊎◌, ℕ, Bool, true, false, not, ◌&&◌, IsTrue, List, [], ◌∷◌, Some, refl, sym, ap, subst, filter}
use Rattle.std.proofs.lemmas.List.Elements.{All-filter, All-nil, All-weaker, filter_passes}
use Rattle.clr_rules.proofs.Common.{AreAtPoints, Grid, IsGood, IsGoodByPhase, IsInPlace, active_at, all_done, and_parts, any_from, both_ways, false≢true, false_from_ne_true, filter-filter_wider, go_in_turn}
use Rattle.clr_rules.proofs.Common.{has_name, is_active, is_closing_at, is_open, is_some_step, not-true, one_id, outlook_of, point_names, same_id, same_name, same_Some}
use Rattle.clr_rules.proofs.Common.{some_active, some_from, steps_in, steps_of}
use Rattle.clr_rules.specs.GoodByPhase.{InClosed, InPhase, InPlaceAs}
use Rattle.clr_rules.specs.Prelude.{Phase, Closed, Record, StepRow, Id, Register, record_of, is_restoring}
use Rattle.clr_rules.specs.Records.{is_closed}
use Rattle.clr_rules.specs.Staffed.{IsStaffed}
use Rattle.clr_rules.specs.laws.ClosedSteps.{AreClosed, AreOneBut, ClosedStepsMayGo, without_steps_of}
use Rattle.clr_rules.proofs.edits.PutRecords.{same_closing}
use Rattle.clr_rules.proofs.edits.PutSteps.{closing_by}
use Rattle.clr_rules.proofs.good.GoodToPhases.{to_phases}
use Rattle.clr_rules.proofs.good.PhaseFacts.{none_of_round}
use Rattle.clr_rules.proofs.good.PhasesToGood.{from_phases}
use Rattle.clr_rules.proofs.isolation.ClosedSteps.{order_stays, own_same, steps_stay}
use Rattle.clr_rules.proofs.lists.RoundSteps.{no_step_of, some_step_there}
use Rattle.clr_rules.proofs.near.OwnQuestions.{same_round}

closed_one : (phase : Phase) → is_closed phase ≡ true → phase ≡ Closed
closed_one Closed is = refl
closed_one _ is = absurd (false≢true is)

-- a filter keeps none where there is none
some_kept : (p : StepRow → Bool) (steps : List StepRow) → is_some_step (filter p steps) ≡ true → is_some_step steps ≡ true
some_kept p [] some = some
some_kept p (row ∷ steps) some = some_step_there row steps

module _ (gone : Id → Bool) (R : Register) (closed : AreClosed gone R) where
  abbrev W : Register
  W = without_steps_of gone R

  no_steps : (c : Id) → gone c ≡ true → steps_of (Register.steps (without_steps_of gone R)) c ≡ []
  no_steps c is = no_step_of (Register.steps W) c
      (All-weaker (λ (row : StepRow). not (gone row.id) ≡ true) (λ (row : StepRow). same_id c row.id ≡ false)
      (λ row kept. false_from_ne_true (same_id c row.id) (λ same.
      both_ways (gone row.id) (not-true (gone row.id) kept) (ap gone (sym (one_id c row.id same)) ∙ is)))
      (Register.steps W) (filter_passes (λ (row : StepRow). not (gone row.id)) R.steps))

  module _ (good : IsGood R) where
    by_phase : IsGoodByPhase R
    by_phase = to_phases R good

    in_closed : (c : Id) (r : Record) → record_of R.records c ≡ Some r → is_closed r.phase ≡ true → InClosed (outlook_of R c)
    in_closed c r read over = subst (λ (phase : Phase). InPhase R.net phase r.work (outlook_of R c)) (closed_one r.phase over)
        (subst (λ o. InPlaceAs R.net o (outlook_of R c)) read (by_phase.in_place c).phase)

    none_at : (c : Id) (p : List ℕ) → some_active (steps_of R.steps c) ≡ false → active_at (steps_of R.steps c) p ≡ false
    none_at c p none = false_from_ne_true (active_at (steps_of R.steps c) p) (λ some.
        let (row, there, both) = some_from (λ (row : StepRow). is_active row.step.state && same_name p row.step.point) (steps_of R.steps c) some in
        both_ways (some_active (steps_of R.steps c)) none
        (any_from (λ (row : StepRow). is_active row.step.state) (steps_of R.steps c) row there (and_parts (is_active row.step.state) (same_name p row.step.point) both).0))

    bare_place : (c : Id) → gone c ≡ true → IsInPlace R.net (record (outlook_of R c) { steps = [] })
    bare_place c is =
        let (r, read, over) = closed c is in
        let h = in_closed c r read over in
        record {
          in_turn = λ round. ap go_in_turn (none_of_round round);
          hands = λ p. (by_phase.in_place c).hands p ∙ none_at c p h.none_active;
          phase = subst (λ o. InPlaceAs R.net o (record (outlook_of R c) { steps = [] })) (sym read)
              (subst (λ (phase : Phase). InPhase R.net phase r.work (record (outlook_of R c) { steps = [] })) (sym (closed_one r.phase over)) (record { none_active = refl; no_hold = h.no_hold }));
        }

    place : (c : Id) (b : Bool) → gone c ≡ b → IsInPlace R.net (outlook_of (without_steps_of gone R) c)
    place c true is = subst (IsInPlace R.net) (λ i. record (outlook_of R c) { steps = sym (no_steps c is) i }) (bare_place c is)
    place c false kept = subst (IsInPlace R.net) (λ i. record (outlook_of R c) { steps = steps_stay gone R.steps c kept i }) (by_phase.in_place c)

    closing_there : (b : Id) (p : List ℕ) → is_closing_at (Register.steps (without_steps_of gone R)) b p ≡ true → (e : Bool) → gone b ≡ e → is_closing_at R.steps b p ≡ true
    closing_there b p closing true is = absurd (false≢true (sym (closing_by (Register.steps W) b p [] (no_steps b is)) ∙ closing))
    closing_there b p closing false kept = same_closing R W b p (sym (steps_stay gone R.steps b kept)) ∙ closing

    at_points : (c : Id) (r : Record) → record_of R.records c ≡ Some r → is_open r.phase ≡ true → (b : Bool) → gone c ≡ b → AreAtPoints R.net (steps_of (Register.steps (without_steps_of gone R)) c)
    at_points c r found unclosed true is =
        subst (AreAtPoints R.net) (sym (no_steps c is)) (All-nil (λ (row : StepRow). IsTrue (has_name (point_names (Grid.points R.net)) row.step.point)))
    at_points c r found unclosed false kept = subst (AreAtPoints R.net) (steps_stay gone R.steps c kept) (by_phase.points_known.steps c r found unclosed)

    good_without : IsGood (without_steps_of gone R)
    good_without = from_phases W (record {
      network = by_phase.network;
      staff = by_phase.staff;
      in_place = λ c. place c (gone c) refl;
      operators = by_phase.operators;
      held_open = by_phase.held_open;
      closing_free = λ b p closing. by_phase.closing_free b p (closing_there b p closing (gone b) refl);
      numbered = by_phase.numbered;
      work_known = by_phase.work_known;
      placed = by_phase.placed;
      points_known = record { states = by_phase.points_known.states; steps = λ c r found unclosed. at_points c r found unclosed (gone c) refl };
      in_order = order_stays gone R by_phase.in_order;
    })

  module _ (staffed : IsStaffed R) where
    step_left : (c : Id) (r : Record) → record_of R.records c ≡ Some r → is_restoring r.phase ≡ true → (b : Bool) → gone c ≡ b
        → all_done (steps_in (Register.steps (without_steps_of gone R)) c 2) ≡ false
    step_left c r found restores true is =
        let (s, read, over) = closed c is in
        absurd (false≢true (ap is_restoring (sym (closed_one s.phase over)) ∙ ap (λ (x : Record). is_restoring x.phase) (same_Some s r (sym read ∙ found)) ∙ restores))
    step_left c r found restores false kept = ap all_done (sym (same_round c R W (own_same gone R c kept) 2)) ∙ staffed.restoring c r found restores

    staffed_without : IsStaffed (without_steps_of gone R)
    staffed_without = record {
      holders = staffed.holders;
      operators = λ some. staffed.operators (some_kept (λ (row : StepRow). not (gone row.id)) R.steps some);
      field = staffed.field;
      rounds = All-filter (λ (row : StepRow). not (gone row.id)) (λ (row : StepRow). is_active row.step.state ≡ true → (row.round ≡ 1) ⊎ (row.round ≡ 2)) R.steps staffed.rounds;
      released = staffed.released;
      restoring = λ c r found restores. step_left c r found restores (gone c) refl;
    }

  one_but : AreOneBut gone R (without_steps_of gone R)
  one_but = record { closed = closed; rest = λ i. record R { steps = sym (filter-filter_wider (λ (row : StepRow). not (gone row.id)) (λ row. not (gone row.id)) (λ row kept. kept) R.steps) i } }

pub closed_steps_may_go : ClosedStepsMayGo
closed_steps_may_go = record {
  good = λ gone R good closed. good_without gone R closed good;
  staffed = λ gone R staffed closed. staffed_without gone R closed staffed;
  one_but = λ gone R closed. one_but gone R closed;
}
