-- Of a register that is kept, the lists fit exactly where it is good.
use Rattle.std.proofs.Common.{◌≡◌, ◌↔◌, ℕ, Bool, true, false, ◌&&◌, List, [], Option, Some, None, is_some, refl, sym, ◌∙◌, ap, subst}
use Rattle.clr_rules.proofs.Common.{and_from, and_parts, both_ways, false≢true, false_from_ne_true, All-weaker, same_Some, Opened, IsGood, has_record, Id, Register, has_in_hand, position_of}
use Rattle.clr_rules.proofs.Common.{record_of, same_id, steps_of, is_point_kind, has_hold, hold_of}
use Rattle.clr_rules.specs.GoodByPhase.{HoldsNothing, InPhase, InPlaceAs, IsGoodByPhase, active_at, go_in_turn, of_round, outlook_of}
use Rattle.clr_rules.proofs.good.GoodToPhases.{to_phases}
use Rattle.clr_rules.proofs.good.PhasesToGood.{from_phases}
use Rattle.clr_rules.proofs.lists.RoundSteps.{no_step_of, one_id}
use Rattle.clr_good.specs.Points.{points_fit}
use Rattle.clr_good.specs.Clearances.{clearances_fit}
use Rattle.clr_good.specs.Steps.{steps_fit}
use Rattle.clr_good.specs.Holds.{holds_fit, is_opened, kind_suits, point_hold_suits}
use Rattle.clr_good.specs.Whole.{IsKept, lists_fit}
use Rattle.clr_good.proofs.PointsSay.{HandsHaveSteps, points_said, points_say}
use Rattle.clr_good.proofs.ClearancesSay.{ClearancesSay, clearances_said, clearances_say}
use Rattle.clr_good.proofs.StepsSay.{StepsSay, steps_said, steps_say}
use Rattle.clr_good.proofs.HoldsSay.{HoldsSay, holds_said, holds_say, opened_is}
use Rattle.clr_good.proofs.ByPhase.{HoldsSuit, holds_from_phase, phase_from_tests, steps_from_phase, suits_from_phase, work_from_phase}
use Rattle.clr_net.proofs.Walks.{same_tests}
use Rattle.clr_rules.specs.declared.hold_kind.HoldKind.{HoldKind}
use Rattle.clr_rules.specs.declared.record.Record.{Record}
use Rattle.clr_rules.specs.declared.step_row.StepRow.{StepRow}

-- ---- lists that fit make a good register

module _ (R : Register) (hands : HandsHaveSteps R.states R.steps) (clearances : ClearancesSay R) (steps : StepsSay R) (holds : HoldsSay R) where
  module _ (c : Id) where
    no_steps : record_of R.records c ≡ None → steps_of R.steps c ≡ []
    no_steps none = no_step_of R.steps c
        (All-weaker (λ (row : StepRow). has_record R.records row.id ≡ true) (λ (row : StepRow). same_id c row.id ≡ false)
        (λ row recorded. false_from_ne_true (same_id c row.id) (λ same.
        false≢true (sym (ap is_some none) ∙ ap (has_record R.records) (one_id c row.id same) ∙ recorded)))
        R.steps steps.recorded)

    no_holds : record_of R.records c ≡ None → HoldsNothing (outlook_of R c)
    no_holds none kind place = false_from_ne_true (has_hold R.holds c kind place) (λ has.
        let suits = holds.suits c kind place has in
        false≢true (sym (ap is_some none) ∙ ap is_some suits.1))

    suit_of : (r : Record) → record_of R.records c ≡ Some r → HoldsSuit R c r.phase r.work
    suit_of r found kind place has =
        let suits = holds.suits c kind place has in
        let same : suits.0 ≡ r = same_Some suits.0 r (sym suits.1 ∙ found) in
        subst (λ (r : Record). kind_suits R r.phase r.work (hold_of c kind place) (is_point_kind kind) ≡ true) same suits.2

    in_place_as : (o : Option Record) → record_of R.records c ≡ o → InPlaceAs R.net o (outlook_of R c)
    in_place_as None none = record { no_step = no_steps none; no_hold = no_holds none }
    in_place_as (Some r) found = phase_from_tests R c r.phase r.work (clearances.works c r found) (steps.suit c r found) (suit_of r found) (holds.stand c r found)

    no_round : (round : ℕ) → go_in_turn (of_round [] round) ≡ true
    unfolding of_round
    no_round round = refl

    turns_as : (o : Option Record) → record_of R.records c ≡ o → (round : ℕ) → go_in_turn (of_round (steps_of R.steps c) round) ≡ true
    turns_as None none round = subst (λ (rows : List StepRow). go_in_turn (of_round rows round) ≡ true) (sym (no_steps none)) (no_round round)
    turns_as (Some r) found round = steps.in_turn c r found round

    held_open : (kind : HoldKind) (p : List ℕ) → is_point_kind kind ≡ true → has_hold R.holds c kind p ≡ true → position_of R.states p ≡ Some Opened
    held_open kind p at_point has =
        let suits = holds.suits c kind p has in
        let r = suits.0 in
        let at : kind_suits R r.phase r.work (hold_of c kind p) true ≡ true =
        subst (λ (b : Bool). kind_suits R r.phase r.work (hold_of c kind p) b ≡ true) at_point suits.2 in
        opened_is (position_of R.states p)
        (and_parts (is_opened (position_of R.states p)) (point_hold_suits R.holds c (steps_of R.steps c) r.phase kind p) at).0

lists_make_good : (R : Register) → IsKept R → lists_fit R ≡ true → IsGood R
lists_make_good R kept fits =
    let one = and_parts (points_fit R) (clearances_fit R && (steps_fit R && holds_fit R)) fits in
    let two = and_parts (clearances_fit R) (steps_fit R && holds_fit R) one.1 in
    let three = and_parts (steps_fit R) (holds_fit R) two.1 in
    let points = points_say R one.0 in
    let clearances = clearances_say R kept.in_order.records two.0 in
    let steps = steps_say R three.0 in
    let holds = holds_say R three.1 in
    from_phases R (record {
      network = kept.network;
      staff = kept.staff;
      in_place = λ c. record {
        in_turn = turns_as R points.1 clearances steps holds c (record_of R.records c) refl;
        hands = λ p. same_tests (has_in_hand R.states c p) (active_at (steps_of R.steps c) p) (points.1 c p) (steps.in_hand c p);
        phase = in_place_as R points.1 clearances steps holds c (record_of R.records c) refl;
      };
      operators = clearances.operators;
      held_open = held_open R points.1 clearances steps holds;
      closing_free = steps.closing;
      numbered = clearances.numbered;
      work_known = clearances.work_known;
      placed = kept.placed;
      points_known = record { states = points.0; steps = steps.known };
      in_order = kept.in_order;
    })

-- ---- and a good register has lists that fit

module _ (R : Register) (by_phase : IsGoodByPhase R) (good : IsGood R) where
  in_phase : (c : Id) (r : Record) → record_of R.records c ≡ Some r → InPhase R.net r.phase r.work (outlook_of R c)
  in_phase c r found = subst (λ (o : Option Record). InPlaceAs R.net o (outlook_of R c)) found (by_phase.in_place c).phase

  held_recorded : (c : Id) (kind : HoldKind) (place : List ℕ) → has_hold R.holds c kind place ≡ true → (o : Option Record) → record_of R.records c ≡ o
      → (r : Record) × (record_of R.records c ≡ Some r)
  held_recorded c kind place has None none =
      let bare = subst (λ (o : Option Record). InPlaceAs R.net o (outlook_of R c)) none (by_phase.in_place c).phase in
      absurd (both_ways (has_hold R.holds c kind place) (bare.no_hold kind place) has)
  held_recorded c kind place has (Some r) found = (r, found)

  clearances_are : ClearancesSay R
  clearances_are = record {
    numbered = by_phase.numbered;
    work_known = by_phase.work_known;
    operators = by_phase.operators;
    works = λ c r found. work_from_phase R c r.phase r.work (in_phase c r found);
  }

  steps_are : StepsSay R
  steps_are = record {
    recorded = good.said.numbers_have_no_gaps.steps_recorded;
    known = by_phase.points_known.steps;
    in_hand = λ c p active. (by_phase.in_place c).hands p ∙ active;
    closing = by_phase.closing_free;
    in_turn = λ c r found. (by_phase.in_place c).in_turn;
    suit = λ c r found. steps_from_phase R c r.phase r.work (in_phase c r found);
  }

  holds_are : HoldsSay R
  holds_are = record {
    suits = λ c kind place has.
        let recorded = held_recorded c kind place has (record_of R.records c) refl in
        let r = recorded.0 in
        (r, recorded.1, suits_from_phase R c r.phase r.work (in_phase c r recorded.1) (by_phase.held_open c) kind place has);
    stand = λ c r found. holds_from_phase R c r.phase r.work (in_phase c r found);
  }

  all_fit : lists_fit R ≡ true
  all_fit =
      and_from (points_fit R) (clearances_fit R && (steps_fit R && holds_fit R))
      (points_said R by_phase.in_order.states by_phase.points_known.states (λ c p held. sym ((by_phase.in_place c).hands p) ∙ held))
      (and_from (clearances_fit R) (steps_fit R && holds_fit R) (clearances_said R by_phase.in_order.records clearances_are)
      (and_from (steps_fit R) (holds_fit R) (steps_said R by_phase.in_order.records by_phase.in_order.holds steps_are)
      (holds_said R by_phase.in_order.records by_phase.in_order.holds holds_are)))

good_has_lists : (R : Register) → IsGood R → lists_fit R ≡ true
good_has_lists R good = all_fit R (to_phases R good) good

pub test_is_exact : (R : Register) → IsKept R → (lists_fit R ≡ true) ↔ IsGood R
test_is_exact R kept = (lists_make_good R kept, good_has_lists R)
