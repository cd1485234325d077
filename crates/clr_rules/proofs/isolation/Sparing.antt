-- Edits that spare a clearance leave it alone.
use Rattle.std.proofs.Common.{◌≡◌, ℕ, Bool, true, false, cond, ◌&&◌, not, List, [], ◌∷◌, Option, Some, None, is_some, refl, sym, ◌∙◌, ap, option_map, is_eq}
use Rattle.clr_rules.proofs.Common.{and_parts, not-true, one_name, same_name, Position, equal, in_key_order, with_row, without_row, first_state, nat_list_cmp_total, unplaced, name_cmp, PointRow}
use Rattle.clr_rules.proofs.Common.{same_text, row_of-with, state_key, Edit, SetPosition, SetHand, PutHold, TakeHold, PutRecord, PutStep, AddSection, AddPoint, Hold, HoldKind, HeldOpen, PointState}
use Rattle.clr_rules.proofs.Common.{Record, StepRow, Id, id_cmp, same_id, Register, has_in_hand, position_of, state_of, record_key, record_of, step_key, step_key_cmp, step_key_cmp_total, steps_of}
use Rattle.clr_rules.proofs.Common.{hold_cmp, hold_cmp_total, has_hold, hold_key, hold_of, holds_of, after_edit, after_edits, ListsAreInOrder, outlook_of, hand_in, is_hand}
use Rattle.clr_net.specs.declared.point.Position.TheVariants.{Opened, Closed as Shut}
use Rattle.clr_shelf.proofs.Groups.{filter-with_far, filter-without_far, row_of-filter_inside}
use Rattle.clr_rules.specs.laws.Edits.{changed_where}
use Rattle.clr_rules.specs.Footprint.{Frame, all_spare, both_or_neither, is_shut, spares}
use Rattle.clr_rules.specs.Hold.{same_hold}
use Rattle.clr_rules.specs.Id.{same_id_equiv}
use Rattle.clr_rules.specs.StepKey.{same_step_key}
use Rattle.clr_rules.specs.declared.step_row.StepKey.{StepKey}
use Rattle.clr_rules.proofs.edits.EditReading.{record_of-put, state_of-changed}
use Rattle.clr_rules.proofs.edits.EditedLists.{edited-in_order}
use Rattle.clr_rules.proofs.lists.StateFacts.{hand_of-placed, position_of-handed}

-- ---- lists of another clearance

pub record_of-others : (c : Id) (r : Record) (records : List Record) → same_id c r.id ≡ false
    → record_of (with_row id_cmp record_key r records) c ≡ record_of records c
record_of-others c r records differs =
    record_of-put r c records ∙ ap (λ b. cond b (Some r) (record_of records c)) (same_id_equiv.symm r.id c ∙ differs)

pub steps_of-others : (c : Id) (row : StepRow) (steps : List StepRow) → in_key_order step_key_cmp step_key steps ≡ true → same_id c row.id ≡ false
    → steps_of (with_row step_key_cmp step_key row steps) c ≡ steps_of steps c
unfolding steps_of
steps_of-others c row steps ordered differs =
    filter-with_far step_key_cmp step_key step_key_cmp_total (λ other. same_id c other.id) row steps ordered
    (λ other tied. ap (λ key. same_id c (StepKey.id key)) (same_step_key (step_key other) (step_key row) (equal (step_key_cmp (step_key other) (step_key row)) tied)) ∙ differs)

of_another : (c : Id) (h other : Hold) → same_id c h.id ≡ false → is_eq (hold_cmp other h) ≡ true → same_id c other.id ≡ false
of_another c h other differs tied = ap (λ hold. same_id c (Hold.id hold)) (same_hold other h (equal (hold_cmp other h) tied)) ∙ differs

pub holds_of-others : (c : Id) (h : Hold) (holds : List Hold) → in_key_order hold_cmp hold_key holds ≡ true → same_id c h.id ≡ false
    → holds_of (with_row hold_cmp hold_key h holds) c ≡ holds_of holds c
unfolding holds_of
holds_of-others c h holds ordered differs =
    filter-with_far hold_cmp hold_key hold_cmp_total (λ other. same_id c other.id) h holds ordered (λ other tied. of_another c h other differs tied)

pub holds_of-others_taken : (c : Id) (h : Hold) (holds : List Hold) → same_id c h.id ≡ false
    → holds_of (without_row hold_cmp hold_key h holds) c ≡ holds_of holds c
unfolding holds_of
holds_of-others_taken c h holds differs =
    filter-without_far hold_cmp hold_key hold_cmp_total (λ other. same_id c other.id) h holds (λ other tied. of_another c h other differs tied)

-- ---- hands and positions

abbrev at_position : Position → PointState → PointState
at_position position state = record state { position = position }

abbrev in_hand_of : Option Id → PointState → PointState
in_hand_of hand state = record state { hand = hand }

-- THE CLEARANCE IS LEFT ALONE: its record, its steps, its holds and its hands are the same, and no point is closed that it holds open
record Alone (c : Id) (R S : Register) : Type 0 where
  same_record : record_of S.records c ≡ record_of R.records c
  same_steps : steps_of S.steps c ≡ steps_of R.steps c
  same_holds : holds_of S.holds c ≡ holds_of R.holds c
  same_hands : (p : List ℕ) → has_in_hand S.states c p ≡ has_in_hand R.states c p
  closes_nothing : (p : List ℕ) → has_hold R.holds c HeldOpen p ≡ true → position_of R.states p ≡ Some Opened → position_of S.states p ≡ Some Opened

same_in_hand : (c : Id) (hand : Option Id) (found : Option PointState) (had : Bool) → is_hand c (hand_in found) ≡ had → had ≡ is_hand c hand
    → is_hand c (hand_in (option_map (in_hand_of hand) found)) ≡ had
same_in_hand c hand None had before own = before
same_in_hand c hand (Some state) had before own = sym own

one_answer : (a b : Bool) → both_or_neither a b ≡ true → a ≡ b
one_answer true b h = sym h
one_answer false b h = sym (not-true b h)

hand_tested : (c : Id) (R S : Register) (p q : List ℕ) (hand : Option Id) → spares c R (SetHand p hand) ≡ true → Alone c R S
    → (b : Bool) → same_name p q ≡ b
    → is_hand c (hand_in (changed_where b (in_hand_of hand) (state_of S.states q))) ≡ has_in_hand R.states c q
hand_tested c R S p q hand spared before true same =
    let own : has_in_hand R.states c q ≡ is_hand c hand =
    ap (has_in_hand R.states c) (sym (one_name p q same)) ∙ one_answer (has_in_hand R.states c p) (is_hand c hand) spared in
    same_in_hand c hand (state_of S.states q) (has_in_hand R.states c q) (before.same_hands q) own
hand_tested c R S p q hand spared before false differs = before.same_hands q

stays_open : (position : Position) (holds : Bool) (found : Option PointState) → not (is_shut position && holds) ≡ true → holds ≡ true
    → option_map (λ state. state.position) found ≡ Some Opened
    → option_map (λ state. state.position) (option_map (at_position position) found) ≡ Some Opened
stays_open Opened holds None spared held open_before = open_before
stays_open Opened holds (Some state) spared held open_before = refl
stays_open Shut true found spared held open_before = cc
stays_open Shut false found spared held open_before = cc

open_tested : (c : Id) (R S : Register) (p q : List ℕ) (position : Position) → spares c R (SetPosition p position) ≡ true → Alone c R S
    → has_hold R.holds c HeldOpen q ≡ true → position_of R.states q ≡ Some Opened → (b : Bool) → same_name p q ≡ b
    → option_map (λ state. state.position) (changed_where b (at_position position) (state_of S.states q)) ≡ Some Opened
open_tested c R S p q position spared before held was_open true same =
    stays_open position (has_hold R.holds c HeldOpen p) (state_of S.states q) spared (rw (one_name p q same) held) (before.closes_nothing q held was_open)
open_tested c R S p q position spared before held was_open false differs = before.closes_nothing q held was_open

-- a new point is open, and in no hand
new_hand : (c : Id) (R S : Register) (p : PointRow) (q : List ℕ) → spares c R (AddPoint p) ≡ true → Alone c R S → (b : Bool) → is_eq (name_cmp p.name q) ≡ b
    → is_hand c (hand_in (cond b (Some (first_state (unplaced p))) (state_of S.states q))) ≡ has_in_hand R.states c q
new_hand c R S p q spared before true same =
    sym (not-true (has_in_hand R.states c p.name) spared) ∙ ap (has_in_hand R.states c) (same_text p.name q (equal (name_cmp p.name q) same))
new_hand c R S p q spared before false differs = before.same_hands q

new_open : (c : Id) (R S : Register) (p : PointRow) (q : List ℕ) → Alone c R S → has_hold R.holds c HeldOpen q ≡ true → position_of R.states q ≡ Some Opened
    → (b : Bool) → is_eq (name_cmp p.name q) ≡ b
    → option_map (λ (state : PointState). state.position) (cond b (Some (first_state (unplaced p))) (state_of S.states q)) ≡ Some Opened
new_open c R S p q before held was_open true same = refl
new_open c R S p q before held was_open false differs = before.closes_nothing q held was_open

-- ---- one edit, and all

alone-edited : (c : Id) (R S : Register) (edit : Edit) → ListsAreInOrder S → spares c R edit ≡ true → Alone c R S → Alone c R (after_edit edit S)
alone-edited c R S (SetPosition p position) ordered spared f = record {
  same_record = f.same_record;
  same_steps = f.same_steps;
  same_holds = f.same_holds;
  same_hands = λ q. ap (is_hand c) (hand_of-placed S.states p position q) ∙ f.same_hands q;
  closes_nothing = λ q held was_open.
      ap (option_map (λ (state : PointState). state.position)) (state_of-changed (at_position position) (λ _. refl) p q S.states)
      ∙ open_tested c R S p q position spared f held was_open (same_name p q) refl;
}
alone-edited c R S (SetHand p hand) ordered spared f = record {
  same_record = f.same_record;
  same_steps = f.same_steps;
  same_holds = f.same_holds;
  same_hands = λ q.
      ap (λ found. is_hand c (hand_in found)) (state_of-changed (in_hand_of hand) (λ _. refl) p q S.states)
      ∙ hand_tested c R S p q hand spared f (same_name p q) refl;
  closes_nothing = λ q held was_open. position_of-handed S.states p hand q ∙ f.closes_nothing q held was_open;
}
alone-edited c R S (PutHold h) ordered spared f = record {
  same_record = f.same_record;
  same_steps = f.same_steps;
  same_holds = holds_of-others c h S.holds ordered.holds (not-true (same_id c h.id) spared) ∙ f.same_holds;
  same_hands = f.same_hands;
  closes_nothing = f.closes_nothing;
}
alone-edited c R S (TakeHold h) ordered spared f = record {
  same_record = f.same_record;
  same_steps = f.same_steps;
  same_holds = holds_of-others_taken c h S.holds (not-true (same_id c h.id) spared) ∙ f.same_holds;
  same_hands = f.same_hands;
  closes_nothing = f.closes_nothing;
}
alone-edited c R S (PutRecord r) ordered spared f = record {
  same_record = record_of-others c r S.records (not-true (same_id c r.id) spared) ∙ f.same_record;
  same_steps = f.same_steps;
  same_holds = f.same_holds;
  same_hands = f.same_hands;
  closes_nothing = f.closes_nothing;
}
alone-edited c R S (PutStep row) ordered spared f = record {
  same_record = f.same_record;
  same_steps = steps_of-others c row S.steps ordered.steps (not-true (same_id c row.id) spared) ∙ f.same_steps;
  same_holds = f.same_holds;
  same_hands = f.same_hands;
  closes_nothing = f.closes_nothing;
}
alone-edited c R S (AddSection row) ordered spared f =
    record { same_record = f.same_record; same_steps = f.same_steps; same_holds = f.same_holds; same_hands = f.same_hands; closes_nothing = f.closes_nothing }
alone-edited c R S (AddPoint p) ordered spared f = record {
  same_record = f.same_record;
  same_steps = f.same_steps;
  same_holds = f.same_holds;
  same_hands = λ q.
      ap (λ found. is_hand c (hand_in found)) (row_of-with name_cmp state_key nat_list_cmp_total q (first_state (unplaced p)) S.states)
      ∙ new_hand c R S p q spared f (is_eq (name_cmp p.name q)) refl;
  closes_nothing = λ q held was_open.
      ap (option_map (λ (state : PointState). state.position)) (row_of-with name_cmp state_key nat_list_cmp_total q (first_state (unplaced p)) S.states)
      ∙ new_open c R S p q f held was_open (is_eq (name_cmp p.name q)) refl;
}

along : (c : Id) (R S : Register) (edits : List Edit) → ListsAreInOrder S → all_spare c R edits ≡ true → Alone c R S → Alone c R (after_edits edits S)
unfolding after_edits
along c R S [] ordered spared f = f
along c R S (edit ∷ edits) ordered spared f =
    let (first, rest) = and_parts (spares c R edit) (all_spare c R edits) spared in
    along c R (after_edit edit S) edits (edited-in_order edit S ordered) rest (alone-edited c R S edit ordered first f)

left_alone : (c : Id) (R : Register) (edits : List Edit) → ListsAreInOrder R → all_spare c R edits ≡ true → Alone c R (after_edits edits R)
left_alone c R edits ordered spared = along c R R edits ordered spared
    (record { same_record = refl; same_steps = refl; same_holds = refl; same_hands = λ p. refl; closes_nothing = λ p held h. h })

pub sparing_edits_leave_alone : (c : Id) (R : Register) (edits : List Edit) → ListsAreInOrder R → all_spare c R edits ≡ true
    → Frame c R (after_edits edits R)
sparing_edits_leave_alone c R edits ordered spared =
    let alone = left_alone c R edits ordered spared in
    record {
      same_record = alone.same_record;
      same_steps = alone.same_steps;
      same_holds = alone.same_holds;
      hands_stay = λ p had. alone.same_hands p ∙ had;
      closes_nothing = alone.closes_nothing;
    }

-- ---- what the register has of a clearance

-- a hold of a clearance is read among its holds
pub has_hold-own : (holds : List Hold) (c : Id) (kind : HoldKind) (place : List ℕ) → has_hold (holds_of holds c) c kind place ≡ has_hold holds c kind place
unfolding holds_of
has_hold-own holds c kind place =
    ap is_some (row_of-filter_inside hold_cmp hold_key hold_cmp_total (λ h. same_id c h.id) (hold_of c kind place) holds
    (λ h tied. ap (λ hold. same_id c (Hold.id hold)) (same_hold h (hold_of c kind place) (equal (hold_cmp h (hold_of c kind place)) tied)) ∙ same_id_equiv.refl c))

pub has_hold-same : (before later : List Hold) (c : Id) (kind : HoldKind) (place : List ℕ) → holds_of later c ≡ holds_of before c
    → has_hold later c kind place ≡ has_hold before c kind place
has_hold-same before later c kind place same =
    sym (has_hold-own later c kind place) ∙ ap (λ holds. has_hold holds c kind place) same ∙ has_hold-own before c kind place

pub sparing_edits_keep_outlook : (c : Id) (R : Register) (edits : List Edit) → ListsAreInOrder R → all_spare c R edits ≡ true
    → outlook_of (after_edits edits R) c ≡ outlook_of R c
sparing_edits_keep_outlook c R edits ordered spared =
    let S = after_edits edits R in
    let alone = left_alone c R edits ordered spared in
    λ i. record {
      clearance = alone.same_record i;
      steps = alone.same_steps i;
      has = λ kind place. has_hold-same R.holds (Register.holds S) c kind place alone.same_holds i;
      hand = λ p. alone.same_hands p i;
    }
