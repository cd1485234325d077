-- What edits do to what is near a clearance: they change it exactly by those of them that concern it.
use Rattle.std.proofs.Common.{not, ◌≡◌, ℕ, Bool, true, false, cond, List, [], ◌∷◌, Option, None, Some, refl, sym, ◌∙◌, ap, filter, All, is_eq}
use Rattle.clr_rules.proofs.Common.{nat_list_cmp_total, All-head, All-tail, Grid, name_cmp, has_name, Position, equal, same_text, member-row_of, in_key_order, and_parts, adds, adds_nothing, Edit}
use Rattle.clr_rules.proofs.Common.{SetPosition, SetHand, PutHold, TakeHold, PutRecord, PutStep, AddSection, AddPoint, Hold, PointState, Record, StepRow, Id, id_cmp, id_cmp_total, same_id, Register}
use Rattle.clr_rules.proofs.Common.{state_key, state_of, record_key, step_key, step_key_cmp, step_key_cmp_total, hold_cmp, hold_cmp_total, hold_key, after_edit, after_edits, touching_names}
use Rattle.clr_rules.proofs.Common.{ListsAreInOrder, is_near_hold}
use Rattle.clr_shelf.proofs.Groups.{filter-with_inside, filter-with_far, filter-without_row, filter-without_far, row_of-filter_inside}
use Rattle.clr_rules.proofs.edits.EditedLists.{not_false, edited-in_order, edited_all-network}
use Rattle.clr_rules.specs.Agreement.{part_near}
use Rattle.clr_rules.specs.laws.Agreement.{concerning, concerns, is_about}
use Rattle.clr_rules.specs.Hold.{same_hold}
use Rattle.clr_rules.specs.Id.{same_id_from_tie}
use Rattle.clr_rules.specs.Near.{Extent, part}
use Rattle.clr_rules.specs.Shown.{is_mark, marks_of}
use Rattle.clr_rules.specs.StepKey.{same_step_key}
use Rattle.clr_rules.specs.States.{change_state, changed_state}

-- ---- a state that is changed, in the group of some points

module _ (beside : List ℕ → Bool) (point : List ℕ) (change : PointState → PointState) (keeps : (state : PointState) → (change state).point ≡ state.point) where
  -- a state that ties with the point is there
  stands : (state : PointState) → is_eq (name_cmp state.point point) ≡ true → state.point ≡ point
  stands state tied = same_text state.point point (equal (name_cmp state.point point) tied)

  near_found : (states : List PointState) → beside point ≡ true → (o : Option PointState) → state_of states point ≡ o
      → filter (λ state. beside state.point) (changed_state o change states) ≡ changed_state o change (filter (λ state. beside state.point) states)
  near_found states is_in None found = refl
  near_found states is_in (Some state) found =
      filter-with_inside name_cmp state_key nat_list_cmp_total (λ state. beside state.point) (change state) states
      (rw (keeps state, stands state (member-row_of name_cmp state_key nat_list_cmp_total point state states found).1) is_in)

  -- at a point of the group, it is changed there
  pub filter-change_near : (states : List PointState) → beside point ≡ true
      → filter (λ state. beside state.point) (change_state states point change) ≡ change_state (filter (λ state. beside state.point) states) point change
  filter-change_near states is_in =
      let found : state_of (filter (λ state. beside state.point) states) point ≡ state_of states point =
      row_of-filter_inside name_cmp state_key nat_list_cmp_total (λ state. beside state.point) point states (λ state tied. rw (stands state tied) is_in) in
      near_found states is_in (state_of states point) refl
      ∙ ap (λ (o : Option PointState). changed_state o change (filter (λ state. beside state.point) states)) (sym found)

  far_found : (states : List PointState) → in_key_order name_cmp state_key states ≡ true → beside point ≡ false
      → (o : Option PointState) → state_of states point ≡ o
      → filter (λ state. beside state.point) (changed_state o change states) ≡ filter (λ state. beside state.point) states
  far_found states ordered is_out None found = refl
  far_found states ordered is_out (Some state) found =
      let here = stands state (member-row_of name_cmp state_key nat_list_cmp_total point state states found).1 in
      filter-with_far name_cmp state_key nat_list_cmp_total (λ state. beside state.point) (change state) states ordered
      (λ other tied. rw (same_text other.point (change state).point (equal (name_cmp other.point (change state).point) tied), keeps state, here) is_out)

  -- at any other, the group stays
  pub filter-change_far : (states : List PointState) → in_key_order name_cmp state_key states ≡ true → beside point ≡ false
      → filter (λ state. beside state.point) (change_state states point change) ≡ filter (λ state. beside state.point) states
  filter-change_far states ordered is_out = far_found states ordered is_out (state_of states point) refl

-- ---- one edit

-- the sections inside with their holds, these points, and a clearance
abbrev around : (List ℕ → Bool) → (List ℕ → Bool) → Id → Extent
around inside beside c = record { sections = inside; holds_at = inside; points = beside; clearance = Some c }

-- the part after an edit that concerns it, and after one that does not
abbrev part_after : Bool → Edit → Register → Register
part_after true edit P = after_edit edit P
part_after false edit P = P

module _ (R : Register) (ordered : ListsAreInOrder R) (inside beside : List ℕ → Bool) (c : Id) where
  at_position : (point : List ℕ) (position : Position) (b : Bool) → beside point ≡ b
      → part (after_edit (SetPosition point position) R) (around inside beside c)
      ≡ part_after b (SetPosition point position) (part R (around inside beside c))
  at_position point position true is = ap (λ (l : List PointState). record (part R (around inside beside c)) { states = l })
      (filter-change_near beside point (λ state. record state { position = position }) (λ state. refl) R.states is)
  at_position point position false is = ap (λ (l : List PointState). record (part R (around inside beside c)) { states = l })
      (filter-change_far beside point (λ state. record state { position = position }) (λ state. refl) R.states ordered.states is)

  at_hand : (point : List ℕ) (hand : Option Id) (b : Bool) → beside point ≡ b
      → part (after_edit (SetHand point hand) R) (around inside beside c)
      ≡ part_after b (SetHand point hand) (part R (around inside beside c))
  at_hand point hand true is = ap (λ (l : List PointState). record (part R (around inside beside c)) { states = l })
      (filter-change_near beside point (λ state. record state { hand = hand }) (λ state. refl) R.states is)
  at_hand point hand false is = ap (λ (l : List PointState). record (part R (around inside beside c)) { states = l })
      (filter-change_far beside point (λ state. record state { hand = hand }) (λ state. refl) R.states ordered.states is)

  -- a hold that ties with one is near where that is
  far_hold : (h : Hold) → is_near_hold inside beside (Some c) h ≡ false → (other : Hold) → is_eq (hold_cmp other h) ≡ true
      → is_near_hold inside beside (Some c) other ≡ false
  far_hold h is other tied = rw (same_hold other h (equal (hold_cmp other h) tied)) is

  at_put : (h : Hold) (b : Bool) → is_near_hold inside beside (Some c) h ≡ b
      → part (after_edit (PutHold h) R) (around inside beside c) ≡ part_after b (PutHold h) (part R (around inside beside c))
  at_put h true is = ap (λ (l : List Hold). record (part R (around inside beside c)) { holds = l })
      (filter-with_inside hold_cmp hold_key hold_cmp_total (is_near_hold inside beside (Some c)) h R.holds is)
  at_put h false is = ap (λ (l : List Hold). record (part R (around inside beside c)) { holds = l })
      (filter-with_far hold_cmp hold_key hold_cmp_total (is_near_hold inside beside (Some c)) h R.holds ordered.holds (far_hold h is))

  at_take : (h : Hold) (b : Bool) → is_near_hold inside beside (Some c) h ≡ b
      → part (after_edit (TakeHold h) R) (around inside beside c) ≡ part_after b (TakeHold h) (part R (around inside beside c))
  at_take h true is = ap (λ (l : List Hold). record (part R (around inside beside c)) { holds = l })
      (filter-without_row hold_cmp hold_key hold_cmp_total (is_near_hold inside beside (Some c)) h R.holds)
  at_take h false is = ap (λ (l : List Hold). record (part R (around inside beside c)) { holds = l })
      (filter-without_far hold_cmp hold_key hold_cmp_total (is_near_hold inside beside (Some c)) h R.holds (far_hold h is))

  at_record : (r : Record) (b : Bool) → same_id c r.id ≡ b
      → part (after_edit (PutRecord r) R) (around inside beside c) ≡ part_after b (PutRecord r) (part R (around inside beside c))
  at_record r true is = ap (λ (l : List Record). record (part R (around inside beside c)) { records = l })
      (filter-with_inside id_cmp record_key id_cmp_total (λ other. same_id c other.id) r R.records is)
  at_record r false is = ap (λ (l : List Record). record (part R (around inside beside c)) { records = l })
      (filter-with_far id_cmp record_key id_cmp_total (λ other. same_id c other.id) r R.records ordered.records
      (λ other tied. rw (same_id_from_tie other.id r.id (equal (id_cmp other.id r.id) tied)) is))

  at_step : (row : StepRow) (b : Bool) → same_id c row.id ≡ b
      → part (after_edit (PutStep row) R) (around inside beside c) ≡ part_after b (PutStep row) (part R (around inside beside c))
  at_step row true is = ap (λ (l : List StepRow). record (part R (around inside beside c)) { steps = l })
      (filter-with_inside step_key_cmp step_key step_key_cmp_total (λ other. same_id c other.id) row R.steps is)
  at_step row false is = ap (λ (l : List StepRow). record (part R (around inside beside c)) { steps = l })
      (filter-with_far step_key_cmp step_key step_key_cmp_total (λ other. same_id c other.id) row R.steps ordered.steps
      (λ other tied. rw (ap (λ key. key.id) (same_step_key (step_key other) (step_key row) (equal (step_key_cmp (step_key other) (step_key row)) tied))) is))

  -- an edit changes the part where it concerns it, and otherwise leaves it
  pub part-edited : (edit : Edit) → adds edit ≡ false → part (after_edit edit R) (around inside beside c)
      ≡ part_after (concerns c inside beside edit) edit (part R (around inside beside c))
  part-edited (SetPosition point position) plain = at_position point position (beside point) refl
  part-edited (SetHand point hand) plain = at_hand point hand (beside point) refl
  part-edited (PutHold h) plain = at_put h (is_near_hold inside beside (Some c) h) refl
  part-edited (TakeHold h) plain = at_take h (is_near_hold inside beside (Some c) h) refl
  part-edited (PutRecord r) plain = at_record r (same_id c r.id) refl
  part-edited (PutStep row) plain = at_step row (same_id c row.id) refl
  part-edited (AddSection row) plain = absurd cc
  part-edited (AddPoint p) plain = absurd cc

-- ---- a list of edits

-- the concerning edits of a list whose first does or does not concern the part
first_tested : (p : Edit → Bool) (edit : Edit) (edits : List Edit) (P : Register) (b : Bool) → p edit ≡ b
    → after_edits (filter p edits) (part_after b edit P) ≡ after_edits (filter p (edit ∷ edits)) P
unfolding after_edits
first_tested p edit edits P true is = rw is refl
first_tested p edit edits P false is = rw is refl

pub part-edited_all : (R : Register) → ListsAreInOrder R → (inside beside : List ℕ → Bool) (c : Id) (edits : List Edit) → adds_nothing edits ≡ true
    → part (after_edits edits R) (around inside beside c)
    ≡ after_edits (filter (concerns c inside beside) edits) (part R (around inside beside c))
unfolding after_edits
part-edited_all R ordered inside beside c [] plain = refl
part-edited_all R ordered inside beside c (edit ∷ edits) plain =
    let (one, others) = and_parts (not (adds edit)) (adds_nothing edits) plain in
    part-edited_all (after_edit edit R) (edited-in_order edit R ordered) inside beside c edits others
    ∙ ap (after_edits (filter (concerns c inside beside) edits)) (part-edited R ordered inside beside c edit (not_false (adds edit) one))
    ∙ first_tested (concerns c inside beside) edit edits (part R (around inside beside c)) (concerns c inside beside edit) refl

-- edits change what is near a clearance exactly by those of them that concern it
pub part_near-edited_all : (R : Register) → ListsAreInOrder R → (c : Id) (inside : List ℕ → Bool) (edits : List Edit) → adds_nothing edits ≡ true
    → part_near (after_edits edits R) c inside ≡ after_edits (concerning R.net c inside edits) (part_near R c inside)
part_near-edited_all R ordered c inside edits plain =
    ap (λ (g : Grid). part (after_edits edits R) (around inside (has_name (touching_names g inside)) c)) (edited_all-network R edits plain ordered).same_net
    ∙ part-edited_all R ordered inside (has_name (touching_names R.net inside)) c edits plain

-- ---- edits of others

-- an edit that is not about a clearance concerns it where it is a mark
concerns_by_mark : (g : Grid) (c : Id) (inside : List ℕ → Bool) (edit : Edit) → is_about c edit ≡ false
    → concerns c inside (has_name (touching_names g inside)) edit ≡ is_mark g inside edit
concerns_by_mark g c inside (PutHold h) other = rw other refl
concerns_by_mark g c inside (TakeHold h) other = rw other refl
concerns_by_mark g c inside (PutRecord r) other = other
concerns_by_mark g c inside (PutStep row) other = other
concerns_by_mark g c inside _ other = refl

pub concerning_by_marks : (g : Grid) (c : Id) (inside : List ℕ → Bool) (edits : List Edit) → All (λ edit. is_about c edit ≡ false) edits
    → concerning g c inside edits ≡ marks_of g inside edits
concerning_by_marks g c inside [] others = refl
concerning_by_marks g c inside (edit ∷ edits) others =
    let first = concerns_by_mark g c inside edit (All-head (λ edit. is_about c edit ≡ false) edit edits others) in
    let rest = concerning_by_marks g c inside edits (All-tail (λ edit. is_about c edit ≡ false) edit edits others) in
    λ i. cond (first i) (edit ∷ rest i) (rest i)

pub others_change_by_marks : (R : Register) → ListsAreInOrder R → (c : Id) (inside : List ℕ → Bool) (edits : List Edit) → adds_nothing edits ≡ true
    → All (λ edit. is_about c edit ≡ false) edits
    → part_near (after_edits edits R) c inside ≡ after_edits (marks_of R.net inside edits) (part_near R c inside)
others_change_by_marks R ordered c inside edits plain others =
    part_near-edited_all R ordered c inside edits plain
    ∙ ap (λ (l : List Edit). after_edits l (part_near R c inside)) (concerning_by_marks R.net c inside edits others)
