-- What a list of edits keeps: the order of the lists, the network, the staff, and the points that have states.
use Rattle.std.proofs.Common.{◌≡◌, Bool, true, false, not, List, [], ◌∷◌, refl, ◌∙◌}
use Rattle.clr_rules.proofs.Common.{and_parts, nat_list_cmp_total, unplaced, name_cmp, first_state, state_key, Edit, SetPosition, SetHand, PutHold, TakeHold, PutRecord, PutStep, AddSection, AddPoint}
use Rattle.clr_rules.proofs.Common.{id_cmp, id_cmp_total, Register, record_key, step_key, step_key_cmp, step_key_cmp_total, hold_cmp, hold_cmp_total, hold_key, after_edit, after_edits}
use Rattle.clr_rules.proofs.Common.{ListsAreInOrder, in_key_order}
use Rattle.clr_shelf.proofs.KeyOrder.{in_key_order-with_row, in_key_order-without_row}
use Rattle.clr_rules.specs.laws.Edits.{KeepsNetwork, adds, adds_nothing}
use Rattle.clr_rules.proofs.lists.StateFacts.{in_key_order-change, state_keys-change}

in_lists : {R : Register} → in_key_order name_cmp state_key R.states ≡ true → in_key_order id_cmp record_key R.records ≡ true → in_key_order step_key_cmp step_key R.steps ≡ true
    → in_key_order hold_cmp hold_key R.holds ≡ true → ListsAreInOrder R
in_lists states records steps holds = record { states = states; records = records; steps = steps; holds = holds }

-- an edit keeps the lists in order
pub edited-in_order : (edit : Edit) (R : Register) → ListsAreInOrder R → ListsAreInOrder (after_edit edit R)
edited-in_order (SetPosition p position) R h = in_lists (in_key_order-change (λ state. record state { position = position }) R.states p h.states) h.records h.steps h.holds
edited-in_order (SetHand p hand) R h = in_lists (in_key_order-change (λ state. record state { hand = hand }) R.states p h.states) h.records h.steps h.holds
edited-in_order (PutHold hold) R h = in_lists h.states h.records h.steps (in_key_order-with_row hold_cmp hold_key hold_cmp_total hold R.holds h.holds)
edited-in_order (TakeHold hold) R h = in_lists h.states h.records h.steps (in_key_order-without_row hold_cmp hold_key hold_cmp_total hold R.holds h.holds)
edited-in_order (PutRecord r) R h = in_lists h.states (in_key_order-with_row id_cmp record_key id_cmp_total r R.records h.records) h.steps h.holds
edited-in_order (PutStep row) R h = in_lists h.states h.records (in_key_order-with_row step_key_cmp step_key step_key_cmp_total row R.steps h.steps) h.holds
edited-in_order (AddSection row) R h = in_lists h.states h.records h.steps h.holds
edited-in_order (AddPoint p) R h = in_lists (in_key_order-with_row name_cmp state_key nat_list_cmp_total (first_state (unplaced p)) R.states h.states) h.records h.steps h.holds

pub edited_all-in_order : (R : Register) (edits : List Edit) → ListsAreInOrder R → ListsAreInOrder (after_edits edits R)
unfolding after_edits
edited_all-in_order R [] h = h
edited_all-in_order R (edit ∷ edits) h = edited_all-in_order (after_edit edit R) edits (edited-in_order edit R h)

-- an edit keeps the network, the staff and the points
pub edited-network : (edit : Edit) (R : Register) → adds edit ≡ false → ListsAreInOrder R → KeepsNetwork R (after_edit edit R)
edited-network (SetPosition p position) R plain h = record { same_net = refl; same_staff = refl; same_points = state_keys-change (λ state. record state { position = position }) (λ _. refl) R.states p h.states }
edited-network (SetHand p hand) R plain h = record { same_net = refl; same_staff = refl; same_points = state_keys-change (λ state. record state { hand = hand }) (λ _. refl) R.states p h.states }
edited-network (AddSection row) R plain h = absurd cc
edited-network (AddPoint p) R plain h = absurd cc
edited-network _ R plain h = record { same_net = refl; same_staff = refl; same_points = refl }

-- the staff stay, whatever is added
pub edited_all-staff : (R : Register) (edits : List Edit) → Register.staff (after_edits edits R) ≡ R.staff
unfolding after_edits
edited_all-staff R [] = refl
edited_all-staff R (edit ∷ edits) = edited_all-staff (after_edit edit R) edits

pub not_false : (b : Bool) → not b ≡ true → b ≡ false
not_false true h = absurd cc
not_false false h = refl

-- edits that add nothing keep the network, whatever the lists are,
edited-net : (edit : Edit) (R : Register) → adds edit ≡ false → Register.net (after_edit edit R) ≡ R.net
edited-net (AddSection row) R plain = absurd cc
edited-net (AddPoint p) R plain = absurd cc
edited-net _ R plain = refl

pub edited_all-net : (R : Register) (edits : List Edit) → adds_nothing edits ≡ true → Register.net (after_edits edits R) ≡ R.net
unfolding after_edits
edited_all-net R [] plain = refl
edited_all-net R (edit ∷ edits) plain =
    let (one, others) = and_parts (not (adds edit)) (adds_nothing edits) plain in
    edited_all-net (after_edit edit R) edits others ∙ edited-net edit R (not_false (adds edit) one)

-- and with lists in order the staff and the points
pub edited_all-network : (R : Register) (edits : List Edit) → adds_nothing edits ≡ true → ListsAreInOrder R → KeepsNetwork R (after_edits edits R)
unfolding after_edits
edited_all-network R [] plain h = record { same_net = refl; same_staff = refl; same_points = refl }
edited_all-network R (edit ∷ edits) plain h =
    let (one, others) = and_parts (not (adds edit)) (adds_nothing edits) plain in
    let first = edited-network edit R (not_false (adds edit) one) h in
    let rest = edited_all-network (after_edit edit R) edits others (edited-in_order edit R h) in
    record {
      same_net = edited_all-net R (edit ∷ edits) plain;
      same_staff = rest.same_staff ∙ first.same_staff;
      same_points = rest.same_points ∙ first.same_points;
    }
