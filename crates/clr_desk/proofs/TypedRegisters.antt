-- Registers whose values are within their types: opening ones, those that are filled, and those that commands leave.
use Rattle.std.proofs.Common.{◌≡◌, ℕ, Bool, true, List, [], ◌∷◌, map, take, Option, None, Some, IsTrue, subst, sym}
use Rattle.std.specs.List.{list_all}
use Rattle.std.specs.Cmp.{IsTotalOrder}
use Rattle.std.specs.declared.cmp.Ordering.{Ordering}
use Rattle.std.proofs.lemmas.Bool.{and_parts}
use Rattle.std.proofs.lemmas.Cmp.{nat_list_cmp_total}
use Rattle.std.proofs.lemmas.List.Elements.{All-take}
use Rattle.std.proofs.lemmas.List.Sums.{AllPass-from_list_all, list_all-from_AllPass}
use Rattle.clr_staff.specs.declared.employee.StaffRow.{StaffRow}
use Rattle.clr_net.specs.Grid.{Grid}
use Rattle.clr_net.specs.Name.{name_cmp}
use Rattle.clr_shelf.proofs.Groups.{All-with_row}
use Rattle.clr_shelf.specs.Rows.{with_row}
use Rattle.clr_rules.specs.Id.{Id}
use Rattle.clr_rules.specs.Register.{Register, opening}
use Rattle.clr_rules.specs.Run.{after, after_all}
use Rattle.clr_rules.specs.States.{change_state, changed_state, state_key, state_of}
use Rattle.clr_rules.specs.declared.command.Command.{Command}
use Rattle.clr_rules.specs.declared.point_state.PointState.{PointState}
use Rattle.clr_rules.specs.Edits.{after_edits}
use Rattle.clr_load.specs.TypedRows.{IsTyped, is_id_or_none, is_typed_command, is_typed_point, is_typed_section, is_typed_state}
use Rattle.clr_load.proofs.TypedEdits.{commands_keep_typed, openings_are_typed}
use Rattle.clr_desk.specs.Filling.{hand_edit}
use Rattle.clr_desk.specs.Typed.{is_typed_network, is_typed_staff}
use Rattle.clr_desk.proofs.Filled.{hands_edited, set_hands}

pub opening_typed : (g : Grid) (staff : List StaffRow) → IsTrue (is_typed_network g) → IsTrue (is_typed_staff staff) → IsTyped (opening g staff)
opening_typed g staff network employees =
    let parts = and_parts (list_all is_typed_section (Grid.sections g)) (list_all is_typed_point (Grid.points g)) network in
    openings_are_typed g staff parts.0 parts.1 employees

-- ---- rows

-- a row more
pub with_typed : {Key Row : Type 0} (compare : Key → Key → Ordering) (key_of : Row → Key) → IsTotalOrder compare → (typed : Row → Bool) (row : Row) (rows : List Row)
    → typed row ≡ true → list_all typed rows ≡ true → list_all typed (with_row compare key_of row rows) ≡ true
with_typed compare key_of order typed row rows here all =
    list_all-from_AllPass typed (with_row compare key_of row rows)
    (All-with_row compare key_of order (λ row. typed row ≡ true) row rows here (AllPass-from_list_all typed rows all))

changed_typed : (found : Option PointState) (hand : Option Id) (front : List PointState) → is_id_or_none hand ≡ true → list_all is_typed_state front ≡ true
    → list_all is_typed_state (changed_state found (λ s. record s { hand = hand }) front) ≡ true
changed_typed None hand front here before = before
changed_typed (Some state) hand front here before =
    with_typed name_cmp state_key nat_list_cmp_total is_typed_state (record state { hand = hand }) front here before

hands_typed : (states front : List PointState) → list_all is_typed_state states ≡ true → list_all is_typed_state front ≡ true
    → list_all is_typed_state (set_hands states front) ≡ true
unfolding set_hands
hands_typed [] front all before = before
hands_typed (state ∷ states) front all before =
    let parts = and_parts (is_typed_state state) (list_all is_typed_state states) all in
    hands_typed states (change_state front state.point (λ s. record s { hand = state.hand })) parts.1
    (changed_typed (state_of front state.point) state.hand front parts.0 before)

-- each point is put into its hand
pub handed_typed : (states : List PointState) (R : Register) → list_all is_typed_state states ≡ true → IsTyped R → IsTyped (after_edits (map hand_edit states) R)
handed_typed states R hands typed =
    let handed : IsTyped (record R { states = set_hands states R.states }) = record {
      sections = typed.sections;
      points = typed.points;
      states = hands_typed states R.states hands typed.states;
      staff = typed.staff;
      records = typed.records;
      steps = typed.steps;
      holds = typed.holds;
    } in
    subst IsTyped (sym (hands_edited states R)) handed

-- ---- runs

pub run_typed : (R : Register) (commands : List Command) → IsTyped R → list_all is_typed_command commands ≡ true → IsTyped (after_all R commands)
unfolding after_all
run_typed R [] typed all = typed
run_typed R (q ∷ commands) typed all =
    let parts = and_parts (is_typed_command q) (list_all is_typed_command commands) all in
    run_typed (after R q) commands (commands_keep_typed R q typed parts.0) parts.1

pub first_typed : (commands : List Command) (n : ℕ) → list_all is_typed_command commands ≡ true → list_all is_typed_command (take n commands) ≡ true
first_typed commands n all =
    list_all-from_AllPass is_typed_command (take n commands)
    (All-take (λ q. is_typed_command q ≡ true) n commands (AllPass-from_list_all is_typed_command commands all))
