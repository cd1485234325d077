-- The opening book of a network whose points are put into given states.
use Rattle.std.proofs.Common.{◌≡◌, ◌∙◌, ℕ, true, List, [], ◌∷◌, map, drop, IsTrue, Option, None, Some, refl, sym, ap, subst}
use Rattle.std.specs.List.{list_all}
use Rattle.std.specs.Ordering.{is_lt}
use Rattle.std.specs.declared.cmp.Ordering.TheVariants.{Less, Equal}
use Rattle.std.proofs.lemmas.Bool.{and_parts}
use Rattle.std.proofs.lemmas.Cmp.{nat_list_cmp_total, tied_itself}
use Rattle.clr_staff.specs.declared.employee.StaffRow.{StaffRow}
use Rattle.clr_net.specs.Grid.{Grid, IsNetwork}
use Rattle.clr_net.specs.Name.{name_cmp}
use Rattle.clr_shelf.proofs.FirstRow.{with_row-after, with_row-over}
use Rattle.clr_shelf.proofs.Keys.{less}
use Rattle.clr_shelf.specs.Rows.{in_key_order, row_of}
use Rattle.clr_rules.proofs.good.Opening.{first_keys, in_key_order-from_sorted}
use Rattle.clr_rules.proofs.lists.StateFacts.{state_of-point}
use Rattle.clr_rules.specs.Edits.{after_edit, after_edits}
use Rattle.clr_rules.specs.Register.{Register, first_state, opening}
use Rattle.clr_rules.specs.States.{change_state, changed_state, state_key, state_of}
use Rattle.clr_rules.specs.declared.point_state.PointState.{PointState}
use Rattle.clr_store.specs.Renewed.{AreStatesOf}
use Rattle.clr_load.specs.TypedRows.{IsTyped, is_typed_state}
use Rattle.clr_desk.specs.Filling.{hand_edit, position_edit}

abbrev first_or : {X : Type 0} → X → List X → X
first_or x [] = x
first_or x (y ∷ ys) = y

-- ---- each state of a list changes the state of its point

unfoldable passed : (PointState → PointState → PointState) → List PointState → List PointState → List PointState
passed change [] rows = rows
passed change (s ∷ more) rows = passed change more (change_state rows s.point (change s))

-- that is each row changed by the state at its place, where both are of the same points
abbrev each : (PointState → PointState → PointState) → List PointState → List PointState → List PointState
each change [] rows = rows
each change (s ∷ more) [] = []
each change (s ∷ more) (r ∷ rows) = change s r ∷ each change more rows

module _ (change : PointState → PointState → PointState) (same : (s r : PointState) → PointState.point (change s r) ≡ r.point) where
  found_behind : (first : PointState) (rest : List PointState) (s : PointState) → name_cmp first.point s.point ≡ Less → (found : Option PointState) → state_of rest s.point ≡ found
      → changed_state found (change s) (first ∷ rest) ≡ first ∷ changed_state found (change s) rest
  found_behind first rest s lower None is = refl
  found_behind first rest s lower (Some state) is =
      with_row-after name_cmp state_key nat_list_cmp_total (change s state) first rest (ap (name_cmp first.point) (same s state ∙ state_of-point rest s.point state is) ∙ lower)

  read_behind : (first : PointState) (rest : List PointState) (s : PointState) → name_cmp first.point s.point ≡ Less → state_of (first ∷ rest) s.point ≡ state_of rest s.point
  unfolding row_of
  read_behind first rest s lower = rw lower refl

  change_behind : (first : PointState) (rest : List PointState) (s : PointState) → name_cmp first.point s.point ≡ Less
      → change_state (first ∷ rest) s.point (change s) ≡ first ∷ change_state rest s.point (change s)
  change_behind first rest s lower =
      ap (λ found. changed_state found (change s) (first ∷ rest)) (read_behind first rest s lower) ∙ found_behind first rest s lower (state_of rest s.point) refl

  passed_behind : (first : PointState) (states rest : List PointState) → list_all (λ next. is_lt (name_cmp first.point (state_key next))) states ≡ true
      → passed change states (first ∷ rest) ≡ first ∷ passed change states rest
  unfolding passed
  passed_behind first [] rest above = refl
  passed_behind first (s ∷ states) rest above =
      let parts = and_parts (is_lt (name_cmp first.point s.point)) (list_all (λ next. is_lt (name_cmp first.point (state_key next))) states) above in
      ap (passed change states) (change_behind first rest s (less (name_cmp first.point s.point) parts.0))
      ∙ passed_behind first states (change_state rest s.point (change s)) parts.1

  found_first : (s r : PointState) (rest : List PointState) → name_cmp r.point s.point ≡ Equal → state_of (r ∷ rest) s.point ≡ Some r
  unfolding row_of
  found_first s r rest tied = rw tied refl

  first_changed : (s r : PointState) (rest : List PointState) → s.point ≡ r.point → in_key_order name_cmp state_key (r ∷ rest) ≡ true
      → change_state (r ∷ rest) s.point (change s) ≡ change s r ∷ rest
  first_changed s r rest here ordered =
      let tied : name_cmp r.point s.point ≡ Equal = ap (name_cmp r.point) here ∙ tied_itself nat_list_cmp_total r.point in
      let over : name_cmp r.point (PointState.point (change s r)) ≡ Equal = ap (name_cmp r.point) (same s r) ∙ tied_itself nat_list_cmp_total r.point in
      ap (λ found. changed_state found (change s) (r ∷ rest)) (found_first s r rest tied)
      ∙ with_row-over name_cmp state_key nat_list_cmp_total (change s r) r rest ordered over

  passed_is : (states rows : List PointState) → in_key_order name_cmp state_key states ≡ true → in_key_order name_cmp state_key rows ≡ true
      → map state_key states ≡ map state_key rows → passed change states rows ≡ each change states rows
  unfolding passed
  passed_is [] rows ordered rising keys = refl
  passed_is (s ∷ states) [] ordered rising keys = absurd cc
  passed_is (s ∷ states) (r ∷ rows) ordered rising keys =
      let here : s.point ≡ r.point = ap (first_or []) keys in
      let low = and_parts (list_all (λ next. is_lt (name_cmp s.point (state_key next))) states) (in_key_order name_cmp state_key states) ordered in
      let next = and_parts (list_all (λ next. is_lt (name_cmp r.point (state_key next))) rows) (in_key_order name_cmp state_key rows) rising in
      let above = subst (λ (p : List ℕ). list_all (λ next. is_lt (name_cmp p (state_key next))) states ≡ true) (here ∙ sym (same s r)) low.0 in
      ap (passed change states) (first_changed s r rows here rising)
      ∙ passed_behind (change s r) states rows above
      ∙ ap (λ l. change s r ∷ l) (passed_is states rows low.1 next.1 (ap (drop 1) keys))

-- ---- positions, and then hands

abbrev into_position : PointState → PointState → PointState
into_position s r = record r { position = s.position }

abbrev into_hand : PointState → PointState → PointState
into_hand s r = record r { hand = s.hand }

abbrev positioned : List PointState → List PointState → List PointState
positioned = passed into_position

abbrev handed : List PointState → List PointState → List PointState
handed = passed into_hand

positions_edited : (states : List PointState) (R : Register) → after_edits (map position_edit states) R ≡ record R { states = positioned states R.states }
unfolding after_edits passed
positions_edited [] R = refl
positions_edited (s ∷ states) R = positions_edited states (after_edit (position_edit s) R)

hands_edited : (states : List PointState) (R : Register) → after_edits (map hand_edit states) R ≡ record R { states = handed states R.states }
unfolding after_edits passed
hands_edited [] R = refl
hands_edited (s ∷ states) R = hands_edited states (after_edit (hand_edit s) R)

abbrev in_position : List PointState → List PointState → List PointState
in_position = each into_position

abbrev in_hand : List PointState → List PointState → List PointState
in_hand = each into_hand

keys_stay : (states rows : List PointState) → map state_key (in_position states rows) ≡ map state_key rows
keys_stay [] rows = refl
keys_stay (s ∷ states) [] = refl
keys_stay (s ∷ states) (r ∷ rows) = ap (λ keys. r.point ∷ keys) (keys_stay states rows)

both_are : (states rows : List PointState) → map state_key states ≡ map state_key rows → in_hand states (in_position states rows) ≡ states
both_are [] [] keys = refl
both_are [] (r ∷ rows) keys = absurd cc
both_are (s ∷ states) [] keys = absurd cc
both_are (s ∷ states) (r ∷ rows) keys =
    let here : s.point ≡ r.point = ap (first_or []) keys in
    (λ i. record { point = sym here i; position = s.position; hand = s.hand } ∷ both_are states rows (ap (drop 1) keys) i)

-- the opening register with these states of its points
pub stated : (g : Grid) (staff : List StaffRow) (states : List PointState) → IsNetwork g → AreStatesOf g.points states
    → after_edits (map hand_edit states) (after_edits (map position_edit states) (opening g staff)) ≡ record (opening g staff) { states = states }
stated g staff states net own =
    let rows = map first_state g.points in
    let keys : map state_key states ≡ map state_key rows = own ∙ sym (first_keys g.points) in
    let ordered : in_key_order name_cmp state_key states ≡ true = in_key_order-from_sorted name_cmp state_key states (rw own net.points_rise) in
    let rising : in_key_order name_cmp state_key rows ≡ true = in_key_order-from_sorted name_cmp state_key rows (rw (first_keys g.points) net.points_rise) in
    let between : positioned states rows ≡ in_position states rows = passed_is into_position (λ s r. refl) states rows ordered rising keys in
    let still : map state_key (in_position states rows) ≡ map state_key states = keys_stay states rows ∙ sym keys in
    let rising_still : in_key_order name_cmp state_key (in_position states rows) ≡ true =
    in_key_order-from_sorted name_cmp state_key (in_position states rows) (rw (still ∙ own) net.points_rise) in
    ap (after_edits (map hand_edit states)) (positions_edited states (opening g staff))
    ∙ hands_edited states (record (opening g staff) { states = positioned states rows })
    ∙ ap (λ (l : List PointState). record (opening g staff) { states = l })
    (ap (handed states) between ∙ passed_is into_hand (λ s r. refl) states (in_position states rows) ordered rising_still (sym still) ∙ both_are states rows keys)

pub stated_typed : (g : Grid) (staff : List StaffRow) (states : List PointState) → IsTyped (opening g staff) → IsTrue (list_all is_typed_state states)
    → IsTyped (record (opening g staff) { states = states })
stated_typed g staff states typed all = record {
  sections = typed.sections;
  points = typed.points;
  states = all;
  staff = typed.staff;
  records = typed.records;
  steps = typed.steps;
  holds = typed.holds;
}
