-- The tables of the edited register are the edited tables.
use Rattle.std.proofs.Common.{◌≡◌, ℕ, Bool, true, false, cond, List, [], ◌∷◌, ◌++◌, map, filter, take, Option, Some, None, is_some, All, refl, sym, ◌∙◌, ap}
use Rattle.std.specs.Ordering.{is_eq, is_gt, is_lt}
use Rattle.std.specs.Prelude.{slice_set, unwrap_or}
use Rattle.std.specs.declared.cmp.Ordering.{Ordering}
use Rattle.std.specs.declared.cmp.Ordering.TheVariants.{Less, Equal, Greater}
use Rattle.std.specs.Cmp.Lexicographic.{texts_ties}
use Rattle.std.proofs.lemmas.Cmp.{nat_list_cmp_total, nat_list_eq_equiv}
use Rattle.std.proofs.lemmas.List.{map-append}
use Rattle.std.proofs.lemmas.List.Elements.{All-head, All-tail}
use Rattle.sqlite.specs.Order.{Row, column, row_cmp}
use Rattle.sqlite.specs.declared.types.Value.{Value}
use Rattle.sqlite.specs.declared.types.Value.TheVariants.{Text}
use Rattle.clr_net.specs.Additions.{with_named}
use Rattle.clr_net.specs.Grid.{Grid, point_names, unplaced}
use Rattle.clr_net.specs.Name.{name_cmp, same_name}
use Rattle.clr_net.specs.Names.{has_name}
use Rattle.clr_net.specs.declared.point.PointRow.{PointRow}
use Rattle.clr_net.specs.declared.point.Position.{Position}
use Rattle.clr_shelf.proofs.Reading.{row_of-with, row_of-with_row}
use Rattle.clr_shelf.specs.Rows.{with_row}
use Rattle.clr_rules.specs.laws.Edits.{adds, changed_where}
use Rattle.clr_rules.specs.Edits.{after_edit, after_edits}
use Rattle.clr_rules.specs.Good.{ListsAreInOrder}
use Rattle.clr_rules.specs.Id.{Id}
use Rattle.clr_rules.specs.Register.{Register, first_state}
use Rattle.clr_rules.proofs.lists.StateFacts.{state_is_known, state_there}
use Rattle.clr_rules.specs.States.{change_state, state_key, state_of}
use Rattle.clr_rules.specs.declared.change.Edit.{Edit}
use Rattle.clr_rules.specs.declared.change.Edit.TheVariants.{SetPosition, SetHand, PutHold, TakeHold, PutRecord, PutStep, AddSection, AddPoint}
use Rattle.clr_rules.specs.declared.point_state.PointState.{PointState}
use Rattle.clr_rules.proofs.edits.EditReading.{state_of-changed}
use Rattle.clr_rules.proofs.edits.EditedLists.{edited-in_order, edited_all-network}
use Rattle.clr_rules.proofs.edits.Growing.{states_known}
use Rattle.clr_rules.proofs.lists.NamedRows.{has_name-row}
use Rattle.clr_rules.proofs.lists.RoundSteps.{All-from_each}
use Rattle.clr_load.specs.TableEdits.{added_point, changed_point, handed_row, placed_row, table_edited, tables_edited, with_table_row}
use Rattle.clr_load.specs.TableLaws.{StatesAreThePoints, TablesFollowEdits}
use Rattle.clr_load.specs.Tables.{flag_value, hand_values, jumper_row, position_value, state_at, tables_of}
use Rattle.clr_load.proofs.TableKeys.{clearance_put, hold_put, hold_taken, map-filtered, name_row_cmp, section_put, step_put}

-- ---- points

-- each point of a list has a state
abbrev pub HaveStates : List PointState → List PointRow → Type 0
HaveStates states points = All (λ p. is_some (state_of states p.name) ≡ true) points

pub have_states : (R : Register) → StatesAreThePoints R → HaveStates R.states (Grid.points R.net)
have_states R known = All-from_each (λ (p : PointRow). is_some (state_of R.states p.name) ≡ true) (Grid.points R.net) (λ p there.
    state_is_known R.states p.name ∙ ap (λ names. has_name names p.name) known ∙ has_name-row (λ (p : PointRow). p.name) (Grid.points R.net) p there)

-- the state of a point that has one
pub state_at-found : (states : List PointState) (p : PointRow) (state : PointState) → state_of states p.name ≡ Some state → state_at states p ≡ state
state_at-found states p state found = rw found refl

abbrev point_rows : List PointState → List PointRow → List Row
point_rows states points = map (λ p. jumper_row p (state_at states p)) points

-- the columns of the hand, whatever was there
handed_columns : (a b c : Value) (d e f : Value) (more : Row) (old new : Option Id)
    → slice_set (slice_set (a ∷ b ∷ c ∷ d ∷ e ∷ f ∷ hand_values old ++ more) 6 (column (hand_values new) 0)) 7 (column (hand_values new) 1) ≡ a ∷ b ∷ c ∷ d ∷ e ∷ f ∷ hand_values new ++ more
handed_columns a b c d e f more None None = refl
handed_columns a b c d e f more None (Some new) = refl
handed_columns a b c d e f more (Some old) None = refl
handed_columns a b c d e f more (Some old) (Some new) = refl

-- a state that changes, and its row
module _ (change : PointState → PointState) (row_change : Row → Row) (stays : (state : PointState) → state_key (change state) ≡ state_key state)
    (as_row : (p : PointRow) (state : PointState) → jumper_row p (change state) ≡ row_change (jumper_row p state)) (states : List PointState) (point : List ℕ) where
  one_point : (p : PointRow) → is_some (state_of states p.name) ≡ true
      → jumper_row p (state_at (change_state states point change) p)
      ≡ cond (is_eq (row_cmp (take 1 (jumper_row p (state_at states p))) (Text point ∷ []))) (row_change (jumper_row p (state_at states p))) (jumper_row p (state_at states p))
  one_point p has =
      let (state, found) = state_there (state_of states p.name) has in
      let before : state_at states p ≡ state = state_at-found states p state found in
      let tested : is_eq (row_cmp (take 1 (jumper_row p (state_at states p))) (Text point ∷ [])) ≡ same_name point p.name =
      ap is_eq (name_row_cmp p.name point) ∙ sym (texts_ties p.name point) ∙ nat_list_eq_equiv.symm p.name point in
      let read : state_of (change_state states point change) p.name ≡ changed_where (same_name point p.name) change (Some state) =
      state_of-changed change stays point p.name states ∙ ap (changed_where (same_name point p.name) change) found in
      rw (tested, before) (at state (same_name point p.name) read)
    where
      at : (state : PointState) (b : Bool) → state_of (change_state states point change) p.name ≡ changed_where b change (Some state)
          → jumper_row p (state_at (change_state states point change) p) ≡ cond b (row_change (jumper_row p state)) (jumper_row p state)
      at state true read = ap (jumper_row p) (state_at-found (change_state states point change) p (change state) read) ∙ as_row p state
      at state false read = ap (jumper_row p) (state_at-found (change_state states point change) p state read)

  all_points : (points : List PointRow) → HaveStates states points
      → point_rows (change_state states point change) points ≡ changed_point point row_change (point_rows states points)
  all_points [] have = refl
  all_points (p ∷ points) have =
      let first = one_point p (All-head (λ (p : PointRow). is_some (state_of states p.name) ≡ true) p points have) in
      let rest = all_points points (All-tail (λ (p : PointRow). is_some (state_of states p.name) ≡ true) p points have) in
      λ i. first i ∷ rest i

placed_points : (position : Position) (states : List PointState) (point : List ℕ) (points : List PointRow) → HaveStates states points
    → point_rows (change_state states point (λ state. record state { position = position })) points ≡ changed_point point (placed_row position) (point_rows states points)
placed_points position = all_points (λ state. record state { position = position }) (placed_row position) (λ state. refl) (λ p state. refl)

handed_points : (hand : Option Id) (states : List PointState) (point : List ℕ) (points : List PointRow) → HaveStates states points
    → point_rows (change_state states point (λ state. record state { hand = hand })) points ≡ changed_point point (handed_row hand) (point_rows states points)
handed_points hand = all_points (λ state. record state { hand = hand }) (handed_row hand) (λ state. refl) (λ p state.
    sym (handed_columns (Text p.name) (Text p.from_end) (Text p.to_end) (flag_value p.lockable) (flag_value p.remote) (position_value state.position) (flag_value p.jumper ∷ []) state.hand hand))

-- ---- a point more

not_less : (o : Ordering) → is_lt o ≡ true → is_eq o ≡ false
not_less Less below = refl
not_less Equal below = absurd cc
not_less Greater below = absurd cc

not_greater : (o : Ordering) → is_gt o ≡ true → is_eq o ≡ false
not_greater Less above = absurd cc
not_greater Equal above = absurd cc
not_greater Greater above = refl

-- two maps of what passes a test, where they are the same
same_where : {A B : Type 0} (f g : A → B) (test : A → Bool) → ((x : A) → test x ≡ true → f x ≡ g x) → (xs : List A) → map f (filter test xs) ≡ map g (filter test xs)
same_where f g test same [] = refl
same_where f g test same (x ∷ xs) = at (test x) refl (same_where f g test same xs)
  where
    at : (b : Bool) → test x ≡ b → map f (filter test xs) ≡ map g (filter test xs) → map f (cond b (x ∷ filter test xs) (filter test xs)) ≡ map g (cond b (x ∷ filter test xs) (filter test xs))
    at true is more = λ i. same x is i ∷ more i
    at false is more = more

module _ (state : PointState) (states : List PointState) where
  -- a state that is put leaves the row of each point of another name
  other_row : (q : PointRow) → is_eq (name_cmp q.name state.point) ≡ false → jumper_row q (state_at (with_row name_cmp state_key state states) q) ≡ jumper_row q (state_at states q)
  other_row q differs =
      let apart : is_eq (name_cmp state.point q.name) ≡ false =
      sym (texts_ties state.point q.name) ∙ nat_list_eq_equiv.symm state.point q.name ∙ texts_ties q.name state.point ∙ differs in
      let read : state_of (with_row name_cmp state_key state states) q.name ≡ state_of states q.name =
      row_of-with name_cmp state_key nat_list_cmp_total q.name state states ∙ ap (λ b. cond b (Some state) (state_of states q.name)) apart in
      ap (λ (found : Option PointState). jumper_row q (unwrap_or found (first_state q))) read

module _ (p : PointRow) (states : List PointState) where
  abbrev grown : List PointState
  grown = with_row name_cmp state_key (first_state (unplaced p)) states

  abbrev new_row : PointRow → Row
  new_row q = jumper_row q (state_at grown q)

  abbrev old_row : PointRow → Row
  old_row q = jumper_row q (state_at states q)

  own_row : new_row (unplaced p) ≡ added_point p
  own_row = ap (jumper_row p) (state_at-found grown (unplaced p) (first_state (unplaced p)) (row_of-with_row name_cmp state_key nat_list_cmp_total (first_state (unplaced p)) states))

  -- the rows of the points of names on one side
  beside : (side : Ordering → Bool) → ((o : Ordering) → side o ≡ true → is_eq o ≡ false) → (points : List PointRow)
      → map new_row (filter (λ q. side (name_cmp q.name p.name)) points) ≡ filter (λ row. side (row_cmp (take 1 row) (take 1 (added_point p)))) (map old_row points)
  beside side apart points =
      same_where new_row old_row (λ q. side (name_cmp q.name p.name)) (λ q is. other_row (first_state (unplaced p)) states q (apart (name_cmp q.name p.name) is)) points
      ∙ map-filtered old_row (λ q. side (name_cmp q.name p.name)) (λ row. side (row_cmp (take 1 row) (take 1 (added_point p)))) (λ q. ap side (name_row_cmp q.name p.name)) points

  point_put : (points : List PointRow) → point_rows grown (with_named (λ q. q.name) (unplaced p) points) ≡ with_table_row 1 (added_point p) (point_rows states points)
  unfolding with_named with_row
  point_put points =
      map-append new_row (filter (λ q. is_lt (name_cmp q.name p.name)) points) (unplaced p ∷ filter (λ q. is_gt (name_cmp q.name p.name)) points)
      ∙ (λ i. beside is_lt not_less points i ++ own_row i ∷ beside is_gt not_greater points i)

-- ---- one edit, and all

pub table_follows : (edit : Edit) (R : Register) → StatesAreThePoints R → tables_of (after_edit edit R) ≡ table_edited edit (tables_of R)
table_follows (SetPosition point position) R known = λ i. record (tables_of R) { points = placed_points position R.states point (Grid.points R.net) (have_states R known) i }
table_follows (SetHand point hand) R known = λ i. record (tables_of R) { points = handed_points hand R.states point (Grid.points R.net) (have_states R known) i }
table_follows (PutHold h) R known = λ i. record (tables_of R) { holds = hold_put h R.holds i }
table_follows (TakeHold h) R known = λ i. record (tables_of R) { holds = hold_taken h R.holds i }
table_follows (PutRecord r) R known = λ i. record (tables_of R) { clearances = clearance_put r R.records i }
table_follows (PutStep row) R known = λ i. record (tables_of R) { steps = step_put row R.steps i }
table_follows (AddSection row) R known = λ i. record (tables_of R) { sections = section_put row (Grid.sections R.net) i }
table_follows (AddPoint p) R known = λ i. record (tables_of R) { points = point_put p R.states (Grid.points R.net) i }

-- after an edit the points that have states are those of the network, as before it
pub states_stay : (edit : Edit) (R : Register) → ListsAreInOrder R → StatesAreThePoints R → StatesAreThePoints (after_edit edit R)
unfolding after_edits
states_stay edit R ordered known = at (adds edit) refl
  where
    at : (grows : Bool) → adds edit ≡ grows → StatesAreThePoints (after_edit edit R)
    at true grows = states_known edit R.net R.states grows known
    at false plain =
        let same = edited_all-network R (edit ∷ []) (rw plain refl) ordered in
        same.same_points ∙ known ∙ ap (λ (g : Grid). point_names g.points) (sym same.same_net)

pub tables_follow_edits : TablesFollowEdits
unfolding after_edits tables_edited
tables_follow_edits R [] ordered known = refl
tables_follow_edits R (edit ∷ edits) ordered known =
    tables_follow_edits (after_edit edit R) edits (edited-in_order edit R ordered) (states_stay edit R ordered known) ∙ ap (tables_edited edits) (table_follows edit R known)
