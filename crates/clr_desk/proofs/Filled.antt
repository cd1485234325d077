-- A book that is filled with the rows of a register has this register.
use Rattle.std.proofs.Common.{◌≡◌, ◌∙◌, ℕ, true, false, List, [], ◌∷◌, ◌++◌, map, drop, Option, None, Some, IsTrue, refl, subst, sym, ap}
use Rattle.std.specs.Prelude.{Contains, unwrap_or}
use Rattle.std.specs.List.{AllByRecursion, list_all}
use Rattle.std.specs.List.Sorted.{IsPermutation, IsStrictlySortedBy}
use Rattle.std.specs.Ordering.{is_lt}
use Rattle.std.specs.Cmp.{IsTotalOrder}
use Rattle.std.specs.declared.cmp.Ordering.{Ordering}
use Rattle.std.specs.declared.cmp.Ordering.TheVariants.{Less, Equal}
use Rattle.std.proofs.lemmas.Bool.{and_parts}
use Rattle.std.proofs.lemmas.Cmp.{nat_list_cmp_total, tied_itself}
use Rattle.std.proofs.lemmas.List.{length-map}
use Rattle.std.proofs.lemmas.List.Elements.{All-map}
use Rattle.std.proofs.lemmas.List.Sorted.{IsPermutation-refl}
use Rattle.std.proofs.lemmas.Map.Keys.{sorted_head, sorted_tail}
use Rattle.clr_staff.specs.Staff.{IsStaffOf}
use Rattle.clr_staff.specs.declared.employee.StaffRow.{StaffRow}
use Rattle.clr_staff.specs.declared.staff_fault.StaffFault.{StaffFault}
use Rattle.clr_staff.proofs.StaffFacts.{staff_has_no_fault}
use Rattle.clr_net.proofs.BuildFacts.{network_has_no_fault}
use Rattle.clr_net.specs.Grid.{Grid, IsNetwork, has_ends, has_one_section, point_names, section_names, unplaced}
use Rattle.clr_net.specs.Name.{name_cmp}
use Rattle.clr_net.specs.Network.{IsGridOf}
use Rattle.clr_net.specs.declared.net_fault.NetFault.{NetFault}
use Rattle.clr_net.specs.declared.point.PointRow.{PointRow}
use Rattle.clr_net.specs.declared.section.SectionRow.{SectionRow}
use Rattle.clr_shelf.proofs.FirstRow.{with_row-after, with_row-over}
use Rattle.clr_shelf.proofs.Keys.{less}
use Rattle.clr_shelf.proofs.Lists.{Contains-here, Contains-later}
use Rattle.clr_shelf.proofs.Members.{row_of-member}
use Rattle.clr_shelf.specs.Rows.{in_key_order, row_of, with_row}
use Rattle.clr_shelf.proofs.SameRows.{same_from_permutation}
use Rattle.clr_rules.specs.Edits.{after_edit, after_edits}
use Rattle.clr_rules.specs.Good.{IsGood}
use Rattle.clr_rules.specs.Hold.{hold_cmp, hold_cmp_total}
use Rattle.clr_rules.specs.Holds.{hold_key}
use Rattle.clr_rules.specs.Id.{Id, id_cmp, id_cmp_total}
use Rattle.clr_rules.specs.Records.{record_key}
use Rattle.clr_rules.specs.Register.{Register, first_state, opening}
use Rattle.clr_rules.proofs.lists.StateFacts.{state_of-point}
use Rattle.clr_rules.specs.States.{change_state, changed_state, state_key, state_of}
use Rattle.clr_rules.specs.StepKey.{step_key, step_key_cmp, step_key_cmp_total}
use Rattle.clr_rules.specs.declared.change.Edit.{Edit}
use Rattle.clr_rules.specs.declared.change.Edit.TheVariants.{PutHold, PutRecord, PutStep}
use Rattle.clr_rules.specs.declared.hold.Hold.{Hold}
use Rattle.clr_rules.specs.declared.point_state.PointState.{PointState}
use Rattle.clr_rules.specs.declared.record.Record.{Record}
use Rattle.clr_rules.specs.declared.step_row.StepRow.{StepRow}
use Rattle.clr_desk.specs.Shelving.{put_all, shelved}
use Rattle.clr_load.specs.RowsRead.{Rows, with_its_position}
use Rattle.clr_load.specs.Tables.{state_at}
use Rattle.clr_desk.specs.Filling.{filling, grid_now, hand_edit}
use Rattle.clr_desk.specs.Opening.{IsRegisterOf, OpensAgain, bad_network, bad_staff}

abbrev first_or : {X : Type 0} → X → List X → X
first_or x [] = x
first_or x (y ∷ ys) = y

-- a point in nobody's hand
abbrev pub unhanded : PointState → PointState
unhanded state = record state { hand = None }

-- ---- rows put one after the other, in the order of their keys, are those rows

module _ {Key Row : Type 0} (compare : Key → Key → Ordering) (key_of : Row → Key) (order : IsTotalOrder compare) where
  -- rows above the first are put after it
  put_behind : (first : Row) (rows front : List Row) → list_all (λ next. is_lt (compare (key_of first) (key_of next))) rows ≡ true
      → put_all compare key_of rows (first ∷ front) ≡ first ∷ put_all compare key_of rows front
  unfolding put_all
  put_behind first [] front above = refl
  put_behind first (row ∷ rows) front above =
      let parts = and_parts (is_lt (compare (key_of first) (key_of row))) (list_all (λ next. is_lt (compare (key_of first) (key_of next))) rows) above in
      ap (put_all compare key_of rows) (with_row-after compare key_of order row first front (less (compare (key_of first) (key_of row)) parts.0))
      ∙ put_behind first rows (with_row compare key_of row front) parts.1

  pub put_into_none : (rows : List Row) → in_key_order compare key_of rows ≡ true → put_all compare key_of rows [] ≡ rows
  unfolding put_all with_row
  put_into_none [] ordered = refl
  put_into_none (row ∷ rows) ordered =
      let parts = and_parts (list_all (λ next. is_lt (compare (key_of row) (key_of next))) rows) (in_key_order compare key_of rows) ordered in
      put_behind row rows [] parts.0 ∙ ap (λ l. row ∷ l) (put_into_none rows parts.1)

-- ---- hands

unfoldable pub set_hands : List PointState → List PointState → List PointState
set_hands [] states = states
set_hands (state ∷ more) states = set_hands more (change_state states state.point (λ s. record s { hand = state.hand }))

-- a change at a point above the first leaves the first
module _ (first : PointState) (rest : List PointState) (p : List ℕ) (lower : name_cmp first.point p ≡ Less) (hand : Option Id) where
  change_found : (found : Option PointState) → state_of rest p ≡ found
      → changed_state found (λ s. record s { hand = hand }) (first ∷ rest) ≡ first ∷ changed_state found (λ s. record s { hand = hand }) rest
  change_found None is = refl
  change_found (Some state) is =
      with_row-after name_cmp state_key nat_list_cmp_total (record state { hand = hand }) first rest (ap (name_cmp first.point) (state_of-point rest p state is) ∙ lower)

  read_behind : state_of (first ∷ rest) p ≡ state_of rest p
  unfolding row_of
  read_behind = rw lower refl

  change_behind : change_state (first ∷ rest) p (λ s. record s { hand = hand }) ≡ first ∷ change_state rest p (λ s. record s { hand = hand })
  change_behind =
      ap (λ found. changed_state found (λ s. record s { hand = hand }) (first ∷ rest)) read_behind ∙ change_found (state_of rest p) refl

set_behind : (first : PointState) (states rest : List PointState) → list_all (λ next. is_lt (name_cmp first.point (state_key next))) states ≡ true
    → set_hands states (first ∷ rest) ≡ first ∷ set_hands states rest
unfolding set_hands
set_behind first [] rest above = refl
set_behind first (state ∷ states) rest above =
    let parts = and_parts (is_lt (name_cmp first.point state.point)) (list_all (λ next. is_lt (name_cmp first.point (state_key next))) states) above in
    ap (set_hands states) (change_behind first rest state.point (less (name_cmp first.point state.point) parts.0) state.hand)
    ∙ set_behind first states (change_state rest state.point (λ s. record s { hand = state.hand })) parts.1

unhanded_above : (p : List ℕ) (states : List PointState)
    → list_all (λ next. is_lt (name_cmp p (state_key next))) (map unhanded states) ≡ list_all (λ next. is_lt (name_cmp p (state_key next))) states
unhanded_above p [] = refl
unhanded_above p (state ∷ states) = rw (unhanded_above p states) refl

unhanded_in_order : (states : List PointState) → in_key_order name_cmp state_key (map unhanded states) ≡ in_key_order name_cmp state_key states
unhanded_in_order [] = refl
unhanded_in_order (state ∷ states) = rw (unhanded_above state.point states, unhanded_in_order states) refl

-- the first point is put into its hand
found_first : (first : PointState) (rest : List PointState) → name_cmp first.point first.point ≡ Equal → state_of (first ∷ rest) first.point ≡ Some first
unfolding row_of
found_first first rest tied = rw tied refl

first_set : (state : PointState) (rest : List PointState) → in_key_order name_cmp state_key (unhanded state ∷ rest) ≡ true
    → change_state (unhanded state ∷ rest) state.point (λ s. record s { hand = state.hand }) ≡ state ∷ rest
first_set state rest ordered =
    let tied : name_cmp state.point state.point ≡ Equal = tied_itself nat_list_cmp_total state.point in
    ap (λ found. changed_state found (λ s. record s { hand = state.hand }) (unhanded state ∷ rest)) (found_first (unhanded state) rest tied)
    ∙ with_row-over name_cmp state_key nat_list_cmp_total state (unhanded state) rest ordered tied

pub hands_are : (states : List PointState) → in_key_order name_cmp state_key states ≡ true → set_hands states (map unhanded states) ≡ states
unfolding set_hands
hands_are [] ordered = refl
hands_are (state ∷ states) ordered =
    let parts = and_parts (list_all (λ next. is_lt (name_cmp state.point (state_key next))) states) (in_key_order name_cmp state_key states) ordered in
    ap (set_hands states) (first_set state (map unhanded states) (unhanded_in_order (state ∷ states) ∙ ordered))
    ∙ set_behind state states (map unhanded states) parts.0
    ∙ ap (λ l. state ∷ l) (hands_are states parts.1)

-- ---- the edits of each kind

edited_all-append : (front back : List Edit) (R : Register) → after_edits (front ++ back) R ≡ after_edits back (after_edits front R)
unfolding after_edits
edited_all-append [] back R = refl
edited_all-append (edit ∷ front) back R = edited_all-append front back (after_edit edit R)

pub hands_edited : (states : List PointState) (R : Register) → after_edits (map hand_edit states) R ≡ record R { states = set_hands states R.states }
unfolding after_edits set_hands
hands_edited [] R = refl
hands_edited (state ∷ states) R = hands_edited states (after_edit (hand_edit state) R)

holds_edited : (holds : List Hold) (R : Register) → after_edits (map PutHold holds) R ≡ record R { holds = put_all hold_cmp hold_key holds R.holds }
unfolding after_edits put_all
holds_edited [] R = refl
holds_edited (h ∷ holds) R = holds_edited holds (after_edit (PutHold h) R)

records_edited : (records : List Record) (R : Register) → after_edits (map PutRecord records) R ≡ record R { records = put_all id_cmp record_key records R.records }
unfolding after_edits put_all
records_edited [] R = refl
records_edited (r ∷ records) R = records_edited records (after_edit (PutRecord r) R)

steps_edited : (steps : List StepRow) (R : Register) → after_edits (map PutStep steps) R ≡ record R { steps = put_all step_key_cmp step_key steps R.steps }
unfolding after_edits put_all
steps_edited [] R = refl
steps_edited (row ∷ steps) R = steps_edited steps (after_edit (PutStep row) R)

pub all_edited : (states : List PointState) (holds : List Hold) (records : List Record) (steps : List StepRow) (R : Register)
    → after_edits (filling states holds records steps) R
    ≡ record R {
      states = set_hands states R.states;
      holds = put_all hold_cmp hold_key holds R.holds;
      records = put_all id_cmp record_key records R.records;
      steps = put_all step_key_cmp step_key steps R.steps;
    }
all_edited states holds records steps R =
    edited_all-append (map hand_edit states ++ map PutHold holds ++ map PutRecord records) (map PutStep steps) R
    ∙ ap (after_edits (map PutStep steps)) (edited_all-append (map hand_edit states ++ map PutHold holds) (map PutRecord records) R
    ∙ ap (after_edits (map PutRecord records)) (edited_all-append (map hand_edit states) (map PutHold holds) R
    ∙ ap (after_edits (map PutHold holds)) (hands_edited states R)
    ∙ holds_edited holds _)
    ∙ records_edited records _)
    ∙ steps_edited steps _

-- where hands are set, and shelves that took the other rows are taken in, the register is that which is filled
pub shelves_fill : (states : List PointState) (holds : List Hold) (records : List Record) (steps : List StepRow) (g : Grid) (staff : List StaffRow)
    (handed R : Register) (record_shelf : List Record) (step_shelf : List StepRow) (hold_shelf : List Hold)
    → handed ≡ after_edits (map hand_edit states) (opening g staff)
    → R ≡ record handed { records = record_shelf; steps = step_shelf; holds = hold_shelf }
    → record_shelf ≡ shelved id_cmp record_key records → step_shelf ≡ shelved step_key_cmp step_key steps → hold_shelf ≡ shelved hold_cmp hold_key holds
    → R ≡ after_edits (filling states holds records steps) (opening g staff)
shelves_fill states holds records steps g staff handed R record_shelf step_shelf hold_shelf hands taken of_records of_steps of_holds =
    let set : handed ≡ record (opening g staff) { states = set_hands states (map first_state (Grid.points g)) } = hands ∙ hands_edited states (opening g staff) in
    taken
    ∙ (λ i. record (set i) { records = of_records i; steps = of_steps i; holds = of_holds i })
    ∙ sym (all_edited states holds records steps (opening g staff))

-- and it is that of the rows
pub register_of : (rows : Rows) (sections : List SectionRow) (points : List PointRow) (states : List PointState) (employees : List StaffRow)
    (record_shelf : List Record) (step_shelf : List StepRow) (hold_shelf : List Hold) (handed R : Register)
    → sections ≡ rows.sections → points ≡ rows.points → states ≡ rows.states → employees ≡ rows.staff
    → record_shelf ≡ shelved id_cmp record_key rows.records → step_shelf ≡ shelved step_key_cmp step_key rows.steps
    → hold_shelf ≡ shelved hold_cmp hold_key rows.holds
    → (g : Grid) × (staff : List StaffRow) × IsGridOf sections points g × IsStaffOf employees staff × (handed ≡ after_edits (map hand_edit states) (opening g staff))
    → R ≡ record handed { records = record_shelf; steps = step_shelf; holds = hold_shelf }
    → IsRegisterOf rows R
register_of rows sections points states employees record_shelf step_shelf hold_shelf handed R
    same_sections same_points same_states same_staff of_records of_steps of_holds (g, staff, grid, are, hands) taken = record {
      grid = g;
      staff = staff;
      network =
          subst (λ (l : List PointRow). IsGridOf rows.sections l g) same_points
          (subst (λ (l : List SectionRow). IsGridOf l points g) same_sections grid);
      employees = subst (λ (l : List StaffRow). IsStaffOf l staff) same_staff are;
      filled =
          shelves_fill rows.states rows.holds rows.records rows.steps g staff handed R record_shelf step_shelf hold_shelf
          (hands ∙ ap (λ (l : List PointState). after_edits (map hand_edit l) (opening g staff)) same_states) taken of_records of_steps of_holds;
    }

-- ---- the network with the positions of a register

-- each state is read at its point
each_read : (all states : List PointState) → ((state : PointState) → Contains states state → Contains all state)
    → in_key_order name_cmp state_key all ≡ true → AllByRecursion (λ (state : PointState). state_of all state.point ≡ Some state) states
each_read all [] among ordered = tt
each_read all (state ∷ states) among ordered = (
  row_of-member name_cmp state_key nat_list_cmp_total state all ordered (among state (Contains-here state states)),
  each_read all states (λ later h. among later (Contains-later state later states h)) ordered,
)

firsts_are : (all states : List PointState) (points : List PointRow) → map state_key states ≡ point_names points
    → AllByRecursion (λ (state : PointState). state_of all state.point ≡ Some state) states
    → map first_state (map (with_its_position all) points) ≡ map unhanded states
firsts_are all [] [] same read = refl
firsts_are all [] (p ∷ points) same read = cc
firsts_are all (state ∷ states) [] same read = cc
firsts_are all (state ∷ states) (p ∷ points) same read =
    let name : state.point ≡ p.name = ap (first_or []) same in
    let here : state_at all p ≡ state = ap (λ found. unwrap_or found (first_state p)) (ap (state_of all) (sym name) ∙ read.0) in
    (λ i. record { point = sym name i; position = PointState.position (here i); hand = None } ∷ firsts_are all states points (ap (drop 1) same) read.1 i)

placed_names : (all : List PointState) (points : List PointRow) → point_names (map (with_its_position all) points) ≡ point_names points
placed_names all [] = refl
placed_names all (p ∷ points) = ap (λ names. p.name ∷ names) (placed_names all points)

unplaced_placed : (all : List PointState) (points : List PointRow) → map unplaced (map (with_its_position all) points) ≡ map unplaced points
unplaced_placed all [] = refl
unplaced_placed all (p ∷ points) = ap (λ l. unplaced p ∷ l) (unplaced_placed all points)

pub opening_now : (R : Register) → IsGood R
    → opening (grid_now R) R.staff ≡ record { net = R.net; staff = R.staff; states = map unhanded R.states; records = []; steps = []; holds = [] }
opening_now R good =
    let all = R.states in
    let points = Grid.points R.net in
    let read = each_read all all (λ state h. h) good.said.in_order.states in
    (λ i. record {
      net = (ap (λ (l : List PointRow). record { sections = Grid.sections R.net; points = l }) (unplaced_placed all points) ∙ good.besides.placed) i;
      staff = R.staff;
      states = firsts_are all all points good.besides.points_known.states read i;
      records = [];
      steps = [];
      holds = [];
    })

-- ---- the rows of a good register

-- what the edits make of the opening register of its network
pub filled : (R : Register) → IsGood R → after_edits (filling R.states R.holds R.records R.steps) (opening (grid_now R) R.staff) ≡ R
filled R good =
    ap (after_edits (filling R.states R.holds R.records R.steps)) (opening_now R good)
    ∙ all_edited R.states R.holds R.records R.steps _
    ∙ (λ i. record {
      net = R.net;
      staff = R.staff;
      states = hands_are R.states good.said.in_order.states i;
      holds = put_into_none hold_cmp hold_key hold_cmp_total R.holds good.said.in_order.holds i;
      records = put_into_none id_cmp record_key id_cmp_total R.records good.said.in_order.records i;
      steps = put_into_none step_key_cmp step_key step_key_cmp_total R.steps good.said.in_order.steps i;
    })

-- its network stays one
pub now_is_network : (R : Register) → IsNetwork R.net → IsNetwork (grid_now R)
now_is_network R net = record {
  some_section = net.some_section;
  sections_fit = net.sections_fit;
  points_fit = rw (length-map (Grid.points R.net) (with_its_position R.states)) net.points_fit;
  sections_rise = net.sections_rise;
  points_rise = rw (placed_names R.states (Grid.points R.net)) net.points_rise;
  ends_known = All-map (λ (p : PointRow). IsTrue (has_ends (section_names (Grid.sections R.net)) p)) (with_its_position R.states) (Grid.points R.net) net.ends_known;
  ends_differ = All-map (λ (p : PointRow). has_one_section p ≡ false) (with_its_position R.states) (Grid.points R.net) net.ends_differ;
}

-- rows in the order of their names, and the same rows in that order, are one list
module _ {Row : Type 0} (name_of : Row → List ℕ) where
  all_above : (row : Row) (rest : List Row) → AllByRecursion (λ name. name_cmp (name_of row) name ≡ Less) (map name_of rest)
      → list_all (λ next. is_lt (name_cmp (name_of row) (name_of next))) rest ≡ true
  all_above row [] all = refl
  all_above row (next ∷ rest) all = rw (all.0, all_above row rest all.1) refl

  in_order : (rows : List Row) → IsStrictlySortedBy name_cmp (map name_of rows) → in_key_order name_cmp name_of rows ≡ true
  in_order [] rising = refl
  in_order (row ∷ rows) rising =
      rw (all_above row rows (sorted_head name_cmp (name_of row) (map name_of rows) rising), in_order rows (sorted_tail name_cmp (name_of row) (map name_of rows) rising)) refl

  pub one_list : (rows sorted : List Row) → IsPermutation rows sorted → IsStrictlySortedBy name_cmp (map name_of rows)
      → IsStrictlySortedBy name_cmp (map name_of sorted) → sorted ≡ rows
  one_list rows sorted same rising rising_too =
      sym (same_from_permutation name_cmp name_of nat_list_cmp_total rows sorted (in_order rows rising) (in_order sorted rising_too) same)

no_bad_table : (sections : List SectionRow) (network : Option NetFault) (staff : Option StaffFault) → network ≡ None → staff ≡ None
    → bad_network sections network (bad_staff staff) ≡ None
no_bad_table sections network staff none no_one = rw (none, no_one) refl

pub opens_again : (R : Register) → IsGood R → OpensAgain R
opens_again R good = record {
  register = λ S built.
      let net = built.network.network in
      let sections : Grid.sections built.grid ≡ Grid.sections R.net =
      one_list (λ (row : SectionRow). row.name) (Grid.sections R.net) (Grid.sections built.grid) built.network.all_sections good.said.network.sections_rise net.sections_rise in
      let points : Grid.points built.grid ≡ Grid.points (grid_now R) =
      one_list (λ (row : PointRow). row.name) (Grid.points (grid_now R)) (Grid.points built.grid) built.network.all_points (now_is_network R good.said.network).points_rise net.points_rise in
      let staff : built.staff ≡ R.staff =
      one_list (λ (row : StaffRow). row.name) R.staff built.staff built.employees.all_rows good.said.staff.names_rise built.employees.is_staff.names_rise in
      built.filled
      ∙ (λ i. after_edits (filling R.states R.holds R.records R.steps) (opening (record { sections = sections i; points = points i }) (staff i)))
      ∙ filled R good;
  no_fault =
      no_bad_table (Grid.sections R.net) _ _
      (network_has_no_fault (Grid.sections R.net) (Grid.points (grid_now R)) (grid_now R) (record { all_sections = IsPermutation-refl _; all_points = IsPermutation-refl _; network = now_is_network R good.said.network }))
      (staff_has_no_fault R.staff R.staff (record { all_rows = IsPermutation-refl _; is_staff = good.said.staff }));
}
