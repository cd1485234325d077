-- The tables of a register say all that is in it: each value of a row is one of a column.
use Rattle.std.proofs.Common.{◌≡◌, ℕ, ◌+◌, Bool, true, false, nat_eq, List, [], ◌∷◌, ◌++◌, map, Option, Some, None, refl, sym, ◌∙◌, ap}
use Rattle.std.specs.Prelude.{pos, unwrap_or}
use Rattle.sqlite.specs.Order.{Row, column}
use Rattle.sqlite.specs.declared.types.Value.{Value}
use Rattle.sqlite.specs.declared.types.Value.TheVariants.{Int, Text}
use Rattle.clr_net.specs.Grid.{Grid, unplaced}
use Rattle.clr_net.specs.declared.point.PointRow.{PointRow}
use Rattle.clr_net.specs.declared.point.Position.{Position}
use Rattle.clr_net.specs.declared.point.Position.TheVariants.{Opened, Closed}
use Rattle.clr_net.specs.declared.section.SectionRow.{SectionRow}
use Rattle.clr_staff.specs.declared.employee.Role.TheVariants.{Operator}
use Rattle.clr_staff.specs.declared.employee.StaffRow.{StaffRow}
use Rattle.clr_order.specs.declared.action.Action.TheVariants.{Open}
use Rattle.clr_order.specs.declared.step.StepState.TheVariants.{Waiting}
use Rattle.clr_rules.specs.Good.{ListsAreInOrder, NetworkIsUnplaced}
use Rattle.clr_rules.specs.HoldKind.{hold_kind_named}
use Rattle.clr_rules.specs.Id.{Id}
use Rattle.clr_rules.specs.Phase.{phase_named}
use Rattle.clr_rules.specs.Register.{Register}
use Rattle.clr_rules.specs.declared.hold.Hold.{Hold}
use Rattle.clr_rules.specs.declared.hold_kind.HoldKind.TheVariants.{HeldOpen}
use Rattle.clr_rules.specs.declared.phase.Phase.TheVariants.{Requested}
use Rattle.clr_rules.specs.declared.point_state.PointState.{PointState}
use Rattle.clr_rules.specs.declared.record.Record.{Record}
use Rattle.clr_rules.specs.declared.step_row.StepRow.{StepRow}
use Rattle.clr_load.specs.RowsRead.{position_if}
use Rattle.clr_load.specs.TableLaws.{GoodAreToldByTables, SameTablesSameRegister, StatesAreThePoints}
use Rattle.clr_load.specs.Tables.{Tables, clearance_row, flag_value, hand_values, hold_row, jumper_row, name_or_null, position_value, section_row, staff_row, state_at, step_row, tables_of}
use Rattle.clr_load.specs.Words.{action_named, role_worded, state_named}
use Rattle.clr_load.proofs.ColumnsRead.{action_back, kind_back, phase_back, role_back, state_back}
use Rattle.clr_load.proofs.PointStates.{state_from, states_back}

-- ---- what columns say, with something in place of what is not of their type

abbrev text_in : Value → List ℕ
text_in (Text s) = s
text_in _ = []

abbrev number_in : Value → ℕ
number_in (Int (pos n)) = n
number_in _ = 0

abbrev flag_in : Value → Bool
flag_in value = nat_eq (number_in value) 1

abbrev position_in : Value → Position
position_in value = position_if (flag_in value)

abbrev name_in : Value → Option (List ℕ)
name_in (Text s) = Some s
name_in _ = None

abbrev hand_in : Value → Value → Option Id
hand_in (Text requester) number = Some (record { requester = requester; number = number_in number })
hand_in _ number = None

abbrev id_in : ℕ → Row → Id
id_in at row = record { requester = text_in (column row at); number = number_in (column row (at + 1)) }

flag_said : (b : Bool) → flag_in (flag_value b) ≡ b
flag_said true = refl
flag_said false = refl

position_said : (position : Position) → position_in (position_value position) ≡ position
position_said Opened = refl
position_said Closed = refl

name_said : (o : Option (List ℕ)) → name_in (name_or_null o) ≡ o
name_said None = refl
name_said (Some name) = refl

-- with more after it
hand_said : (hand : Option Id) (more : Row) → hand_in (column (hand_values hand ++ more) 0) (column (hand_values hand ++ more) 1) ≡ hand
hand_said None more = refl
hand_said (Some c) more = refl

mark_said : (hand : Option Id) (jumper : Bool) → flag_in (column (hand_values hand ++ flag_value jumper ∷ []) 2) ≡ jumper
mark_said None jumper = flag_said jumper
mark_said (Some c) jumper = flag_said jumper

-- ---- rows

abbrev section_in : Row → SectionRow
section_in row = record { name = text_in (column row 0); source = flag_in (column row 1) }

section_said : (s : SectionRow) → section_in (section_row s) ≡ s
section_said s i = record { name = s.name; source = flag_said s.source i }

abbrev point_in : Row → PointRow
point_in row = record {
  name = text_in (column row 0);
  from_end = text_in (column row 1);
  to_end = text_in (column row 2);
  lockable = flag_in (column row 3);
  remote = flag_in (column row 4);
  position = Opened;
  jumper = flag_in (column row 8);
}

point_said : (p : PointRow) (state : PointState) → point_in (jumper_row p state) ≡ unplaced p
point_said p state i =
    record {
      name = p.name;
      from_end = p.from_end;
      to_end = p.to_end;
      lockable = flag_said p.lockable i;
      remote = flag_said p.remote i;
      position = Opened;
      jumper = mark_said state.hand p.jumper i;
    }

abbrev state_in : Row → PointState
state_in row = record { point = text_in (column row 0); position = position_in (column row 5); hand = hand_in (column row 6) (column row 7) }

state_said : (p : PointRow) (state : PointState) → state_in (jumper_row p state) ≡ record { point = p.name; position = state.position; hand = state.hand }
state_said p state i = record { point = p.name; position = position_said state.position i; hand = hand_said state.hand (flag_value p.jumper ∷ []) i }

abbrev employee_in : Row → StaffRow
employee_in row = record {
  name = text_in (column row 0);
  role = unwrap_or (role_worded (text_in (column row 1))) Operator;
  supervisor = name_in (column row 2);
}

employee_said : (e : StaffRow) → employee_in (staff_row e) ≡ e
employee_said e i = record { name = e.name; role = unwrap_or (role_back e.role i) Operator; supervisor = name_said e.supervisor i }

abbrev record_in : Row → Record
record_in row = record {
  id = id_in 0 row;
  holder = text_in (column row 2);
  work = name_in (column row 3);
  phase = unwrap_or (phase_named (text_in (column row 4))) Requested;
  last = number_in (column row 5);
}

record_said : (r : Record) → record_in (clearance_row r) ≡ r
record_said r i = record { id = r.id; holder = r.holder; work = name_said r.work i; phase = unwrap_or (phase_back r.phase i) Requested; last = r.last }

abbrev step_in : Row → StepRow
step_in row = record {
  id = id_in 0 row;
  round = number_in (column row 2);
  ordinal = number_in (column row 3);
  step = record {
    action = unwrap_or (action_named (text_in (column row 4))) Open;
    point = text_in (column row 5);
    state = unwrap_or (state_named (text_in (column row 6))) Waiting;
    reader = name_in (column row 7);
  };
}

step_said : (row : StepRow) → step_in (step_row row) ≡ row
step_said row i = record {
  id = row.id;
  round = row.round;
  ordinal = row.ordinal;
  step = record {
    action = unwrap_or (action_back row.step.action i) Open;
    point = row.step.point;
    state = unwrap_or (state_back row.step.state i) Waiting;
    reader = name_said row.step.reader i;
  };
}

abbrev hold_in : Row → Hold
hold_in row = record { kind = unwrap_or (hold_kind_named (text_in (column row 0))) HeldOpen; place = text_in (column row 1); id = id_in 2 row }

hold_said : (h : Hold) → hold_in (hold_row h) ≡ h
hold_said h i = record { kind = unwrap_or (kind_back h.kind i) HeldOpen; place = h.place; id = h.id }

-- ---- tables

abbrev register_in : Tables → Register
register_in t = record {
  net = record { sections = map section_in t.sections; points = map point_in t.points };
  staff = map employee_in t.staff;
  states = map state_in t.points;
  records = map record_in t.clearances;
  steps = map step_in t.steps;
  holds = map hold_in t.holds;
}

-- rows that are mapped and mapped back
mapped_to : {X Y Z : Type 0} (g : Y → Z) (f : X → Y) (h : X → Z) → ((x : X) → g (f x) ≡ h x) → (xs : List X) → map g (map f xs) ≡ map h xs
mapped_to g f h same [] = refl
mapped_to g f h same (x ∷ xs) = λ i. same x i ∷ mapped_to g f h same xs i

mapped_back : {X Y : Type 0} (g : Y → X) (f : X → Y) → ((x : X) → g (f x) ≡ x) → (xs : List X) → map g (map f xs) ≡ xs
mapped_back g f same [] = refl
mapped_back g f same (x ∷ xs) = λ i. same x i ∷ mapped_back g f same xs i

pub register_said : (R : Register) → StatesAreThePoints R → ListsAreInOrder R → NetworkIsUnplaced R → register_in (tables_of R) ≡ R
register_said R known ordered placed =
    let row_of = λ (p : PointRow). jumper_row p (state_at R.states p) in
    let sections = mapped_back section_in section_row section_said (Grid.sections R.net) in
    let points = mapped_to point_in row_of unplaced (λ p. point_said p (state_at R.states p)) (Grid.points R.net) ∙ ap Grid.points placed in
    let staff = mapped_back employee_in staff_row employee_said R.staff in
    let states = mapped_to state_in row_of (state_from R.states) (λ p. state_said p (state_at R.states p)) (Grid.points R.net) ∙ states_back R known ordered in
    let records = mapped_back record_in clearance_row record_said R.records in
    let steps = mapped_back step_in step_row step_said R.steps in
    let holds = mapped_back hold_in hold_row hold_said R.holds in
    λ i. record {
      net = record { sections = sections i; points = points i };
      staff = staff i;
      states = states i;
      records = records i;
      steps = steps i;
      holds = holds i;
    }

pub same_tables_same_register : SameTablesSameRegister
same_tables_same_register R S R_told S_told same =
    sym (register_said R R_told.states R_told.in_order R_told.no_positions) ∙ ap register_in same ∙ register_said S S_told.states S_told.in_order S_told.no_positions

pub good_are_told_by_tables : GoodAreToldByTables
good_are_told_by_tables R good = record { states = good.besides.points_known.states; in_order = good.said.in_order; no_positions = good.besides.placed }
