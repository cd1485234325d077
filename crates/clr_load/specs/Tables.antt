-- THE TABLES OF A REGISTER: seven lists of rows, each in the order of its key, which is what its
-- first columns say. A row is the list of its values.
use Rattle.std.specs.Prelude.{ℕ, pos, Bool, true, false, List, [], ◌∷◌, ◌++◌, map, codes, Option}
use Rattle.std.specs.Prelude.{None, Some, unwrap_or}
use Rattle.sqlite.specs.Order.{Row}
use Rattle.sqlite.specs.declared.types.Value.{Value}
use Rattle.sqlite.specs.declared.types.Value.TheVariants.{Null, Int, Text}
use Rattle.clr_net.specs.declared.point.PointRow.{PointRow}
use Rattle.clr_net.specs.declared.point.Position.{Position}
use Rattle.clr_net.specs.declared.point.Position.TheVariants.{Opened, Closed}
use Rattle.clr_net.specs.declared.section.SectionRow.{SectionRow}
use Rattle.clr_staff.specs.declared.employee.StaffRow.{StaffRow}
use Rattle.clr_rules.specs.declared.place.Place.{Place}
use Rattle.clr_rules.specs.HoldKind.{hold_kind_text}
use Rattle.clr_rules.specs.Id.{Id}
use Rattle.clr_rules.specs.Phase.{phase_text}
use Rattle.clr_rules.specs.Register.{Register, first_state}
use Rattle.clr_rules.specs.States.{state_of}
use Rattle.clr_rules.specs.declared.hold.Hold.{Hold}
use Rattle.clr_rules.specs.declared.point_state.PointState.{PointState}
use Rattle.clr_rules.specs.declared.record.Record.{Record}
use Rattle.clr_rules.specs.declared.step_row.StepRow.{StepRow}
use Rattle.clr_load.specs.Words.{action_name, role_word, state_name}

pub record Tables : Type 0 where
  -- name; value
  pub meta : List Row
  -- name; source
  pub sections : List Row
  -- name; from_end, to_end, lockable, remote, position, hand_requester, hand_number; in version 2
  -- jumper
  pub points : List Row
  -- name; role, supervisor
  pub staff : List Row
  -- requester, number; holder, work, phase, last_at
  pub clearances : List Row
  -- requester, number, round, ordinal; action, point, state, reader
  pub steps : List Row
  -- kind, place, requester, number
  pub holds : List Row

-- values: a number is an integer, a name a text, no name NULL
abbrev pub number_value : ℕ → Value
number_value n = Int (pos n)

abbrev pub flag_value : Bool → Value
flag_value false = Int (pos 0)
flag_value true = Int (pos 1)

abbrev pub position_value : Position → Value
position_value Opened = Int (pos 0)
position_value Closed = Int (pos 1)

abbrev pub name_or_null : Option (List ℕ) → Value
name_or_null None = Null
name_or_null (Some name) = Text name

-- a clearance in two columns, its requester and its number
abbrev pub id_values : Id → Row
id_values c = Text c.requester ∷ number_value c.number ∷ []

-- the clearance that has a point in hand, or two NULLs
abbrev pub hand_values : Option Id → Row
hand_values None = Null ∷ Null ∷ []
hand_values (Some c) = id_values c

abbrev pub version_row : ℕ → Row
version_row version = Text (codes "version") ∷ number_value version ∷ []

abbrev pub section_row : SectionRow → Row
section_row s = Text s.name ∷ flag_value s.source ∷ []

-- a switching point, as the network has it and as it is now
abbrev pub point_row : PointRow → PointState → Row
point_row p state =
    Text p.name ∷ Text p.from_end ∷ Text p.to_end ∷ flag_value p.lockable ∷ flag_value p.remote
    ∷ position_value state.position ∷ hand_values state.hand

-- the same, with whether it is a jumper
abbrev pub jumper_row : PointRow → PointState → Row
jumper_row p state = point_row p state ++ flag_value p.jumper ∷ []

abbrev pub staff_row : StaffRow → Row
staff_row e = Text e.name ∷ Text (role_word e.role) ∷ name_or_null e.supervisor ∷ []

abbrev pub clearance_row : Record → Row
clearance_row r = id_values r.id ++ Text r.holder ∷ name_or_null r.work ∷ Text (phase_text r.phase)
    ∷ number_value r.last ∷ []

abbrev pub step_row : StepRow → Row
step_row row =
    let step = StepRow.step row in
    id_values row.id
    ++ number_value row.round ∷ number_value row.ordinal ∷ Text (action_name step.action)
    ∷ Text step.point ∷ Text (state_name step.state)
    ∷ name_or_null step.reader ∷ []

abbrev pub hold_row : Hold → Row
hold_row h = Text (hold_kind_text h.kind) ∷ Text h.place ∷ id_values h.id

-- THE PLACE OF A REGISTER IN ITS JOURNAL, the one row of a table of its own, which only a register
-- with a journal has. It is none of the seven lists
abbrev pub place_row : Place → Row
place_row p = Text p.id ∷ number_value p.number ∷ Text p.sum ∷ []

-- A VERSION OF THE TABLES: its number, and how it has a switching point. All else is the same in
-- every version.
pub record Version : Type 0 where
  pub number : ℕ
  pub of_point : PointRow → PointState → Row

abbrev pub version_one : Version
version_one = record { number = 1; of_point = point_row }

abbrev pub version_two : Version
version_two = record { number = 2; of_point = jumper_row }

-- the position of a point. One without a state, which no register that is reached has, is as before
-- the first command
abbrev pub state_at : List PointState → PointRow → PointState
state_at states p = unwrap_or (state_of states p.name) (first_state p)

abbrev pub tables_by : Version → Register → Tables
tables_by version R = record {
  meta = version_row version.number ∷ [];
  sections = map section_row R.net.sections;
  points = map (λ p. version.of_point p (state_at R.states p)) R.net.points;
  staff = map staff_row R.staff;
  clearances = map clearance_row R.records;
  steps = map step_row R.steps;
  holds = map hold_row R.holds;
}

-- the tables of a register, in the version that is written today
abbrev pub tables_of : Register → Tables
tables_of R = tables_by version_two R
