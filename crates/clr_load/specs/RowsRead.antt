-- WHAT TABLES READ AS: the rows of a register, or the first table with a row that does not read.
use Rattle.std.specs.Prelude.{ℕ, ◌+◌, ℤ, pos, ◌==◌, nat_le, Bool, true, false, if◌then◌else◌, List}
use Rattle.std.specs.Prelude.{[], ◌∷◌, map, find, codes, Option, None, Some, ok_or, Result, Ok, Err}
use Rattle.std.specs.Str.{bytes_eq, is_utf8}
use Rattle.sqlite.specs.Order.{Row, column}
use Rattle.sqlite.specs.declared.types.Value.{Value}
use Rattle.sqlite.specs.declared.types.Value.TheVariants.{Null, Int, Text}
use Rattle.clr_net.specs.NameText.{read_name}
use Rattle.clr_net.specs.declared.name.NameFault.{NameFault}
use Rattle.clr_net.specs.declared.point.PointRow.{PointRow}
use Rattle.clr_net.specs.declared.point.Position.{Position}
use Rattle.clr_net.specs.declared.point.Position.TheVariants.{Opened, Closed}
use Rattle.clr_net.specs.declared.section.SectionRow.{SectionRow}
use Rattle.clr_net.specs.Results.{◌>>=◌}
use Rattle.clr_staff.specs.declared.employee.StaffRow.{StaffRow}
use Rattle.clr_rules.specs.declared.place.Place.{Place}
use Rattle.clr_rules.specs.HoldKind.{hold_kind_named}
use Rattle.clr_rules.specs.Id.{Id, new_id}
use Rattle.clr_rules.specs.Moment.{new_moment}
use Rattle.clr_rules.specs.Phase.{phase_named}
use Rattle.clr_rules.specs.Register.{Register}
use Rattle.clr_rules.specs.declared.hold.Hold.{Hold}
use Rattle.clr_rules.specs.declared.point_state.PointState.{PointState}
use Rattle.clr_rules.specs.declared.record.Record.{Record}
use Rattle.clr_rules.specs.declared.step_row.StepRow.{StepRow}
use Rattle.clr_load.specs.Tables.{Tables, Version, state_at, version_two}
use Rattle.clr_load.specs.Words.{action_named, role_worded, state_named}
use Rattle.clr_load.specs.declared.table_name.TableName.{TableName}
use Rattle.clr_load.specs.declared.table_name.TableName.TheVariants as table

-- ---- columns. A fault is the table of the row that does not read

-- a text
abbrev pub text_of : TableName → Value → Result (List ℕ) TableName
text_of t (Text text) = Ok text
text_of t _ = Err t

-- a number from 0
abbrev pub number_of : TableName → Value → Result ℕ TableName
number_of t (Int (pos n)) = Ok n
number_of t _ = Err t

abbrev pub text_at : TableName → ℕ → Row → Result (List ℕ) TableName
text_at t place row = text_of t (column row place)

-- a text whose bytes are those of characters
abbrev pub utf8_at : TableName → ℕ → Row → Result (List ℕ) TableName
utf8_at t place row = do
  text ← text_at t place row
  if is_utf8 text then Ok text else Err t

abbrev pub number_at : TableName → ℕ → Row → Result ℕ TableName
number_at t place row = number_of t (column row place)

-- a number up to a limit, the greatest of its type
abbrev pub number_within : TableName → ℕ → ℕ → Row → Result ℕ TableName
number_within t limit place row = do
  n ← number_at t place row
  if nat_le n limit then Ok n else Err t

-- a name
abbrev pub name_if_read : TableName → Result (List ℕ) NameFault → Result (List ℕ) TableName
name_if_read t (Ok name) = Ok name
name_if_read t (Err fault) = Err t

abbrev pub name_at : TableName → ℕ → Row → Result (List ℕ) TableName
name_at t place row = do
  text ← text_at t place row
  name_if_read t (read_name text)

-- a name, or none where the column is NULL
abbrev pub name_unless_null : TableName → Value → Result (Option (List ℕ)) TableName
name_unless_null t Null = Ok None
name_unless_null t value = do
  text ← text_of t value
  name ← name_if_read t (read_name text)
  Ok (Some name)

abbrev pub name_or_none_at : TableName → ℕ → Row → Result (Option (List ℕ)) TableName
name_or_none_at t place row = name_unless_null t (column row place)

-- 0 or 1
abbrev pub flag_at : TableName → ℕ → Row → Result Bool TableName
flag_at t place row = do
  n ← number_within t 1 place row
  Ok (n == 1)

-- 0 for open, 1 for closed
abbrev pub position_if : Bool → Position
position_if false = Opened
position_if true = Closed

abbrev pub position_at : TableName → ℕ → Row → Result Position TableName
position_at t place row = do
  closed ← flag_at t place row
  Ok (position_if closed)

-- what the word in a column means
abbrev pub word_at : {A : Type 0} → (List ℕ → Option A) → TableName → ℕ → Row → Result A TableName
word_at named t place row = do
  word ← text_at t place row
  ok_or (named word) t

-- a clearance in two columns
abbrev pub id_at : TableName → ℕ → Row → Result Id TableName
id_at t place row = do
  requester ← name_at t place row
  number ← number_at t (place + 1) row
  ok_or (new_id requester number) t

-- a hand: two NULLs, or a clearance
abbrev pub id_unless_null : TableName → Value → Value → Row → Result (Option Id) TableName
id_unless_null t Null Null row = Ok None
id_unless_null t _ _ row = do
  c ← id_at t 6 row
  Ok (Some c)

abbrev pub hand_at : TableName → Row → Result (Option Id) TableName
hand_at t row = id_unless_null t (column row 6) (column row 7) row

-- ---- rows

unfoldable pub read_section : Row → Result SectionRow TableName
read_section row = do
  name ← name_at table.Section 0 row
  source ← flag_at table.Section 1 row
  Ok (record { name = name; source = source })

-- a switching point with the present position, and its state
pub record PointRead : Type 0 where
  pub point : PointRow
  pub state : PointState

-- the columns of version 1, in the table of this name. No point is a jumper there
unfoldable pub read_placed : TableName → Row → Result PointRead TableName
read_placed t row = do
  name ← name_at t 0 row
  from_end ← name_at t 1 row
  to_end ← name_at t 2 row
  lockable ← flag_at t 3 row
  remote ← flag_at t 4 row
  position ← position_at t 5 row
  hand ← hand_at t row
  Ok (record {
    point = record {
      name = name;
      from_end = from_end;
      to_end = to_end;
      lockable = lockable;
      remote = remote;
      position = position;
      jumper = false;
    };
    state = record { point = name; position = position; hand = hand };
  })

abbrev pub marked : Bool → PointRead → PointRead
marked jumper p = record p { point = record (PointRead.point p) { jumper = jumper } }

-- and whether it is a jumper
unfoldable pub read_point : Row → Result PointRead TableName
read_point row = do
  p ← read_placed table.NetworkPoint row
  jumper ← flag_at table.NetworkPoint 8 row
  Ok (marked jumper p)

unfoldable pub read_staff : Row → Result StaffRow TableName
read_staff row = do
  name ← name_at table.Staff 0 row
  role ← word_at role_worded table.Staff 1 row
  supervisor ← name_or_none_at table.Staff 2 row
  Ok (record { name = name; role = role; supervisor = supervisor })

unfoldable pub read_clearance : Row → Result Record TableName
read_clearance row = do
  id ← id_at table.Clearance 0 row
  holder ← name_at table.Clearance 2 row
  work ← name_or_none_at table.Clearance 3 row
  phase ← word_at phase_named table.Clearance 4 row
  seconds ← number_at table.Clearance 5 row
  last ← ok_or (new_moment seconds) table.Clearance
  Ok (record { id = id; holder = holder; work = work; phase = phase; last = last })

unfoldable pub read_step : Row → Result StepRow TableName
read_step row = do
  id ← id_at table.Step 0 row
  round ← number_within table.Step 255 2 row
  ordinal ← number_within table.Step 65535 3 row
  action ← word_at action_named table.Step 4 row
  point ← name_at table.Step 5 row
  state ← word_at state_named table.Step 6 row
  reader ← name_or_none_at table.Step 7 row
  Ok (record {
    id = id;
    round = round;
    ordinal = ordinal;
    step =
        record { action = action; point = point; state = state; reader = reader };
  })

unfoldable pub read_hold : Row → Result Hold TableName
read_hold row = do
  kind ← word_at hold_kind_named table.Hold 0 row
  place ← name_at table.Hold 1 row
  id ← id_at table.Hold 2 row
  Ok (record { kind = kind; place = place; id = id })

-- the place of a register in its journal
unfoldable pub read_place : Row → Result Place TableName
read_place row = do
  id ← utf8_at table.Journal 0 row
  number ← number_at table.Journal 1 row
  sum ← utf8_at table.Journal 2 row
  Ok (record { id = id; number = number; sum = sum })

-- the same of a register that may have none
abbrev pub place_read : Option Row → Result (Option Place) TableName
place_read None = Ok None
place_read (Some row) = do
  place ← read_place row
  Ok (Some place)

-- ---- tables

-- all rows of a table
unfoldable pub all_read : {A : Type 0} → (Row → Result A TableName) → List Row
    → Result (List A) TableName
all_read read [] = Ok []
all_read read (row ∷ rows) = do
  first ← read row
  rest ← all_read read rows
  Ok (first ∷ rest)

-- the version of the tables: the number in the row of `meta` that is named `version`
abbrev pub integer_of : Value → Result ℤ TableName
integer_of (Int n) = Ok n
integer_of _ = Err table.Meta

abbrev pub is_version_name : Value → Bool
is_version_name (Text name) = bytes_eq name (codes "version")
is_version_name _ = false

abbrev pub version_if_there : Option Row → Result ℤ TableName
version_if_there None = Err table.Meta
version_if_there (Some row) = integer_of (column row 1)

unfoldable pub read_version : List Row → Result ℤ TableName
read_version meta = version_if_there (find (λ row. is_version_name (column row 0)) meta)

-- what the tables say, each list in the order of its key
pub record Rows : Type 0 where
  pub version : ℤ
  pub sections : List SectionRow
  -- the switching points, each with its present position
  pub points : List PointRow
  pub states : List PointState
  pub staff : List StaffRow
  pub records : List Record
  pub steps : List StepRow
  pub holds : List Hold

-- THE ROWS THAT TABLES SAY, where a point reads so; or the first table with a row that does not
-- read
unfoldable pub rows_by : (Row → Result PointRead TableName) → Tables → Result Rows TableName
rows_by read t = do
  version ← read_version t.meta
  sections ← all_read read_section t.sections
  points ← all_read read t.points
  staff ← all_read read_staff t.staff
  records ← all_read read_clearance t.clearances
  steps ← all_read read_step t.steps
  holds ← all_read read_hold t.holds
  Ok (record {
    version = version;
    sections = sections;
    points = map (λ (p : PointRead). p.point) points;
    states = map (λ (p : PointRead). p.state) points;
    staff = staff;
    records = records;
    steps = steps;
    holds = holds;
  })

-- the rows that tables say, in the version that is read today
abbrev pub rows_read : Tables → Result Rows TableName
rows_read t = rows_by read_point t

-- THE ROWS OF A REGISTER, which its tables are to read as
abbrev pub with_its_position : List PointState → PointRow → PointRow
with_its_position states p = record p { position = (state_at states p).position }

abbrev pub rows_of_version : Version → Register → Rows
rows_of_version version R = record {
  version = pos version.number;
  sections = R.net.sections;
  points = map (with_its_position R.states) R.net.points;
  states = R.states;
  staff = R.staff;
  records = R.records;
  steps = R.steps;
  holds = R.holds;
}

abbrev pub rows_of : Register → Rows
rows_of R = rows_of_version version_two R
