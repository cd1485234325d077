-- WHAT THE ROWS OF NETWORK AND STAFF ARE AS JSON VALUES, with all their columns, and how they are
-- read: one JSON object each, its keys in the order of their bytes.
use Rattle.std.specs.Prelude.{ℕ, Bool, true, false, ◌&&◌, List, codes, Option, None, Some}
use Rattle.std.specs.Prelude.{bytes_eq, if◌then◌else◌, option_and_then, option_map}
use Rattle.serde_json.specs.Data.{Data, array, boolean, member, no_members, null, number, object}
use Rattle.serde_json.specs.Data.{string}
use Rattle.serde_json.specs.Find.{as_bool, as_str, get}
use Rattle.clr_net.specs.Name.{is_name}
use Rattle.clr_net.specs.declared.point.PointRow.{PointRow}
use Rattle.clr_net.specs.declared.point.Position.{Position}
use Rattle.clr_net.specs.declared.point.Position.TheVariants.{Closed, Opened}
use Rattle.clr_net.specs.declared.section.SectionRow.{SectionRow}
use Rattle.clr_staff.specs.declared.employee.Role.{Role}
use Rattle.clr_staff.specs.declared.employee.Role.TheVariants.{Charge, Field, Operator}
use Rattle.clr_staff.specs.declared.employee.StaffRow.{StaffRow}
use Rattle.clr_text.specs.Json.{name_data, optional_data, position_text, role_text}
use Rattle.clr_text.specs.Values.{name_in}

-- ---- writing

abbrev pub section_data : SectionRow → Data
section_data row =
    object (member (codes "name") (name_data row.name)
    (member (codes "source") (boolean row.source) no_members))

-- a point that goes, without a position
abbrev pub gone_data : PointRow → Data
gone_data p =
    object (member (codes "from") (name_data p.from_end)
    (member (codes "jumper") (boolean p.jumper)
    (member (codes "lockable") (boolean p.lockable)
    (member (codes "name") (name_data p.name)
    (member (codes "remote") (boolean p.remote)
    (member (codes "to") (name_data p.to_end) no_members))))))

-- a point that comes, in its position
abbrev pub point_data : PointRow → Data
point_data p =
    object (member (codes "from") (name_data p.from_end)
    (member (codes "jumper") (boolean p.jumper)
    (member (codes "lockable") (boolean p.lockable)
    (member (codes "name") (name_data p.name)
    (member (codes "position") (string (position_text p.position))
    (member (codes "remote") (boolean p.remote)
    (member (codes "to") (name_data p.to_end) no_members)))))))

abbrev pub employee_data : StaffRow → Data
employee_data row =
    object (member (codes "name") (name_data row.name)
    (member (codes "role") (string (role_text row.role))
    (member (codes "supervisor") (optional_data name_data row.supervisor) no_members)))

-- ---- reading

-- what the value at a key is read as
abbrev pub at_key : {A : Type 0} → (Data → Option A) → List ℕ → Data → Option A
at_key reading key d = option_and_then reading (get key d)

abbrev pub section_in : Data → Option SectionRow
section_in d =
    option_and_then (λ name. option_map (λ source. record { name = name; source = source })
    (at_key as_bool (codes "source") d))
    (at_key name_in (codes "name") d)

-- the columns of a point but for its position
abbrev pub gone_in : Data → Option PointRow
gone_in d =
    option_and_then (λ name. option_and_then (λ from. option_and_then (λ to.
    option_and_then (λ lockable. option_and_then (λ remote. option_map (λ jumper.
    record {
      name = name;
      from_end = from;
      to_end = to;
      lockable = lockable;
      remote = remote;
      position = Opened;
      jumper = jumper;
    })
    (at_key as_bool (codes "jumper") d))
    (at_key as_bool (codes "remote") d))
    (at_key as_bool (codes "lockable") d))
    (at_key name_in (codes "to") d))
    (at_key name_in (codes "from") d))
    (at_key name_in (codes "name") d)

abbrev pub position_named : List ℕ → Option Position
position_named text =
    if bytes_eq text (codes "open") then Some Opened
    else if bytes_eq text (codes "closed") then Some Closed
    else None

abbrev pub position_in : Data → Option Position
position_in d = option_and_then position_named (as_str d)

abbrev pub placed : Data → PointRow → Option PointRow
placed d p = option_map (λ position. record p { position = position })
    (at_key position_in (codes "position") d)

abbrev pub point_in : Data → Option PointRow
point_in d = option_and_then (placed d) (gone_in d)

abbrev pub role_named : List ℕ → Option Role
role_named text =
    if bytes_eq text (codes "operator") then Some Operator
    else if bytes_eq text (codes "field") then Some Field
    else if bytes_eq text (codes "charge") then Some Charge
    else None

abbrev pub role_in : Data → Option Role
role_in d = option_and_then role_named (as_str d)

-- a name, or null
abbrev pub supervisor_in : Data → Option (Option (List ℕ))
supervisor_in null = Some None
supervisor_in (boolean b) = None
supervisor_in (number n) = None
supervisor_in (string s) = option_map Some (name_in (string s))
supervisor_in (array ds) = None
supervisor_in (object ms) = None

abbrev pub employee_in : Data → Option StaffRow
employee_in d =
    option_and_then (λ name. option_and_then (λ role. option_map (λ supervisor.
    record { name = name; role = role; supervisor = supervisor })
    (at_key supervisor_in (codes "supervisor") d))
    (at_key role_in (codes "role") d))
    (at_key name_in (codes "name") d)

-- ---- which rows a value can say

abbrev pub is_said_section : SectionRow → Bool
is_said_section row = is_name row.name

abbrev pub is_said_point : PointRow → Bool
is_said_point p = is_name p.name && (is_name p.from_end && is_name p.to_end)

abbrev pub is_open : Position → Bool
is_open Opened = true
is_open Closed = false

-- one that goes has no position: as in the network, it is open
abbrev pub is_said_gone : PointRow → Bool
is_said_gone p = is_said_point p && is_open p.position

abbrev pub is_name_or_none : Option (List ℕ) → Bool
is_name_or_none None = true
is_name_or_none (Some name) = is_name name

abbrev pub is_said_employee : StaffRow → Bool
is_said_employee row = is_name row.name && is_name_or_none row.supervisor
