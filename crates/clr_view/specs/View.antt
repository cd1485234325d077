-- THE NETWORK AS A PAGE DRAWS IT, as one JSON object: its switching points, its sections and the
-- staff, each in the order of names. It is a function of the register alone.
use Rattle.std.specs.Prelude.{ℕ, List, codes, filter}
use Rattle.serde_json.specs.Data.{Data, boolean, member, no_members, object, string}
use Rattle.serde_json.specs.Written.{compact_text}
use Rattle.clr_net.specs.declared.point.PointRow.{PointRow}
use Rattle.clr_net.specs.declared.point.Position.{Position}
use Rattle.clr_net.specs.declared.section.SectionRow.{SectionRow}
use Rattle.clr_staff.specs.declared.employee.StaffRow.{StaffRow}
use Rattle.clr_rules.specs.Hold.{is_in_hold_group}
use Rattle.clr_rules.specs.HoldKind.{hold_kind_text}
use Rattle.clr_rules.specs.Live.{is_live}
use Rattle.clr_rules.specs.Register.{Register}
use Rattle.clr_rules.specs.States.{hand_of, position_of}
use Rattle.clr_rules.specs.declared.hold.Hold.{Hold}
use Rattle.clr_rules.specs.declared.hold.HoldGroup.{HoldGroup}
use Rattle.clr_rules.specs.declared.hold.HoldGroup.TheVariants.{AtPoint, AtSection}
use Rattle.clr_text.specs.Json.{id_data, list_data, name_data, optional_data, position_text}
use Rattle.clr_text.specs.Json.{role_text}

-- what holds a place: a clearance, with the kind of its hold
abbrev pub holder_data : Hold → Data
holder_data hold =
    object (member (codes "by") (id_data hold.id)
    (member (codes "kind") (string (hold_kind_text hold.kind)) no_members))

-- the holds of a group, in key order
abbrev pub holders_data : List Hold → HoldGroup → Data
holders_data holds group = list_data holder_data (filter (is_in_hold_group group) holds)

abbrev pub position_data : Position → Data
position_data position = string (position_text position)

-- a switching point: its ends, whose order is at work on it, what holds it, whether it is a jumper,
-- whether it can be locked or is remote, and its position
abbrev pub point_data : Register → PointRow → Data
point_data R p =
    object (member (codes "from") (name_data p.from_end)
    (member (codes "hand") (optional_data id_data (hand_of R.states p.name))
    (member (codes "holds") (holders_data R.holds (AtPoint p.name))
    (member (codes "jumper") (boolean p.jumper)
    (member (codes "lockable") (boolean p.lockable)
    (member (codes "point") (name_data p.name)
    (member (codes "position") (optional_data position_data (position_of R.states p.name))
    (member (codes "remote") (boolean p.remote)
    (member (codes "to") (name_data p.to_end) no_members)))))))))

-- a section: what holds it, whether it is live, and whether a known source feeds it
abbrev pub section_data : Register → SectionRow → Data
section_data R s =
    object (member (codes "holds") (holders_data R.holds (AtSection s.name))
    (member (codes "live") (boolean (is_live R.net R.states s.name))
    (member (codes "section") (name_data s.name)
    (member (codes "source") (boolean s.source) no_members))))

-- an employee
abbrev pub employee_data : StaffRow → Data
employee_data row =
    object (member (codes "employee") (name_data row.name)
    (member (codes "role") (string (role_text row.role))
    (member (codes "supervisor") (optional_data name_data row.supervisor) no_members)))

-- the whole view
abbrev pub network_data : Register → Data
network_data R =
    object (member (codes "points") (list_data (point_data R) R.net.points)
    (member (codes "sections") (list_data (section_data R) R.net.sections)
    (member (codes "staff") (list_data employee_data R.staff) no_members)))

abbrev pub network_text : Register → List ℕ
network_text R = compact_text (network_data R)
