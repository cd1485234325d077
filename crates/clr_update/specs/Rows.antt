-- ROWS THAT ARE THE SAME in each column, as tests.
use Rattle.std.specs.Prelude.{Bool, ◌&&◌, not, if◌then◌else◌}
use Rattle.std.specs.Option.{option_eq}
use Rattle.clr_net.specs.Prelude.{same_name}
use Rattle.clr_staff.specs.declared.employee.Role.{Role}
use Rattle.clr_staff.specs.declared.employee.StaffRow.{StaffRow}
use Rattle.clr_rules.specs.Checks.{is_field, is_operator}
use Rattle.clr_rules.specs.Footprint.{is_shut}
use Rattle.clr_net.specs.declared.point.PointRow.{PointRow}
use Rattle.clr_net.specs.declared.section.SectionRow.{SectionRow}

abbrev pub same_flag : Bool → Bool → Bool
same_flag a b = if a then b else not b

abbrev pub same_section : SectionRow → SectionRow → Bool
same_section a b = same_name a.name b.name && same_flag a.source b.source

abbrev pub same_point : PointRow → PointRow → Bool
same_point a b =
    same_name a.name b.name && (same_name a.from_end b.from_end && (same_name a.to_end b.to_end
    && (same_flag a.lockable b.lockable && (same_flag a.remote b.remote
    && (same_flag (is_shut a.position) (is_shut b.position) && same_flag a.jumper b.jumper)))))

abbrev pub same_role : Role → Role → Bool
same_role a b =
    same_flag (is_operator a) (is_operator b) && same_flag (is_field a) (is_field b)

abbrev pub same_employee : StaffRow → StaffRow → Bool
same_employee a b = same_name a.name b.name
    && (same_role a.role b.role && option_eq same_name a.supervisor b.supervisor)
