-- VALUES WITHIN THEIR TYPES, where a value is of several lists: networks and staffs.
use Rattle.std.specs.Prelude.{Bool, ◌&&◌, List}
use Rattle.std.specs.List.{list_all}
use Rattle.clr_staff.specs.declared.employee.StaffRow.{StaffRow}
use Rattle.clr_net.specs.Grid.{Grid}
use Rattle.clr_net.specs.Name.{is_name}
use Rattle.clr_order.specs.declared.step.Step.{Step}
use Rattle.clr_load.specs.TypedRows.{is_typed_employee, is_typed_point, is_typed_section}

-- the point of a step is named; how far the step has come is no part of a command
abbrev pub has_typed_point : Step → Bool
has_typed_point s = is_name s.point

abbrev pub is_typed_network : Grid → Bool
is_typed_network g = list_all is_typed_section g.sections && list_all is_typed_point g.points

abbrev pub is_typed_staff : List StaffRow → Bool
is_typed_staff staff = list_all is_typed_employee staff
