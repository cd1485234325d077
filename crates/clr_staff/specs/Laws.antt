-- What the definitions of the staff mean, as laws.
use Rattle.std.specs.Prelude.{◌≡◌, List, None}
use Rattle.clr_staff.specs.Staff.{IsStaffOf, first_fault}
use Rattle.clr_staff.specs.declared.employee.StaffRow.{StaffRow}

-- rows of which there is a staff have no fault
abbrev pub StaffHasNoFault : Type 0
StaffHasNoFault = (rows staff : List StaffRow) → IsStaffOf rows staff → first_fault rows ≡ None
