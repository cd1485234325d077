-- The logins of a service, of which each row names an employee of the staff.
use Rattle.std.specs.Prelude.{ℕ, ◌+◌, Bool, not, is_some, List, find, position, Option, Some, None}
use Rattle.std.specs.Prelude.{Result, Ok, Err}
use Rattle.clr_net.specs.Name.{same_name}
use Rattle.clr_staff.specs.declared.employee.StaffRow.{StaffRow}
use Rattle.clr_staff.specs.declared.logins.LoginRow.{LoginRow}
use Rattle.clr_edge.specs.declared.fault.Fault.{Fault}
use Rattle.clr_edge.specs.declared.fault.Fault.TheVariants.{UnknownEmployee}

-- a staff has an employee of this name
abbrev pub is_employee : List StaffRow → List ℕ → Bool
is_employee staff name = is_some (find (λ row. same_name name row.name) staff)

-- the rows, or the fault of the row at a place, which is named by its number from 1
abbrev pub unless_unknown : List LoginRow → Option ℕ → Result (List LoginRow) Fault
unless_unknown rows None = Ok rows
unless_unknown rows (Some place) = Err (UnknownEmployee (place + 1))

-- THE LOGINS OF ROWS: all of them, unless there is a row whose employee the staff lacks; of these the
-- first is the fault
abbrev pub known_logins : List StaffRow → List LoginRow → Result (List LoginRow) Fault
known_logins staff rows =
    unless_unknown rows (position (λ row. not (is_employee staff row.employee)) rows)
