-- The file of the staff.
use Rattle.std.specs.Prelude.{ℕ, List, [], ◌∷◌, codes, Result, Ok}
use Rattle.clr_csv.specs.declared.columns.ColumnFault.{ColumnFault}
use Rattle.clr_csv.specs.declared.fault.CsvFault.{CsvFault}
use Rattle.clr_staff.specs.declared.employee.StaffRow.{StaffRow}
use Rattle.clr_csv.specs.Columns.{name_in, name_or_none_in, role_in}
use Rattle.clr_net.specs.Results.{◌>>=◌}
use Rattle.clr_csv.specs.Rows.{Fields, rows_of}

abbrev pub staff_header : Fields
staff_header = codes "employee" ∷ codes "role" ∷ codes "supervisor" ∷ []

-- an employee's row
abbrev pub staff_row_in : Fields → Result StaffRow ColumnFault
staff_row_in fields = do
  name ← name_in 1 fields
  role ← role_in 2 fields
  supervisor ← name_or_none_in 3 fields
  Ok (record { name = name; role = role; supervisor = supervisor })

-- the employees of a file, or its first fault
abbrev pub staff_of : List ℕ → Result (List StaffRow) CsvFault
staff_of = rows_of staff_header staff_row_in
