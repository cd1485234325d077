-- The file of logins: who may speak for whom.
use Rattle.std.specs.Prelude.{ℕ, List, [], ◌∷◌, codes, Result, Ok}
use Rattle.clr_csv.specs.declared.columns.ColumnFault.{ColumnFault}
use Rattle.clr_csv.specs.declared.fault.CsvFault.{CsvFault}
use Rattle.clr_csv.specs.Columns.{login_in, name_in}
use Rattle.clr_staff.specs.declared.logins.LoginRow.{LoginRow}
use Rattle.clr_net.specs.Results.{◌>>=◌}
use Rattle.clr_csv.specs.Rows.{Fields, rows_of}

abbrev pub logins_header : Fields
logins_header = codes "login" ∷ codes "employee" ∷ []

-- a login's row
abbrev pub login_row_in : Fields → Result LoginRow ColumnFault
login_row_in fields = do
  login ← login_in 1 fields
  employee ← name_in 2 fields
  Ok (record { login = login; employee = employee })

-- the logins of a file, or its first fault
abbrev pub logins_of : List ℕ → Result (List LoginRow) CsvFault
logins_of = rows_of logins_header login_row_in
