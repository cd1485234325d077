-- What the columns of a row read as.
use Rattle.std.specs.Prelude.{ℕ, ◌-◌, ◌==◌, Bool, true, false, if◌then◌else◌, List, [], ◌∷◌, codes}
use Rattle.std.specs.Prelude.{Option, Some, None, unwrap_or, Result, Ok, Err, ok_or}
use Rattle.std.specs.Cmp.Lexicographic.{pointwise}
use Rattle.csv.specs.Records.{field_at}
use Rattle.clr_staff.specs.Login.{read_login}
use Rattle.clr_net.specs.NameText.{read_name}
use Rattle.clr_net.specs.declared.name.NameFault.{NameFault}
use Rattle.clr_net.specs.declared.point.Position.TheVariants.{Opened, Closed}
use Rattle.clr_staff.specs.declared.employee.Role.{Role}
use Rattle.clr_staff.specs.declared.employee.Role.TheVariants.{Operator, Field, Charge}
use Rattle.clr_csv.specs.declared.columns.ColumnFault.{ColumnFault}
use Rattle.clr_csv.specs.declared.fault.CsvFault.{CsvFault}
use Rattle.clr_csv.specs.declared.fault.CsvFault.TheVariants.{BadName, BadWord}
use Rattle.clr_csv.specs.declared.columns.ColumnFault.TheVariants as column
use Rattle.clr_net.specs.declared.point.Position.{Position}

-- the fault of a column, in this row
abbrev pub fault_in : ℕ → ColumnFault → CsvFault
fault_in row (column.BadName place) = BadName row place
fault_in row (column.BadWord place) = BadWord row place

-- the text of a column, counted from 1. A row has as many columns as its header, so none is missing
-- where this is asked
abbrev pub field_in : ℕ → List (List ℕ) → List ℕ
field_in place fields = unwrap_or (field_at fields (place - 1)) []

-- the name in a column
abbrev pub name_if_read : ℕ → Result (List ℕ) NameFault → Result (List ℕ) ColumnFault
name_if_read place (Ok name) = Ok name
name_if_read place (Err fault) = Err (column.BadName place)

abbrev pub name_in : ℕ → List (List ℕ) → Result (List ℕ) ColumnFault
name_in place fields = name_if_read place (read_name (field_in place fields))

-- the name in a column, or none where the field is empty
abbrev pub some_name : Result (List ℕ) ColumnFault → Result (Option (List ℕ)) ColumnFault
some_name (Ok name) = Ok (Some name)
some_name (Err fault) = Err fault

abbrev pub name_or_none : ℕ → List ℕ → Result (Option (List ℕ)) ColumnFault
name_or_none place [] = Ok None
name_or_none place (b ∷ bytes) = some_name (name_if_read place (read_name (b ∷ bytes)))

abbrev pub name_or_none_in : ℕ → List (List ℕ) → Result (Option (List ℕ)) ColumnFault
name_or_none_in place fields = name_or_none place (field_in place fields)

-- the login in a column
abbrev pub login_in : ℕ → List (List ℕ) → Result (List ℕ) ColumnFault
login_in place fields = ok_or (read_login (field_in place fields)) (column.BadName place)

-- what a word means, of a list of words
abbrev pub meaning_of : {A : Type 0} → List (List ℕ × A) → List ℕ → Option A
meaning_of [] text = None
meaning_of (entry ∷ words) text = if pointwise ◌==◌ text entry.0 then Some entry.1
    else meaning_of words text

-- what the word in a column means
abbrev pub word_in : {A : Type 0} → List (List ℕ × A) → ℕ → List (List ℕ) → Result A ColumnFault
word_in words place fields = ok_or (meaning_of words (field_in place fields)) (column.BadWord place)

abbrev pub yes_no_in : ℕ → List (List ℕ) → Result Bool ColumnFault
yes_no_in = word_in ((codes "yes", true) ∷ (codes "no", false) ∷ [])

abbrev pub position_in : ℕ → List (List ℕ) → Result Position ColumnFault
position_in = word_in ((codes "open", Opened) ∷ (codes "closed", Closed) ∷ [])

abbrev pub role_in : ℕ → List (List ℕ) → Result Role ColumnFault
role_in = word_in ((codes "operator", Operator) ∷ (codes "field", Field) ∷ (codes "charge", Charge)
    ∷ [])
