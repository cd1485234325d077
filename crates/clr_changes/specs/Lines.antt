-- THE LINES OF WHAT CHANGES: of the sections, then of the points, then of the staff; of each kind
-- those that go or change, and then those that come, by name.
use Rattle.std.specs.Prelude.{ℕ, Bool, true, false, if◌then◌else◌, List, [], ◌++◌, codes, find}
use Rattle.std.specs.Prelude.{Option, None, Some}
use Rattle.std.specs.List.{flat_map}
use Rattle.clr_net.specs.Name.{same_name}
use Rattle.clr_net.specs.declared.point.PointRow.{PointRow}
use Rattle.clr_net.specs.declared.section.SectionRow.{SectionRow}
use Rattle.clr_staff.specs.declared.employee.Role.{Role}
use Rattle.clr_staff.specs.declared.employee.Role.TheVariants.{Charge, Field, Operator}
use Rattle.clr_staff.specs.declared.employee.StaffRow.{StaffRow}
use Rattle.clr_update.specs.Changes.{Changes}

-- ---- the columns of a row that changes

abbrev pub yes_no : Bool → List ℕ
yes_no true = codes "yes"
yes_no false = codes "no"

abbrev pub role_text : Role → List ℕ
role_text Operator = codes "operator"
role_text Field = codes "field"
role_text Charge = codes "charge"

abbrev pub name_or_none : Option (List ℕ) → List ℕ
name_or_none None = codes "none"
name_or_none (Some name) = name

-- " yes, was no"
abbrev pub was_text : List ℕ → List ℕ → List ℕ
was_text was is = codes " " ++ is ++ codes ", was " ++ was ++ codes "\n"

-- "point S4: lockable yes, was no"
abbrev pub column_line : List ℕ → List ℕ → List ℕ → List ℕ → List ℕ
column_line row column was is = row ++ codes ": " ++ column ++ was_text was is

-- none, where the column has the same text
abbrev pub text_line : List ℕ → List ℕ → List ℕ → List ℕ → List ℕ
text_line row column was is = if same_name was is then [] else column_line row column was is

abbrev pub flag_line : List ℕ → List ℕ → Bool → Bool → List ℕ
flag_line row column was is = text_line row column (yes_no was) (yes_no is)

-- ---- the lines of a kind of rows

-- how rows of a kind are said: "section X9", and the lines of the columns that differ
pub record Said (Row : Type 0) : Type 0 where
  pub name_of : Row → List ℕ
  pub called : Row → List ℕ
  pub columns : Row → Row → List ℕ

-- the row of the same name
abbrev pub namesake : {Row : Type 0} → Said Row → List Row → Row → Option Row
namesake said rows row = find (λ other. same_name (said.name_of other) (said.name_of row)) rows

abbrev pub changed_line : {Row : Type 0} → Said Row → Row → Option Row → List ℕ
changed_line said row None = said.called row ++ codes " goes\n"
changed_line said row (Some is) = said.columns row is

abbrev pub new_line : {Row : Type 0} → Said Row → Row → Option Row → List ℕ
new_line said row None = said.called row ++ codes " comes\n"
new_line said row (Some was) = []

abbrev pub row_lines : {Row : Type 0} → Said Row → List Row → List Row → List ℕ
row_lines said go come =
    flat_map (λ row. changed_line said row (namesake said come row)) go
    ++ flat_map (λ row. new_line said row (namesake said go row)) come

-- ---- the three kinds

abbrev pub section_called : SectionRow → List ℕ
section_called row = codes "section " ++ row.name

abbrev pub section_columns : SectionRow → SectionRow → List ℕ
section_columns was is = flag_line (section_called is) (codes "source") was.source is.source

abbrev pub point_called : PointRow → List ℕ
point_called row = codes "point " ++ row.name

abbrev pub point_columns : PointRow → PointRow → List ℕ
point_columns was is =
    text_line (point_called is) (codes "from") was.from_end is.from_end
    ++ text_line (point_called is) (codes "to") was.to_end is.to_end
    ++ flag_line (point_called is) (codes "lockable") was.lockable is.lockable
    ++ flag_line (point_called is) (codes "remote") was.remote is.remote
    ++ flag_line (point_called is) (codes "jumper") was.jumper is.jumper

abbrev pub employee_called : StaffRow → List ℕ
employee_called row = codes "employee " ++ row.name

abbrev pub employee_columns : StaffRow → StaffRow → List ℕ
employee_columns was is =
    text_line (employee_called is) (codes "role") (role_text was.role) (role_text is.role)
    ++ text_line (employee_called is) (codes "supervisor") (name_or_none was.supervisor)
    (name_or_none is.supervisor)

abbrev pub sections_said : Said SectionRow
sections_said = record {
  name_of = λ row. row.name;
  called = section_called;
  columns = section_columns;
}

abbrev pub points_said : Said PointRow
points_said = record {
  name_of = λ row. row.name;
  called = point_called;
  columns = point_columns;
}

abbrev pub employees_said : Said StaffRow
employees_said = record {
  name_of = λ row. row.name;
  called = employee_called;
  columns = employee_columns;
}

-- ALL LINES
abbrev pub change_lines : Changes → List ℕ
change_lines of =
    row_lines sections_said of.sections_go of.sections_come
    ++ row_lines points_said of.points_go of.points_come
    ++ row_lines employees_said of.staff_goes of.staff_comes
