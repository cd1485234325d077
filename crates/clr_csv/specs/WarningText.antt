-- The lines of warnings, one each.
use Rattle.std.specs.Prelude.{ℕ, List, ◌++◌, codes}
use Rattle.std.specs.List.{flat_map}
use Rattle.clr_csv.specs.declared.warning.Names.{Names}
use Rattle.clr_csv.specs.declared.warning.Names.TheVariants.{Employees, Points, Sections}
use Rattle.clr_csv.specs.declared.warning.Warning.{Warning}
use Rattle.clr_csv.specs.declared.warning.Warning.TheVariants.{Alike, NoField, NoOperator}
use Rattle.clr_csv.specs.declared.warning.Warning.TheVariants.{NoSource, NoSupervisor, NotJoined}
use Rattle.clr_csv.specs.declared.warning.Warning.TheVariants.{NotLocked, NotReached}

abbrev pub names_word : Names → List ℕ
names_word Sections = codes "sections "
names_word Points = codes "points "
names_word Employees = codes "employees "

-- a name between two texts
abbrev pub around : List ℕ → List ℕ → List ℕ → List ℕ
around before name after = before ++ name ++ after

abbrev pub pair_line : Names → List ℕ → List ℕ → List ℕ
pair_line of name other =
    names_word of ++ name ++ codes " and " ++ other ++ codes " differ by one letter\n"

abbrev pub warning_line : Warning → List ℕ
warning_line NoSource = codes "no section is a source\n"
warning_line NoOperator = codes "no employee is an operator\n"
warning_line NoField = codes "no employee is a field employee\n"
warning_line (NoSupervisor name) =
    around (codes "employee ") name (codes " may hold a clearance and has no supervisor\n")
warning_line (NotJoined name) = around (codes "section ") name (codes " is joined by no point\n")
warning_line (NotReached name) = around (codes "section ") name (codes " is reached by no source\n")
warning_line (NotLocked name) = around (codes "point ") name (codes " can be locked by nothing\n")
warning_line (Alike of name other) = pair_line of name other

-- THE PRINTED LINES
abbrev pub warning_lines : List Warning → List ℕ
warning_lines warnings = flat_map warning_line warnings
