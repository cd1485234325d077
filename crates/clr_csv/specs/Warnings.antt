-- THE WARNINGS about a network and a staff that are accepted, in a fixed order of
-- kinds; within a kind by name.
use Rattle.std.specs.Prelude.{ℕ, Bool, true, false, not, ◌&&◌, if◌then◌else◌, Option, Some, None}
use Rattle.std.specs.Prelude.{List, [], ◌∷◌, ◌++◌, filter, map, is_none}
use Rattle.std.specs.List.{list_any}
use Rattle.clr_net.specs.Fence.{in_fence, touches}
use Rattle.clr_net.specs.Grid.{Grid, point_names, section_names}
use Rattle.clr_net.specs.Name.{same_name}
use Rattle.clr_net.specs.declared.section.SectionRow.{SectionRow}
use Rattle.clr_net.specs.declared.point.PointRow.{PointRow}
use Rattle.clr_staff.specs.Staff.{staff_names}
use Rattle.clr_staff.specs.declared.employee.Role.{Role}
use Rattle.clr_staff.specs.declared.employee.Role.TheVariants.{Charge, Field, Operator}
use Rattle.clr_staff.specs.declared.employee.StaffRow.{StaffRow}
use Rattle.clr_csv.specs.Alike.{differ_by_one_letter}
use Rattle.clr_csv.specs.declared.warning.Names.{Names}
use Rattle.clr_csv.specs.declared.warning.Names.TheVariants.{Employees, Points, Sections}
use Rattle.clr_csv.specs.declared.warning.Warning.{Warning}
use Rattle.clr_csv.specs.declared.warning.Warning.TheVariants.{Alike, NoField, NoOperator}
use Rattle.clr_csv.specs.declared.warning.Warning.TheVariants.{NoSource, NoSupervisor, NotJoined}
use Rattle.clr_csv.specs.declared.warning.Warning.TheVariants.{NotLocked, NotReached}

abbrev pub is_role : Role → Role → Bool
is_role Operator Operator = true
is_role Field Field = true
is_role Charge Charge = true
is_role _ _ = false

-- a holder whom nobody can replace in an emergency
abbrev pub is_unsupervised : StaffRow → Bool
is_unsupervised row = is_role Charge row.role && is_none row.supervisor

-- a point joins the section to another one
abbrev pub is_joined : Grid → List ℕ → Bool
is_joined g s = list_any (touches (same_name s)) g.points

-- a source reaches the section: its fence, without a cut, has it
abbrev pub is_reached : Grid → List ℕ → Bool
is_reached g s = list_any (λ row. row.source && in_fence g row.name [] s) g.sections

-- the pairs of names that differ by one letter, each once
unfoldable pub alike : Names → List (List ℕ) → List Warning
alike of [] = []
alike of (name ∷ later) =
    map (Alike of name) (filter (differ_by_one_letter name) later) ++ alike of later

-- a warning, where nothing rules it out
abbrev pub unless : Bool → Warning → List Warning
unless is_there warning = if is_there then [] else warning ∷ []

-- what is missing from the whole
abbrev pub missing : List SectionRow → List StaffRow → List Warning
missing sections staff =
    unless (list_any (λ row. row.source) sections) NoSource
    ++ unless (list_any (λ row. is_role Operator row.role) staff) NoOperator
    ++ unless (list_any (λ row. is_role Field row.role) staff) NoField

-- the employees who may hold a clearance and have no supervisor
abbrev pub holders : List StaffRow → List Warning
holders staff = map (λ row. NoSupervisor row.name) (filter is_unsupervised staff)

-- the sections that no point joins to another one
abbrev pub apart : Grid → List Warning
apart g = map (λ row. NotJoined row.name) (filter (λ row. not (is_joined g row.name)) g.sections)

-- the sections that no source reaches
abbrev pub unreached : Grid → List Warning
unreached g =
    map (λ row. NotReached row.name) (filter (λ row. not (is_reached g row.name)) g.sections)

-- the points that nothing can lock
abbrev pub unlocked : List PointRow → List Warning
unlocked points = map (λ row. NotLocked row.name) (filter (λ row. not row.lockable) points)

-- ALL WARNINGS
abbrev pub warnings : Grid → List StaffRow → List Warning
warnings g staff =
    missing g.sections staff ++ holders staff
    ++ apart g ++ unreached g ++ unlocked g.points
    ++ alike Sections (section_names g.sections) ++ alike Points (point_names g.points)
    ++ alike Employees (staff_names staff)
