-- The staff: employees, each of whom may have a supervisor, who is another of them.
use Rattle.std.specs.Prelude.{◌≡◌, ◌≤◌, ◌⊎◌, ℕ, ◌+◌, Bool, true, false, not, nat_lt, if◌then◌else◌}
use Rattle.std.specs.Prelude.{IsTrue, All, List, length, map, position, Option, Some, None, Result}
use Rattle.std.specs.Prelude.{Ok, Err}
use Rattle.std.specs.List.Sorted.{IsPermutation, IsStrictlySortedBy}
use Rattle.clr_net.specs.Name.{name_cmp, same_name}
use Rattle.clr_net.specs.Names.{has_name, repeat_place}
use Rattle.clr_staff.specs.declared.employee.StaffRow.{StaffRow}
use Rattle.clr_staff.specs.declared.staff_fault.StaffFault.{StaffFault}
use Rattle.clr_staff.specs.declared.staff_fault.StaffFault.TheVariants.{Twice, UnknownSupervisor}
use Rattle.clr_staff.specs.declared.staff_fault.StaffFault.TheVariants.{OwnSupervisor, TooMany}
use Rattle.clr_staff.specs.declared.staff_fault.StaffFault.TheVariants.{NoMemory}

abbrev pub staff_names : List StaffRow → List (List ℕ)
staff_names rows = map (λ row. row.name) rows

-- whether a supervisor, if there is one, is among these names
abbrev pub is_known : List (List ℕ) → Option (List ℕ) → Bool
is_known names None = true
is_known names (Some supervisor) = has_name names supervisor

-- whether there is a supervisor, of this name
abbrev pub is_named : List ℕ → Option (List ℕ) → Bool
is_named name None = false
is_named name (Some supervisor) = same_name name supervisor

abbrev pub has_known_supervisor : List (List ℕ) → StaffRow → Bool
has_known_supervisor names row = is_known names row.supervisor

abbrev pub is_own_supervisor : StaffRow → Bool
is_own_supervisor row = is_named row.name row.supervisor

-- the rows are a staff within the limit: at most 2,000 employees, no name twice, and each
-- supervisor is another employee
pub record IsStaff (rows : List StaffRow) : Type 0 where
  pub rows_fit : length rows ≤ 2000
  pub names_rise : IsStrictlySortedBy name_cmp (staff_names rows)
  pub supervisors_known : All (λ row. IsTrue (has_known_supervisor (staff_names rows) row)) rows
  pub supervisors_differ : All (λ row. is_own_supervisor row ≡ false) rows

-- a fault of the row at a place, which is named by its number from 1, otherwise the rest
abbrev pub row_fault : (ℕ → StaffFault) → Option ℕ → Option StaffFault → Option StaffFault
row_fault fault None rest = rest
row_fault fault (Some place) rest = Some (fault (place + 1))

-- a name that comes twice, otherwise the rest
abbrev pub name_fault : List StaffRow → Option StaffFault → Option StaffFault
name_fault rows rest = row_fault Twice (repeat_place (staff_names rows)) rest

-- a supervisor who is none of these names, then one who is the employee, otherwise the rest
abbrev pub supervisor_fault : List (List ℕ) → List StaffRow → Option StaffFault → Option StaffFault
supervisor_fault names rows rest =
    row_fault UnknownSupervisor (position (λ row. not (has_known_supervisor names row)) rows)
    (row_fault OwnSupervisor (position is_own_supervisor rows) rest)

-- the fault of a table that is too large, otherwise the rest
abbrev pub size_fault : List StaffRow → Option StaffFault → Option StaffFault
size_fault rows rest = if nat_lt 2000 (length rows) then Some TooMany else rest

-- the first fault of rows that are to be a staff; of the rows that have it, the least
abbrev pub first_fault : List StaffRow → Option StaffFault
first_fault rows = name_fault rows (supervisor_fault (staff_names rows) rows (size_fault rows None))

-- what a check of one stage answers: nothing, where the first fault is that of the rest; or want
-- of memory, or the first fault
abbrev pub Passes : (Option StaffFault → Option StaffFault) → Result (Unit {0}) StaffFault → Type 0
Passes stage (Ok _) = (rest : Option StaffFault) → stage rest ≡ rest
Passes stage (Err fault) = (fault ≡ NoMemory)
    ⊎ ((rest : Option StaffFault) → stage rest ≡ Some fault)

-- the staff has these rows, in the order of their names
pub record IsStaffOf (rows staff : List StaffRow) : Type 0 where
  pub all_rows : IsPermutation rows staff
  pub is_staff : IsStaff staff

-- what a build of rows answers: their staff where they have no fault, or want of memory or their
-- first fault
abbrev pub Builds : List StaffRow → Result (List StaffRow) StaffFault → Type 0
Builds rows (Ok staff) = (first_fault rows ≡ None) × IsStaffOf rows staff
Builds rows (Err fault) = (fault ≡ NoMemory) ⊎ (first_fault rows ≡ Some fault)
