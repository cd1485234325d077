-- WHAT COMES OF CHANGES that are said: the update that they say, and what is after it.
use Rattle.std.specs.Prelude.{◌≡◌, Bool, true, false, ◌&&◌, List, Option, None, Some, is_some}
use Rattle.clr_net.specs.Grid.{Grid}
use Rattle.clr_net.specs.Network.{first_fault as network_fault}
use Rattle.clr_rules.specs.Register.{Register}
use Rattle.clr_staff.specs.Staff.{first_fault as staff_fault}
use Rattle.clr_staff.specs.declared.employee.StaffRow.{StaffRow}
use Rattle.clr_update.specs.Changes.{Changes}
use Rattle.clr_update.specs.Delta.{all_there, can_be_made, have_no_fault, network_of, points_left}
use Rattle.clr_update.specs.Delta.{sections_left, staff_left, staff_of, update_of}
use Rattle.clr_changes.specs.Outcome.{IsAfter}
use Rattle.clr_changes.specs.Shown.{as_update}
use Rattle.clr_changes.specs.declared.outcome.After.{After}
use Rattle.clr_changes.specs.declared.update.Update.{Update as Files}

-- the network that changes lead to, if their rows make one with the others
abbrev pub IsNetworkOf : Register → Changes → Option Grid → Type 0
IsNetworkOf R of None = is_some (network_fault (sections_left R of) (points_left R of)) ≡ true
IsNetworkOf R of (Some g) =
    (is_some (network_fault (sections_left R of) (points_left R of)) ≡ false) × (g ≡ network_of R of)

abbrev pub IsStaffOfChanges : Register → Changes → Option (List StaffRow) → Type 0
IsStaffOfChanges R of None = is_some (staff_fault (staff_left R of)) ≡ true
IsStaffOfChanges R of (Some rows) =
    (is_some (staff_fault (staff_left R of)) ≡ false) × (rows ≡ staff_of R of)

-- THE UPDATE THAT CHANGES SAY, if the rows that go are there, and those that come make a network and
-- a staff with the others
abbrev pub IsUpdateOf : Register → Changes → Option Files → Type 0
IsUpdateOf R of None = (all_there R of && have_no_fault R of) ≡ false
IsUpdateOf R of (Some u) =
    ((all_there R of && have_no_fault R of) ≡ true) × (as_update u ≡ update_of R of)

-- WHAT IS AFTER CHANGES, if they can be made
abbrev pub IsMade : Register → Changes → Option After → Type 0
IsMade R of None = can_be_made R of ≡ false
IsMade R of (Some after) = (can_be_made R of ≡ true) × IsAfter R (update_of R of) after
