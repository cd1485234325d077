-- OPENING A DESK: the register of loaded rows, and the table that is at fault where they have none.
use Rattle.std.specs.Prelude.{◌≡◌, ◌⊎◌, nat_lt, if◌then◌else◌, List, length, Option, None, Some}
use Rattle.std.specs.Prelude.{Result, Ok, Err, ⊤}
use Rattle.clr_staff.specs.Staff.{IsStaffOf, first_fault as staff_fault}
use Rattle.clr_staff.specs.declared.employee.StaffRow.{StaffRow}
use Rattle.clr_staff.specs.declared.staff_fault.StaffFault.{StaffFault}
use Rattle.clr_net.specs.Grid.{Grid}
use Rattle.clr_net.specs.Network.{IsGridOf, first_fault as network_fault}
use Rattle.clr_net.specs.declared.net_fault.NetFault.{NetFault}
use Rattle.clr_net.specs.declared.net_fault.NetFault.TheVariants.{NoSections, TooLarge}
use Rattle.clr_net.specs.declared.net_fault.NetFault.TheVariants.{SectionTwice, PointTwice}
use Rattle.clr_net.specs.declared.net_fault.NetFault.TheVariants.{UnknownEnd, SameEnds}
use Rattle.clr_net.specs.declared.net_fault.NetFault.TheVariants.{NoMemory as NoMemoryThere}
use Rattle.clr_net.specs.declared.section.SectionRow.{SectionRow}
use Rattle.clr_rules.specs.Edits.{after_edits}
use Rattle.clr_rules.specs.Good.{IsGood}
use Rattle.clr_rules.specs.Register.{Register, opening}
use Rattle.clr_load.specs.RowsRead.{Rows, rows_of}
use Rattle.clr_load.specs.declared.table_name.TableName.{TableName}
use Rattle.clr_load.specs.declared.table_name.TableName.TheVariants as table
use Rattle.clr_desk.specs.Filling.{filling}
use Rattle.clr_load.specs.declared.fault.StoreFault.{StoreFault}
use Rattle.clr_load.specs.declared.fault.StoreFault.TheVariants.{Sql, WrongVersion, BadRow}
use Rattle.clr_load.specs.declared.fault.StoreFault.TheVariants.{NoMemory, OtherTables}

-- THE REGISTER OF ROWS: their network and staff are opened, and filled with the other rows
pub record IsRegisterOf (rows : Rows) (R : Register) : Type 0 where
  pub grid : Grid
  pub staff : List StaffRow
  pub network : IsGridOf rows.sections rows.points grid
  pub employees : IsStaffOf rows.staff staff
  pub filled : R ≡ after_edits (filling rows.states rows.holds rows.records rows.steps)
      (opening grid staff)

-- a network has the sections and the points of what tables read as, with their positions
abbrev pub HasNetworkOf : Result Rows TableName → Grid → Type 0
HasNetworkOf (Ok rows) g = IsGridOf rows.sections rows.points g
HasNetworkOf (Err bad) g = ⊥

-- the table that a fault of the network is in: of a network that is too large the sections, where
-- they are too many
abbrev pub table_of : List SectionRow → NetFault → TableName
table_of sections NoSections = table.Section
table_of sections TooLarge = if nat_lt 5000 (length sections) then table.Section
    else table.NetworkPoint
table_of sections (SectionTwice row) = table.Section
table_of sections (PointTwice row) = table.NetworkPoint
table_of sections (UnknownEnd row) = table.NetworkPoint
table_of sections (SameEnds row) = table.NetworkPoint
table_of sections NoMemoryThere = table.Section

abbrev pub bad_staff : Option StaffFault → Option TableName
bad_staff None = None
bad_staff (Some fault) = Some table.Staff

abbrev pub bad_network : List SectionRow → Option NetFault → Option TableName → Option TableName
bad_network sections None rest = rest
bad_network sections (Some fault) rest = Some (table_of sections fault)

-- THE TABLE AT FAULT: that of the network's first fault, otherwise that of the staff's
abbrev pub bad_table : Rows → Option TableName
bad_table rows = bad_network rows.sections (network_fault rows.sections rows.points)
    (bad_staff (staff_fault rows.staff))

-- why rows are not opened: want of memory, or a table at fault
abbrev pub FailsToOpen : Rows → StoreFault → Type 0
FailsToOpen rows fault = (fault ≡ NoMemory)
    ⊎ ((bad : TableName) × (bad_table rows ≡ Some bad) × (fault ≡ BadRow bad))

-- OPENING AGAIN: the rows of a good register have this register and no other, and no table of
-- theirs is at fault
pub record OpensAgain (R : Register) : Type 0 where
  pub register : (S : Register) → IsRegisterOf (rows_of R) S → S ≡ R
  pub no_fault : bad_table (rows_of R) ≡ None

abbrev pub GoodRegistersOpenAgain : Type 0
GoodRegistersOpenAgain = (R : Register) → IsGood R → OpensAgain R

-- what opening a store answers, by what its tables read as
abbrev pub OpensAs : {Book : Type 0} → (Book → Register) → Result Rows TableName
    → Result Book StoreFault → Type 0
OpensAs register (Ok rows) (Ok book) = IsRegisterOf rows (register book) × (bad_table rows ≡ None)
OpensAs register (Err bad) (Ok book) = ⊥
OpensAs register (Ok rows) (Err (BadRow name)) = bad_table rows ≡ Some name
OpensAs register (Err bad) (Err (BadRow name)) = bad ≡ name
OpensAs register told (Err Sql) = ⊤
OpensAs register told (Err NoMemory) = ⊤
OpensAs register told (Err (WrongVersion n)) = ⊥
OpensAs register told (Err OtherTables) = ⊥
