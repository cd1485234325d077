-- The line that each fault prints: `fault: `, what it is about, a blank, the fault's name, and
-- where it is or what it names. Want of memory is about memory, whatever answered it.
use Rattle.std.specs.Prelude.{◌≡◌, ℕ, List, [], ◌∷◌, ◌++◌, codes, decimal}
use Rattle.std.specs.Fmt.{signed_decimal}
use Rattle.clr_net.specs.declared.name.NameFault.{NameFault}
use Rattle.clr_net.specs.declared.name.NameFault.TheVariants as name
use Rattle.clr_net.specs.declared.net_fault.NetFault.{NetFault}
use Rattle.clr_net.specs.declared.net_fault.NetFault.TheVariants as net
use Rattle.clr_csv.specs.declared.fault.CsvFault.{CsvFault}
use Rattle.clr_csv.specs.declared.fault.CsvFault.TheVariants as csv
use Rattle.clr_staff.specs.declared.staff_fault.StaffFault.{StaffFault}
use Rattle.clr_staff.specs.declared.staff_fault.StaffFault.TheVariants as staff
use Rattle.clr_stream.specs.declared.fault.ReadFault.{ReadFault}
use Rattle.clr_stream.specs.declared.fault.ReadFault.TheVariants as read
use Rattle.clr_rules.specs.HoldKind.{hold_kind_text}
use Rattle.clr_rules.specs.Id.{id_text}
use Rattle.clr_load.specs.TableText.{table_text}
use Rattle.clr_load.specs.declared.table_name.TableName.{TableName}
use Rattle.clr_load.specs.declared.table_name.TableName.TheVariants as table
use Rattle.clr_verify.specs.declared.registers.Difference.{Difference}
use Rattle.clr_verify.specs.declared.registers.Difference.TheVariants as row
use Rattle.clr_load.specs.declared.fault.StoreFault.{StoreFault}
use Rattle.clr_load.specs.declared.fault.StoreFault.TheVariants as store
use Rattle.clr_desk.specs.declared.desk_fault.DeskFault.{DeskFault}
use Rattle.clr_desk.specs.declared.desk_fault.DeskFault.TheVariants as desk
use Rattle.clr_update.specs.declared.obstacle.Obstacle.{Obstacle}
use Rattle.clr_update.specs.declared.obstacle.Obstacle.TheVariants as in_way
use Rattle.clr_edge.specs.declared.fault.DatabaseFault.{DatabaseFault}
use Rattle.clr_edge.specs.declared.fault.DatabaseFault.TheVariants as database
use Rattle.clr_edge.specs.declared.fault.ImportFile.{ImportFile}
use Rattle.clr_edge.specs.declared.fault.ImportFile.TheVariants.{Sections, Points, Staff, Logins}
use Rattle.clr_edge.specs.declared.fault.InputFault.{InputFault}
use Rattle.clr_edge.specs.declared.fault.InputFault.TheVariants as input
use Rattle.clr_edge.specs.declared.fault.JournalFault.{JournalFault}
use Rattle.clr_edge.specs.declared.fault.JournalFault.TheVariants as journal
use Rattle.clr_edge.specs.declared.fault.VerifyFault.{VerifyFault}
use Rattle.clr_edge.specs.declared.fault.VerifyFault.TheVariants as verify
use Rattle.clr_edge.specs.declared.fault.Detail.{Detail}
use Rattle.clr_edge.specs.declared.fault.Detail.TheVariants as detail
use Rattle.clr_edge.specs.declared.fault.Fault.{Fault}
use Rattle.clr_edge.specs.declared.fault.Fault.TheVariants as fault

-- what the line calls a file
abbrev pub file_text : ImportFile → List ℕ
file_text Sections = codes "sections"
file_text Points = codes "points"
file_text Staff = codes "staff"
file_text Logins = codes "logins"

-- what a fault is about
abbrev pub subject_of : Fault → List ℕ
subject_of fault.Memory = codes "memory"
subject_of (fault.File file cause) = file_text file
subject_of (fault.Network cause) = codes "network"
subject_of (fault.Staff cause) = codes "staff"
subject_of (fault.UnknownEmployee row) = codes "logins"
subject_of (fault.Name cause) = codes "name"
subject_of (fault.UnknownSection section) = codes "network"
subject_of (fault.UnknownPoint point) = codes "network"
subject_of (fault.Input cause) = codes "input"
subject_of (fault.Store cause) = codes "store"
subject_of (fault.Journal cause) = codes "journal"
subject_of (fault.Verify cause) = codes "verify"
subject_of (fault.Update obstacle) = codes "update"
subject_of fault.NoSuch = codes "clearance"
subject_of fault.NoWay = codes "clearance"
subject_of fault.Output = codes "output"
subject_of fault.Listen = codes "listen"
subject_of fault.Accept = codes "listen"
subject_of (fault.SameFile file) = file_text file

abbrev pub file_fault_name : CsvFault → List ℕ
file_fault_name csv.ReadFailed = codes "ReadFailed"
file_fault_name csv.TooLong = codes "TooLong"
file_fault_name csv.Header = codes "Header"
file_fault_name (csv.NotText row) = codes "NotText"
file_fault_name (csv.FieldCount row) = codes "FieldCount"
file_fault_name (csv.BadName row column) = codes "BadName"
file_fault_name (csv.BadWord row column) = codes "BadWord"
file_fault_name csv.NoMemory = codes "NoMemory"

abbrev pub network_fault_name : NetFault → List ℕ
network_fault_name net.NoSections = codes "NoSections"
network_fault_name net.TooLarge = codes "TooLarge"
network_fault_name (net.SectionTwice row) = codes "SectionTwice"
network_fault_name (net.PointTwice row) = codes "PointTwice"
network_fault_name (net.UnknownEnd row) = codes "UnknownEnd"
network_fault_name (net.SameEnds row) = codes "SameEnds"
network_fault_name net.NoMemory = codes "NoMemory"

abbrev pub staff_fault_name : StaffFault → List ℕ
staff_fault_name (staff.Twice row) = codes "Twice"
staff_fault_name (staff.UnknownSupervisor row) = codes "UnknownSupervisor"
staff_fault_name (staff.OwnSupervisor row) = codes "OwnSupervisor"
staff_fault_name staff.TooMany = codes "TooMany"
staff_fault_name staff.NoMemory = codes "NoMemory"

abbrev pub name_fault_name : NameFault → List ℕ
name_fault_name name.Empty = codes "Empty"
name_fault_name name.TooLong = codes "TooLong"
name_fault_name (name.BadByte place) = codes "BadByte"
name_fault_name name.NoMemory = codes "NoMemory"

abbrev pub input_fault_name : InputFault → List ℕ
input_fault_name input.ReadFailed = codes "ReadFailed"
input_fault_name input.TooLong = codes "TooLong"

abbrev pub journal_fault_name : JournalFault → List ℕ
journal_fault_name journal.OpenFailed = codes "OpenFailed"
journal_fault_name journal.ReadFailed = codes "ReadFailed"
journal_fault_name journal.TooLong = codes "TooLong"
journal_fault_name (journal.BadLine number) = codes "BadLine"
journal_fault_name (journal.OtherRules number) = codes "OtherRules"
journal_fault_name journal.WriteFailed = codes "WriteFailed"
journal_fault_name journal.SameFile = codes "SameFile"
journal_fault_name journal.InDoubt = codes "InDoubt"
journal_fault_name journal.OtherRegister = codes "OtherRegister"
journal_fault_name journal.TooShort = codes "TooShort"
journal_fault_name (journal.Differs number) = codes "Differs"
journal_fault_name journal.Missing = codes "Missing"
journal_fault_name journal.HasBytes = codes "HasBytes"
journal_fault_name journal.Begun = codes "Begun"

abbrev pub verify_fault_name : VerifyFault → List ℕ
verify_fault_name verify.Files = codes "Files"
verify_fault_name (verify.Reply number) = codes "Reply"
verify_fault_name (verify.Differs found) = codes "Differs"

-- the clause by which an update is refused
abbrev pub obstacle_name : Obstacle → List ℕ
obstacle_name (in_way.NoJumper name) = codes "NoJumper"
obstacle_name (in_way.JumperName name) = codes "JumperName"
obstacle_name in_way.TooLarge = codes "TooLarge"
obstacle_name (in_way.Section name c) = codes "Section"
obstacle_name (in_way.Point name c) = codes "Point"
obstacle_name (in_way.Step name c) = codes "Step"
obstacle_name (in_way.Work name c) = codes "Work"
obstacle_name (in_way.Holder name c) = codes "Holder"
obstacle_name (in_way.Reader name c) = codes "Reader"
obstacle_name (in_way.Requester name c) = codes "Requester"
obstacle_name in_way.NoOperator = codes "NoOperator"
obstacle_name in_way.NoField = codes "NoField"

abbrev pub store_fault_name : StoreFault → List ℕ
store_fault_name store.Sql = codes "Sql"
store_fault_name (store.WrongVersion n) = codes "WrongVersion"
store_fault_name (store.BadRow name) = codes "BadRow"
store_fault_name store.NoMemory = codes "NoMemory"
store_fault_name store.OtherTables = codes "OtherTables"

-- the fault's name
abbrev pub name_of : Fault → List ℕ
name_of fault.Memory = codes "NoMemory"
name_of (fault.File file cause) = file_fault_name cause
name_of (fault.Network cause) = network_fault_name cause
name_of (fault.Staff cause) = staff_fault_name cause
name_of (fault.UnknownEmployee row) = codes "UnknownEmployee"
name_of (fault.Name cause) = name_fault_name cause
name_of (fault.UnknownSection section) = codes "UnknownSection"
name_of (fault.UnknownPoint point) = codes "UnknownPoint"
name_of (fault.Input cause) = input_fault_name cause
name_of (fault.Store cause) = store_fault_name cause
name_of (fault.Journal cause) = journal_fault_name cause
name_of (fault.Verify cause) = verify_fault_name cause
name_of (fault.Update obstacle) = obstacle_name obstacle
name_of fault.NoSuch = codes "NoSuch"
name_of fault.NoWay = codes "NoWay"
name_of fault.Output = codes "WriteFailed"
name_of fault.Listen = codes "BindFailed"
name_of fault.Accept = codes "AcceptFailed"
name_of (fault.SameFile file) = codes "SameFile"

abbrev pub file_fault_detail : CsvFault → Detail
file_fault_detail (csv.NotText row) = detail.Row row
file_fault_detail (csv.FieldCount row) = detail.Row row
file_fault_detail (csv.BadName row column) = detail.Field row column
file_fault_detail (csv.BadWord row column) = detail.Field row column
file_fault_detail cause = detail.Nothing

abbrev pub network_fault_detail : NetFault → Detail
network_fault_detail (net.SectionTwice row) = detail.Row row
network_fault_detail (net.PointTwice row) = detail.Row row
network_fault_detail (net.UnknownEnd row) = detail.Row row
network_fault_detail (net.SameEnds row) = detail.Row row
network_fault_detail cause = detail.Nothing

abbrev pub staff_fault_detail : StaffFault → Detail
staff_fault_detail (staff.Twice row) = detail.Row row
staff_fault_detail (staff.UnknownSupervisor row) = detail.Row row
staff_fault_detail (staff.OwnSupervisor row) = detail.Row row
staff_fault_detail cause = detail.Nothing

abbrev pub name_fault_detail : NameFault → Detail
name_fault_detail (name.BadByte place) = detail.Place place
name_fault_detail cause = detail.Nothing

abbrev pub store_fault_detail : StoreFault → Detail
store_fault_detail (store.WrongVersion n) = detail.Version n
store_fault_detail (store.BadRow name) = detail.Table name
store_fault_detail cause = detail.Nothing

abbrev pub journal_fault_detail : JournalFault → Detail
journal_fault_detail (journal.BadLine number) = detail.Number number
journal_fault_detail (journal.OtherRules number) = detail.Number number
journal_fault_detail (journal.Differs number) = detail.Number number
journal_fault_detail cause = detail.Nothing

abbrev pub verify_fault_detail : VerifyFault → Detail
verify_fault_detail verify.Files = detail.Nothing
verify_fault_detail (verify.Reply number) = detail.Number number
verify_fault_detail (verify.Differs found) = detail.Differs found

-- the row that is in the way, and the clearance that needs it
abbrev pub obstacle_detail : Obstacle → Detail
obstacle_detail (in_way.NoJumper name) = detail.Named name
obstacle_detail (in_way.JumperName name) = detail.Named name
obstacle_detail in_way.TooLarge = detail.Nothing
obstacle_detail (in_way.Section name c) = detail.NeededBy name c
obstacle_detail (in_way.Point name c) = detail.NeededBy name c
obstacle_detail (in_way.Step name c) = detail.NeededBy name c
obstacle_detail (in_way.Work name c) = detail.NeededBy name c
obstacle_detail (in_way.Holder name c) = detail.NeededBy name c
obstacle_detail (in_way.Reader name c) = detail.NeededBy name c
obstacle_detail (in_way.Requester name c) = detail.NeededBy name c
obstacle_detail in_way.NoOperator = detail.Nothing
obstacle_detail in_way.NoField = detail.Nothing

-- where a fault is, or what it names
abbrev pub detail_of : Fault → Detail
detail_of (fault.File file cause) = file_fault_detail cause
detail_of (fault.Network cause) = network_fault_detail cause
detail_of (fault.Staff cause) = staff_fault_detail cause
detail_of (fault.UnknownEmployee row) = detail.Row row
detail_of (fault.Name cause) = name_fault_detail cause
detail_of (fault.Store cause) = store_fault_detail cause
detail_of (fault.Journal cause) = journal_fault_detail cause
detail_of (fault.Verify cause) = verify_fault_detail cause
detail_of (fault.Update obstacle) = obstacle_detail obstacle
detail_of (fault.UnknownSection section) = detail.Named section
detail_of (fault.UnknownPoint point) = detail.Named point
detail_of cause = detail.Nothing

-- the table of a row that differs
abbrev pub table_of : Difference → TableName
table_of (row.Section key) = table.Section
table_of (row.Point key) = table.NetworkPoint
table_of (row.Staff key) = table.Staff
table_of (row.Clearance key) = table.Clearance
table_of (row.Step key) = table.Step
table_of (row.Hold key) = table.Hold

-- and its key: a name; a clearance; a step's clearance, round and place; a hold's kind, place and
-- clearance
abbrev pub key_text : Difference → List ℕ
key_text (row.Section key) = codes " " ++ key
key_text (row.Point key) = codes " " ++ key
key_text (row.Staff key) = codes " " ++ key
key_text (row.Clearance key) = codes " " ++ id_text key
key_text (row.Step key) = (codes " " ++ id_text key.id)
    ++ ((codes " " ++ decimal key.round) ++ (codes " " ++ decimal key.ordinal))
key_text (row.Hold key) = (codes " " ++ hold_kind_text key.kind)
    ++ ((codes " " ++ key.place) ++ (codes " " ++ id_text key.id))

-- how a line says it: rows and columns count from 1, under the header; places in a name from 0
abbrev pub detail_text : Detail → List ℕ
detail_text detail.Nothing = []
detail_text (detail.Row row) = codes " row " ++ decimal row
detail_text (detail.Field row column) = (codes " row " ++ decimal row)
    ++ (codes " column " ++ decimal column)
detail_text (detail.Place place) = codes " place " ++ decimal place
detail_text (detail.Named found) = codes " " ++ found
detail_text (detail.Version n) = codes " " ++ signed_decimal n
detail_text (detail.Table name) = codes " " ++ table_text name
detail_text (detail.Number number) = codes " " ++ decimal number
detail_text (detail.NeededBy name c) = (codes " " ++ name) ++ (codes " by" ++ (codes " " ++ id_text c))
detail_text (detail.Differs found) = (codes " " ++ table_text (table_of found)) ++ key_text found

abbrev pub fault_line : Fault → List ℕ
fault_line cause = codes "fault: "
    ++ (subject_of cause ++ (codes " " ++ (name_of cause ++ detail_text (detail_of cause))))

-- the line of a fault, with its line feed
abbrev pub told_line : Fault → List ℕ
told_line fault = fault_line fault ++ 10 ∷ []

-- The fault that a cause becomes. Want of memory is one fault, whatever answered it.
abbrev pub of_file : ImportFile → CsvFault → Fault
of_file file csv.NoMemory = fault.Memory
of_file file cause = fault.File file cause

abbrev pub of_input : ReadFault → Fault
of_input read.ReadFailed = fault.Input input.ReadFailed
of_input read.TooLong = fault.Input input.TooLong
of_input read.NoMemory = fault.Memory

abbrev pub of_network : NetFault → Fault
of_network net.NoMemory = fault.Memory
of_network cause = fault.Network cause

abbrev pub of_staff : StaffFault → Fault
of_staff staff.NoMemory = fault.Memory
of_staff cause = fault.Staff cause

abbrev pub of_name : NameFault → Fault
of_name name.NoMemory = fault.Memory
of_name cause = fault.Name cause

abbrev pub of_store : StoreFault → Fault
of_store store.NoMemory = fault.Memory
of_store cause = fault.Store cause

abbrev pub of_desk : DeskFault → Fault
of_desk desk.NoMemory = fault.Memory
of_desk desk.Journal = fault.Journal journal.WriteFailed
of_desk (desk.Store cause) = of_store cause

-- any fault of a store but want of memory is the database's own
abbrev pub database_fault : StoreFault → DatabaseFault
database_fault store.NoMemory = database.NoMemory
database_fault cause = database.Sql

abbrev pub of_database : DatabaseFault → Fault
of_database database.NoMemory = fault.Memory
of_database database.Sql = fault.Store store.Sql

-- the fault is one of this file's, or want of memory
abbrev pub IsOfFile : ImportFile → Fault → Type 0
IsOfFile file found = (cause : CsvFault) × (found ≡ of_file file cause)
