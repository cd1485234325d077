-- What `check` answers of the rows of its three files: the lines of the warnings about them.
use Rattle.std.specs.Prelude.{◌≡◌, ℕ, List, Result, Ok, Err, String}
use Rattle.std.specs.declared.alloc.Global.{Global}
use Rattle.clr_net.specs.Grid.{Grid}
use Rattle.clr_net.specs.Network as network
use Rattle.clr_staff.specs.Staff as staff
use Rattle.clr_staff.specs.declared.employee.StaffRow.{StaffRow}
use Rattle.clr_args.specs.declared.asked.Files.{Files}
use Rattle.clr_csv.specs.Warnings.{warnings}
use Rattle.clr_csv.specs.WarningText.{warning_lines}
use Rattle.clr_edge.specs.declared.fault.Fault.{Fault}
use Rattle.clr_commands.specs.Answers.{IsMemory, Prints}
use Rattle.clr_commands.specs.Import.{AnswersFiles, FileRows}
use Rattle.clr_edge.specs.Paths.{AtPaths}
use Rattle.clr_commands.specs.Run.{rows_fault}

-- a text has the lines of the warnings about the network and the staff that have these rows
pub record HasWarningsOf (rows : FileRows) (text : List ℕ) : Type 0 where
  pub net : Grid
  pub team : List StaffRow
  pub is_network : network.IsGridOf rows.sections rows.points net
  pub is_staff : staff.IsStaffOf rows.staff team
  pub lines : text ≡ warning_lines (warnings net team)

-- THE ANSWER OF THREE FILES' ROWS: the first fault of their network, then that of the staff, as
-- with `init`; or the warnings about both
abbrev pub IsCheckOf : FileRows → Result (List ℕ) Fault → Type 0
IsCheckOf rows (Ok text) = (rows_fault rows ≡ Ok tt) × HasWarningsOf rows text
IsCheckOf rows (Err fault) = rows_fault rows ≡ Err fault

-- the same as a call answers it
abbrev pub ChecksRows : FileRows → Result (String Global) Fault → Type 0
ChecksRows rows result = Prints IsMemory (IsCheckOf rows) result

-- the same of the files at three paths
abbrev pub ChecksAt : AtPaths → Files → Result (String Global) Fault → Type 0
ChecksAt at files result = AnswersFiles at files (Unit {0}) ChecksRows result
