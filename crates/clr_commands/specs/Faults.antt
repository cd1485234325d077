-- Which faults a subcommand may answer.
use Rattle.std.specs.Prelude.{◌≡◌, ◌≢◌, IfSome, Result, Ok, Err}
use Rattle.clr_desk.specs.Faults.{IsOfKeeper}
use Rattle.clr_desk.specs.Taking.{Came}
use Rattle.clr_desk.specs.declared.desk_fault.DeskFault.{DeskFault}
use Rattle.clr_edge.specs.Fault.{of_desk}
use Rattle.clr_edge.specs.Visit.{Done}
use Rattle.clr_edge.specs.declared.fault.Fault.{Fault}
use Rattle.clr_edge.specs.declared.fault.Fault.TheVariants.{Accept, Listen, Output, SameFile}
use Rattle.clr_edge.specs.declared.fault.ImportFile.{ImportFile}
use Rattle.clr_commands.specs.declared.replies.Printed.{Printed}

-- A FAULT THAT A SUBCOMMAND MAY ANSWER before anything is written: not that the output could not be
-- written, nor that a port was not opened or no connection taken, since it does none of these; nor
-- that a file is the database's own, which is asked before it.
abbrev pub IsOfSubcommand : Fault → Type 0
IsOfSubcommand fault = (fault ≢ Output) × (fault ≢ Listen) × (fault ≢ Accept)
    × ((file : ImportFile) → fault ≢ SameFile file)

-- the same of what `run` answers, and of the fault that ended what is printed, if one did
abbrev pub FailsAsSubcommand : Result Printed Fault → Type 0
FailsAsSubcommand (Ok printed) = IfSome printed.fault IsOfSubcommand
FailsAsSubcommand (Err fault) = IsOfSubcommand fault

-- what keeps a register's tables failed so, or memory ran out
abbrev pub IsOfDesk : (DeskFault → Type 0) → Fault → Type 0
IsOfDesk fails fault = (cause : DeskFault) × (fault ≡ of_desk cause) × IsOfKeeper fails cause

-- what came of a call of a desk
abbrev pub done_of : Came → Done
done_of (Ok value) = Ok value
done_of (Err cause) = Err (of_desk cause)
