-- How answers and faults are reported: the exit status, and the two writers before and after.
use Rattle.std.specs.Prelude.{ℕ, true, ◌≡◌, ◌≢◌, ◌≤◌, ◌⊎◌, List, Option, Some, None}
use Rattle.std.specs.Prelude.{Result, Ok, Err, String, string_bytes}
use Rattle.std.specs.declared.alloc.Global.{Global}
use Rattle.clr_edge.specs.Fault.{told_line}
use Rattle.clr_edge.specs.declared.fault.Fault.{Fault}
use Rattle.clr_edge.specs.declared.fault.Fault.TheVariants.{Output}
use Rattle.clr_commands.specs.Connections.{ReportsFirst}
use Rattle.clr_commands.specs.Serve.{serving_line}
use Rattle.clr_commands.specs.declared.replies.Printed.{Printed}
use Rattle.clr_stream.specs.Streams.{HasFailed, IsCut, Sends, Stream, WentOut}

-- a fault: its line goes to the errors, whole unless their writer failed
abbrev pub ReportsFault : Fault → ℕ → Stream → Stream → Type 0
ReportsFault fault status errors errors' = (status ≡ 1) × Sends errors errors' (told_line fault)

-- the end of what went out, by a fault or by none
abbrev pub ReportsEnd : Option Fault → ℕ → Stream → Stream → Type 0
ReportsEnd None status errors errors' = (status ≡ 0) × (errors' ≡ errors)
ReportsEnd (Some fault) status errors errors' = ReportsFault fault status errors errors'

-- A TEXT goes out whole and alone, and then the fault that ended it is reported, if one did; or its
-- writing is a fault, for which the output has failed
abbrev pub ReportsText : List ℕ → Option Fault → ℕ → Stream → Stream → Stream → Stream → Type 0
ReportsText text fault status output output' errors errors' =
    (WentOut output output' text × ReportsEnd fault status errors errors')
    ⊎ (IsCut output output' text × ReportsFault Output status errors errors')

-- an answer, or the fault in its place, at which nothing goes to the output
abbrev pub Reports : Result (String Global) Fault → ℕ → Stream → Stream → Stream → Stream → Type 0
Reports (Ok text) status output output' errors errors' =
    ReportsText (string_bytes text) None status output output' errors errors'
Reports (Err fault) status output output' errors errors' = (output' ≡ output)
    × ReportsFault fault status errors errors'

-- the same of what `run` printed
abbrev pub ReportsRun : Result Printed Fault → ℕ → Stream → Stream → Stream → Stream → Type 0
ReportsRun (Ok printed) status output output' errors errors' =
    ReportsText (string_bytes printed.text) printed.fault status output output' errors errors'
ReportsRun (Err fault) status output output' errors errors' = (output' ≡ output)
    × ReportsFault fault status errors errors'

-- and of a server, an archive or a journal, which wrote before
abbrev pub ReportsServed : {T : Type 0} → Result T Fault → ℕ → Stream → Stream → Type 0
ReportsServed (Ok value) status errors errors' = ReportsEnd None status errors errors'
ReportsServed (Err fault) status errors errors' = ReportsEnd (Some fault) status errors errors'

-- what went to the output before a fault: the fault is of the output exactly where that failed; at
-- any other it was flushed, if anything went to it
abbrev pub IsFaulted : Fault → Stream → Stream → Type 0
IsFaulted fault output output' =
    ((fault ≡ Output) × HasFailed output output')
    ⊎ ((fault ≢ Output)
    × ((output' ≡ output) ⊎ ((front : List ℕ) × WentOut output output' front)))

-- a server began, and reported the connections that failed
pub record HasServed (output output' errors errors' : Stream) : Type 0 where
  pub port : ℕ
  pub count : ℕ
  pub began : WentOut output output' (serving_line port)
  pub reported : ReportsFirst count errors errors'

-- WHAT EVERY COMMAND LINE KEEPS TO: the status is 0, 1 or 2; at 0 what was written was flushed, and
-- nothing went to the errors; at 1 the line of a fault did, that of a failed write exactly where the
-- output failed, and what went to the output before any other was flushed; at 2 nothing went to the
-- output. A server reports the connections that failed, before the line of a fault.
pub record IsReported (status : ℕ) (output output' errors errors' : Stream) : Type 0 where
  pub statuses : status ≤ 2
  pub answered : status ≡ 0 → (output'.flushed ≡ true)
      × ((errors' ≡ errors) ⊎ HasServed output output' errors errors')
  pub faulted : status ≡ 1 → (fault : Fault) × (middle : Stream)
      × Sends middle errors' (told_line fault)
      × (((middle ≡ errors) × IsFaulted fault output output')
      ⊎ ((fault ≢ Output) × HasServed output output' errors middle))
  pub unread : status ≡ 2 → output' ≡ output
