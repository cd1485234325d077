-- What `run` prints over a register, and over the opening one of its three files.
use Rattle.std.specs.Prelude.{◌≡◌, ◌⊎◌, ◌<◌, ◌≤◌, ℕ, List, Option, Some, None, option_map}
use Rattle.std.specs.Prelude.{Result, Ok, Err, IfErr, IfSome, IsErrOf, OnErr, length}
use Rattle.std.specs.Borrow.{Bor}
use Rattle.clr_net.specs.Grid.{Grid}
use Rattle.clr_net.specs.Network as network
use Rattle.clr_staff.specs.Staff as staff
use Rattle.clr_staff.specs.declared.employee.StaffRow.{StaffRow}
use Rattle.clr_stream.specs.Failures.{Rose}
use Rattle.clr_rules.specs.Register.{Register, opening}
use Rattle.clr_rules.specs.declared.reply.Reply.{Reply}
use Rattle.clr_desk.specs.Given.{LeadsTo}
use Rattle.clr_desk.specs.Taking.{Taking, TakesRun}
use Rattle.clr_desk.specs.declared.commit.Commit as commit
use Rattle.clr_desk.specs.declared.desk.Desk.{Desk}
use Rattle.clr_desk.specs.declared.desk_fault.DeskFault.{DeskFault}
use Rattle.sqlite.specs.Held.{Held}
use Rattle.sqlite.specs.State.{State}
use Rattle.sqlite_trees.specs.declared.store.Store.{Ghosts}
use Rattle.clr_args.specs.declared.asked.Files.{Files}
use Rattle.clr_args.specs.declared.asked.RunArgs.{RunArgs}
use Rattle.clr_args.specs.declared.asked.RunArgs.TheVariants as over
use Rattle.clr_args.specs.declared.asked.StoredArgs.{StoredArgs}
use Rattle.clr_edge.specs.Answers.{unless}
use Rattle.clr_keeping.specs.Keeping.{WorksWith}
use Rattle.clr_keeping.specs.TakenUp.{Logs}
use Rattle.clr_edge.specs.Visit.{Closed, Comes, Ending, Opening, Shutting}
use Rattle.clr_edge.specs.Fault.{of_database, of_network, of_staff}
use Rattle.clr_edge.specs.declared.fault.Fault.{Fault}
use Rattle.clr_edge.specs.declared.fault.Fault.TheVariants.{Input, Memory}
use Rattle.clr_edge.specs.declared.fault.InputFault.TheVariants.{ReadFailed, TooLong}
use Rattle.clr_commands.specs.Answers.{Answers, IsMemory}
use Rattle.clr_commands.specs.Import.{AnswersFiles, FileRows}
use Rattle.clr_edge.specs.Paths.{AtPaths}
use Rattle.clr_commands.specs.Replies.{AnswersInput, AnswersOver, asked_commands}
use Rattle.clr_commands.specs.declared.replies.Printed.{Printed}

-- ---- the input

-- what was read of the input: all of it, and no more than 16 MiB, as far as its bytes are known
abbrev pub IsInput : Option (List ℕ) → List ℕ → Type 0
IsInput input bytes = IfSome input (λ known. (bytes ≡ known) × (length known ≤ 16777216))

-- why an input is not answered: memory ran out, it was not read, or it is over 16 MiB
abbrev pub IsOfInput : Option (List ℕ) → Fault → Type 0
IsOfInput input fault = (fault ≡ Memory) ⊎ (fault ≡ Input ReadFailed)
    ⊎ ((fault ≡ Input TooLong) × IfSome input (λ known. 16777216 < length known))

-- HOW THE INPUT IS READ: it is reported as unread only where the count of its failures rose; and it
-- waits for what comes before it, so at a fault of anything but the input no byte of it was read
pub record ReadsInput {X : Type 0} (input : Option (List ℕ)) (failures failures' : ℕ)
    (before after : X) (result : Result Printed Fault) : Type 0 where
  pub cause : IsErrOf result (Input ReadFailed) → Rose failures failures'
  pub waits : IfErr result (λ fault. (after ≡ before) ⊎ IsOfInput input fault)

-- WHAT A RUN PUTS to what keeps the register, from one state of it to the next: each command of the
-- input once, in their order, up to the one that met the fault, if one did; and nothing else
abbrev pub PutsInput : {K : Type 0} → Taking K → Register → K → List ℕ → List Reply
    → Option DeskFault → K → Type 0
PutsInput takes left old input told fault new =
    TakesRun takes left old (asked_commands input) told fault new

-- what a run over a desk answers, by what keeps its changes: the replies to the lines of the input,
-- whose commands it put, and no others
abbrev pub RunsOnDesk : {K : Type 0} → (DeskFault → Type 0) → (K → State) → Taking K → Desk K → Desk K
    → Option (List ℕ) → Result Printed Fault → Type 0
RunsOnDesk fails kept takes old new input (Ok printed) = (bytes : List ℕ) × IsInput input bytes
    × (answers : AnswersOver fails (kept old.store) (kept new.store) old.book.register
    new.book.register bytes printed)
    × PutsInput takes new.book.register old.store bytes answers.told answers.run.ended new.store
RunsOnDesk fails kept takes old new input (Err fault) = IsOfInput input fault

-- ---- over three files

-- the first fault of the network of these rows, then that of the staff
abbrev pub rows_fault : FileRows → Result (Unit {0}) Fault
rows_fault rows =
    unless (option_map of_network (network.first_fault rows.sections rows.points))
    (unless (option_map of_staff (staff.first_fault rows.staff))
    (Ok tt))

-- the opening register of these rows, if they are a network and a staff
pub record IsOpeningOf (rows : FileRows) (R : Register) : Type 0 where
  pub net : Grid
  pub team : List StaffRow
  pub is_network : network.IsGridOf rows.sections rows.points net
  pub is_staff : staff.IsStaffOf rows.staff team
  pub register : R ≡ opening net team

-- what is printed over a register that is kept nowhere: no fault but want of memory ends it
pub record RunsUnkept (R : Register) (input : Option (List ℕ)) (printed : Printed) : Type 0 where
  pub left : Register
  pub bytes : List ℕ
  pub told : List Reply
  pub is_input : IsInput input bytes
  pub answers : AnswersInput (λ _. ⊥) R left bytes told printed
  pub fault : IfSome printed.fault IsMemory

-- what is printed for an input over the opening register of these rows, if they are a network and a
-- staff
abbrev pub IsRunOf : Option (List ℕ) → FileRows → Result Printed Fault → Type 0
IsRunOf input rows (Ok printed) = (rows_fault rows ≡ Ok tt)
    × (R : Register) × IsOpeningOf rows R × RunsUnkept R input printed
IsRunOf input rows (Err fault) = (rows_fault rows ≡ Err fault)
    ⊎ ((rows_fault rows ≡ Ok tt) × IsOfInput input fault)

-- the same of the files at three paths, as a call answers it
abbrev pub RunsAt : AtPaths → Files → Option (List ℕ) → Result Printed Fault → Type 0
RunsAt at files input result = AnswersFiles at files (Unit {0})
    (λ rows. Answers IsMemory (λ printed. printed) (IsRunOf input rows)) result

-- ---- over a stored register

-- what is answered of a run once its database was closed: the fault that ended it, or that of
-- closing
abbrev pub ended_by : Option Fault → Closed → Option Fault
ended_by (Some fault) closed = Some fault
ended_by None (Ok value) = None
ended_by None (Err cause) = Some (of_database cause)

abbrev pub printed_after : Result Printed Fault → Closed → Result Printed Fault
printed_after (Ok printed) closed = Ok (record printed { fault = ended_by printed.fault closed })
printed_after (Err fault) closed = Err fault

-- WHAT A RUN DID OVER A DESK: it answered the input, or left the desk as it was. Its commands went to
-- what keeps the changes, and nothing else did
pub record RunsDesk {K : Type 0} (keeper : commit.Ghosts K) (input : Option (List ℕ))
    (result : Result Printed Fault) (old new : Desk K) : Type 0 where
  pub answer : RunsOnDesk keeper.fails keeper.kept keeper.takes old new input result
  pub none : OnErr result (new ≡ old)
  pub led : LeadsTo keeper.kept keeper.takes old new

-- the same, with no step of the machine
abbrev pub RunsAlone : {M : Type 0} → Option (List ℕ) → (K : Type 0) → commit.Ghosts K
    → Result Printed Fault → M → M → Desk K → Desk K → Type 0
RunsAlone input K keeper result old new taken left =
    (new ≡ old) × RunsDesk keeper input result taken left

-- with a journal or without one
abbrev pub RunsOver : {M J C T : Type 0} → Logs M J C → Ghosts T → Option (Bor (List ℕ))
    → Option (List ℕ) → Result Printed Fault → M → Held T → Held T → Closed → M → Type 0
RunsOver logs g journal input =
    WorksWith logs g journal (Unit {0}) (RunsAlone input) printed_after

-- over the database at a path, which is closed after it
abbrev pub RunsKept : {M J C S : Type 0} → Logs M J C → Ghosts S → Opening M S
    → Shutting M → Ending M S → Option (List ℕ) → StoredArgs → Result Printed Fault → M → M
    → Type 0
RunsKept logs g opens shuts ends input args = Comes opens shuts ends args.database.now
    (RunsOver logs g args.journal input)

-- what `run` answers of what it was asked for: three files, and no database is opened; or a
-- database, where `Comes` says how
abbrev pub RunsAsked : {M : Type 0} → AtPaths
    → (StoredArgs → Result Printed Fault → M → M → Type 0)
    → RunArgs → Option (List ℕ) → Result Printed Fault → M → M → Type 0
RunsAsked at Comes (over.Files files) input result old new =
    RunsAt at files input result × (new ≡ old)
RunsAsked at Comes (over.Stored args) input result old new = Comes args result old new
