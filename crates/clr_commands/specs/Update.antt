-- WHAT `update` DOES: network and staff of the register that a database has become those of three
-- files, unless something is in the way; and what it prints.
use Rattle.std.specs.Prelude.{◌≡◌, ◌≢◌, ◌⊎◌, ℕ, Bool, true, false, IsErrAnd, IsTrue}
use Rattle.std.specs.Prelude.{List, [], ◌∷◌, map, None, OnErr, OnOk, Option, Result, Ok, Err, Some}
use Rattle.std.specs.Prelude.{String, string_bytes}
use Rattle.std.specs.Borrow.{Bor}
use Rattle.std.specs.declared.alloc.Global.{Global}
use Rattle.sqlite.specs.Held.{Held, state}
use Rattle.sqlite.specs.State.{HasCleanDisk, State, Survives}
use Rattle.sqlite_trees.specs.declared.store.Store.{Ghosts}
use Rattle.clr_journal.specs.declared.journal.Journal as append
use Rattle.clr_net.specs.NameText.{read_name}
use Rattle.clr_net.specs.Network as network
use Rattle.clr_staff.specs.Staff as staff
use Rattle.clr_net.specs.Results.{◌>>=◌}
use Rattle.clr_rules.specs.Fit.{IsFit}
use Rattle.clr_rules.specs.Register.{Register}
use Rattle.clr_update.specs.Changes.{changes}
use Rattle.clr_update.specs.Update.{Update, in_the_way, updated}
use Rattle.clr_update.specs.declared.obstacle.Obstacle.{Obstacle}
use Rattle.clr_changes.specs.Lines.{change_lines}
use Rattle.clr_changes.specs.declared.report.Report.{Report}
use Rattle.clr_changes.specs.declared.report.Report.TheVariants.{Changes, InTheWay as Obstructed}
use Rattle.clr_load.specs.Tables.{tables_of}
use Rattle.clr_load.specs.Contract.{IsSaved}
use Rattle.clr_load.specs.Stored.{HasTables}
use Rattle.clr_changes.specs.Deeds.{update}
use Rattle.clr_journal.specs.Delta.{can_be_said}
use Rattle.clr_desk.specs.Faults.{FailsAsStore}
use Rattle.clr_desk.specs.Placing.{Placing}
use Rattle.clr_desk.specs.Updating.{AreUpdated}
use Rattle.clr_desk.specs.declared.commit.Commit as commit
use Rattle.clr_desk.specs.declared.desk.Desk.{Desk}
use Rattle.clr_desk.specs.declared.desk_fault.DeskFault.{DeskFault}
use Rattle.clr_args.specs.declared.asked.UpdateArgs.{UpdateArgs}
use Rattle.clr_level.specs.Journaling.{FailsToo}
use Rattle.clr_level.specs.declared.keeper.Keeper.{Keeper}
use Rattle.clr_edge.specs.Fault.{of_desk}
use Rattle.clr_keeping.specs.Keeping.{WorksEither, logged_keeper, plain_keeper}
use Rattle.clr_keeping.specs.TakenUp.{Logs, store_place}
use Rattle.clr_edge.specs.Visit.{Closed, Comes, Ending, Opening, Shutting, first_fault}
use Rattle.clr_edge.specs.declared.fault.Fault.{Fault}
use Rattle.clr_edge.specs.declared.fault.Fault.TheVariants.{Memory, Update as InTheWay}
use Rattle.clr_commands.specs.DeedLines.{IsJournaled}
use Rattle.clr_commands.specs.Faults.{IsOfDesk}
use Rattle.clr_commands.specs.Fence.{argument}
use Rattle.clr_commands.specs.Import.{AnswersFiles, FileRows}
use Rattle.clr_edge.specs.Paths.{AtPaths}
use Rattle.clr_commands.specs.Run.{rows_fault}

-- ---- what is asked for

-- the names that words say, from the left
unfoldable pub names_said : List (List ℕ) → Result (List (List ℕ)) Fault
names_said [] = Ok []
names_said (word ∷ words) = do
  name ← argument (read_name word)
  names ← names_said words
  Ok (name ∷ names)

-- the first fault of the network of these rows, then that of the staff, then that of the words
abbrev pub update_fault : FileRows → List (List ℕ) → Result (List (List ℕ)) Fault
update_fault rows words = rows_fault rows >>= (λ _. names_said words)

-- the update to the network and the staff of these rows, without the jumpers that words name
pub record IsUpdateTo (rows : FileRows) (words : List (List ℕ)) (u : Update) : Type 0 where
  pub is_network : network.IsGridOf rows.sections rows.points u.net
  pub is_staff : staff.IsStaffOf rows.staff u.staff
  pub named : names_said words ≡ Ok u.without

-- ---- what comes of it

abbrev pub Texts : Type 0
Texts = Result (String Global) Fault

-- the lines of what changes, or the first obstacle; or what keeps the tables failed, or memory ran
-- out
abbrev pub ReportsUpdate : (DeskFault → Type 0) → Register → Update → Texts → Type 0
ReportsUpdate fails R u (Ok text) = (in_the_way R u ≡ None)
    × (string_bytes text ≡ change_lines (changes R (updated R u)))
ReportsUpdate fails R u (Err fault) =
    ((cause : Obstacle) × (fault ≡ InTheWay cause) × (in_the_way R u ≡ Some cause))
    ⊎ IsOfDesk fails fault

-- what is printed of it
abbrev pub text_reported : Result Report DeskFault → Texts
text_reported (Ok (Changes lines)) = Ok lines
text_reported (Ok (Obstructed cause)) = Err (InTheWay cause)
text_reported (Err cause) = Err (of_desk cause)

abbrev pub reported : String Global → Result (Unit {0}) DeskFault → Texts
reported lines (Ok value) = Ok lines
reported lines (Err cause) = Err (of_desk cause)

-- THE REGISTER IS UPDATED in the tables, in one transaction, and this is saved; at a fault they are
-- as they were. Then it is good and staffed again. Where something is in the way nothing is written.
-- A crash leaves the tables before or after
pub record IsUpdated {K : Type 0} (kept : K → State) (R : Register) (u : Update) (report : Texts)
    (read after : K) : Type 0 where
  pub tables : HasCleanDisk (kept after) → HasTables (kept read).now (tables_of R)
      → OnOk report (HasTables (kept after).now (tables_of (updated R u)))
  pub saved : HasCleanDisk (kept after) → OnOk report (IsSaved (kept after))
  pub fit : OnOk report (IsFit (updated R u))
  pub refused : (cause : Obstacle) → report ≡ Err (InTheWay cause) → after ≡ read
  pub none : HasCleanDisk (kept after) → IsTrue (kept after).is_open
      → OnErr report ((kept after).now ≡ (kept read).now)
  pub crash : Survives (kept read) (kept after) (AreUpdated (kept read).now R u)

-- WHAT CHANGES CAN BE SAID, unless nothing was done: so the line that has it is read from its text,
-- also where a fault comes after that line (LinksReadBack)
abbrev pub AreSaid : {K : Type 0} → Update → Desk K → Desk K → Type 0
AreSaid u taken left = (left ≡ taken)
    ⊎ (can_be_said (changes taken.book.register (updated taken.book.register u)) ≡ true)

-- the line of an update has what changes
abbrev pub IsUpdateNoted : {K J C : Type 0} → (K → State) → Placing → (DeskFault → Type 0)
    → (C → ℕ → Type 0) → append.Ghosts J → Update → Texts → Desk (Keeper K J C)
    → Desk (Keeper K J C) → Type 0
IsUpdateNoted kept has_place fails shows log u report taken left =
    IsJournaled kept has_place fails shows log taken
    (update (changes taken.book.register (updated taken.book.register u))) report left

-- the same over a desk with a journal
pub record IsRenewed {K J C : Type 0} (kept : K → State) (has_place : Placing)
    (fails : DeskFault → Type 0) (shows : C → ℕ → Type 0) (log : append.Ghosts J)
    (taken left : Desk (Keeper K J C)) (u : Update) (report : Texts) : Type 0 where
  pub reports : ReportsUpdate (FailsToo fails) taken.book.register u report
  pub is_done : IsUpdated (λ (it : Keeper K J C). kept it.keeper) taken.book.register u report
      taken.store left.store
  pub said : AreSaid u taken left
  pub noted : IsUpdateNoted kept has_place fails shows log u report taken left

-- WHAT AN UPDATE DOES OVER A DESK: it updates its register, unless something is in the way. In a dry
-- run nothing is written
abbrev pub IsDone : {K : Type 0} → (K → State) → Bool → Register → Update → Texts → K → K → Type 0
IsDone kept true R u report read after = after ≡ read
IsDone kept false R u report read after = IsUpdated kept R u report read after

-- what is so where a journal is named
abbrev pub WithJournal : Option (Bor (List ℕ)) → Type 0 → Type 0
WithJournal None So = Unit {0}
WithJournal (Some journal) So = So

pub record UpdatesDesk {K : Type 0} (keeper : commit.Ghosts K) (args : UpdateArgs) (u : Update)
    (report : Texts) (taken left : Desk K) : Type 0 where
  pub reports : ReportsUpdate keeper.fails taken.book.register u report
  pub is_done : IsDone keeper.kept args.dry_run taken.book.register u report taken.store left.store
  pub said : WithJournal args.journal (AreSaid u taken left)

-- the same, with no step of the machine
abbrev pub UpdatesAlone : {M : Type 0} → UpdateArgs → Update → (K : Type 0) → commit.Ghosts K
    → Texts → M → M → Desk K → Desk K → Type 0
UpdatesAlone args u K keeper report old new taken left =
    (new ≡ old) × UpdatesDesk keeper args u report taken left

-- in a dry run no line is noted
abbrev pub NotesUpdate : {K J C : Type 0} → (K → State) → Placing → (DeskFault → Type 0)
    → (C → ℕ → Type 0) → append.Ghosts J → Bool → Update → Texts → Desk (Keeper K J C)
    → Desk (Keeper K J C) → Type 0
NotesUpdate kept has_place fails shows log true u report taken left = left ≡ taken
NotesUpdate kept has_place fails shows log false u report taken left =
    IsUpdateNoted kept has_place fails shows log u report taken left

-- with a journal, in which the update has its line
abbrev pub UpdatesLogged : {M J C S : Type 0} → Logs M J C → Ghosts S → UpdateArgs → Update → Texts
    → M → M → Desk (Keeper (Held S) J C) → Desk (Keeper (Held S) J C) → Type 0
UpdatesLogged {J = J} {C = C} {S = S} logs g args u report old new taken left =
    UpdatesAlone args u (Keeper (Held S) J C) (logged_keeper g logs) report old new taken left
    × NotesUpdate (state g) store_place FailsAsStore logs.shows logs.log args.dry_run u report taken
    left

-- with a journal or without one: the register is taken up, updated and let go, and the database
-- closed. The first fault is the result
abbrev pub UpdatesOver : {M J C S : Type 0} → Logs M J C → Ghosts S → UpdateArgs → Update → Texts
    → M → Held S → Held S → Closed → M → Type 0
UpdatesOver {S = S} logs g args u = WorksEither logs g args.journal (Unit {0})
    (UpdatesAlone args u (Held S) (plain_keeper g)) (UpdatesLogged logs g args u) first_fault

-- rows and words say no update, or memory ran out, and nothing was opened
abbrev pub RefusesUpdate : {T : Type 0} → FileRows → List (List ℕ) → Result T Fault → Type 0
RefusesUpdate rows words result =
    IsErrAnd result (λ fault. fault ≢ Memory → update_fault rows words ≡ Err fault)

-- THE UPDATE TO ROWS IS CARRIED OUT, where `Comes` says how
abbrev pub UpdatesTo : {M : Type 0} → (Update → Texts → M → M → Type 0) → FileRows
    → List (List ℕ) → M → M → Texts → Type 0
UpdatesTo Comes rows words old new result = (RefusesUpdate rows words result × (new ≡ old))
    ⊎ ((u : Update) × IsUpdateTo rows words u × Comes u result old new)

-- over the database at a path
abbrev pub UpdatesAt : {M J C S : Type 0} → Logs M J C → Ghosts S → Opening M S → Shutting M
    → Ending M S → UpdateArgs → Update → Texts → M → M → Type 0
UpdatesAt logs g opens shuts ends args u =
    Comes opens shuts ends args.database.now (UpdatesOver logs g args u)

-- the same of the files at their paths
abbrev pub UpdatesFiles : {M J C S : Type 0} → AtPaths → Logs M J C → Ghosts S → Opening M S
    → Shutting M → Ending M S → UpdateArgs → Texts → M → M → Type 0
UpdatesFiles at logs g opens shuts ends args result old new =
    AnswersFiles at args.files (new ≡ old) (λ rows result.
    UpdatesTo (UpdatesAt logs g opens shuts ends args) rows
    (map (λ word. word.now) args.without.items) old new result) result
