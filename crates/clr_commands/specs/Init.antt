-- What `init` answers of the rows of its three files.
use Rattle.std.specs.Prelude.{◌≡◌, ◌≢◌, ℕ, List, ◌++◌, length, codes, decimal, Option, Some, None}
use Rattle.std.specs.Prelude.{◌⊎◌, IsErrAnd, Result, Ok, Err, String, string_bytes}
use Rattle.std.specs.Borrow.{Bor}
use Rattle.std.specs.declared.alloc.Global.{Global}
use Rattle.clr_rules.specs.Register.{Register}
use Rattle.clr_net.specs.Results.{◌>>=◌}
use Rattle.clr_net.specs.Grid.{Grid}
use Rattle.clr_net.specs.Network as network
use Rattle.clr_staff.specs.Staff as staff
use Rattle.clr_staff.specs.declared.employee.StaffRow.{StaffRow}
use Rattle.clr_rules.specs.declared.place.Place.{Place}
use Rattle.clr_args.specs.declared.asked.Files.{Files}
use Rattle.clr_args.specs.declared.asked.InitArgs.{InitArgs}
use Rattle.clr_args.specs.declared.asked.StoredArgs.{StoredArgs}
use Rattle.clr_keeping.specs.Beginning.{BeginsFirst, IsOfBegun}
use Rattle.clr_edge.specs.Database.{IsDatabaseFault}
use Rattle.clr_keeping.specs.TakenUp.{Logs}
use Rattle.clr_edge.specs.Visit.{Done}
use Rattle.clr_edge.specs.declared.fault.Fault.{Fault}
use Rattle.clr_edge.specs.declared.fault.Fault.TheVariants.{Memory}
use Rattle.clr_commands.specs.Answers.{GivesText, IsMemory}
use Rattle.clr_commands.specs.First.{files_of, first_place, made_at}
use Rattle.clr_commands.specs.Import.{AnswersFiles, AreKnown, Contents, FileRows, rows_of}
use Rattle.clr_edge.specs.Paths.{AtPaths}
use Rattle.clr_commands.specs.Run.{IsOpeningOf, rows_fault}

-- how many rows each file has, on a line
abbrev pub counts_line : ℕ → ℕ → ℕ → List ℕ
counts_line sections points employees =
    codes "sections " ++ (decimal sections
    ++ (codes " points "
    ++ (decimal points ++ (codes " staff " ++ (decimal employees ++ codes "\n")))))

-- the first fault of the network of these rows, then that of the staff, or the line of counts
abbrev pub counts_of : FileRows → Result (List ℕ) Fault
counts_of rows = rows_fault rows >>= (λ _.
    Ok (counts_line (length rows.sections) (length rows.points) (length rows.staff)))

-- rows are no network and no staff, or memory ran out
abbrev pub RefusesRows : FileRows → Fault → Type 0
RefusesRows rows fault = fault ≢ Memory → rows_fault rows ≡ Err fault

-- rows were built: a network, a staff, and the line of counts
pub record IsBuilt (rows : FileRows) (net : Grid) (team : List StaffRow) (line : List ℕ)
    : Type 0 where
  pub is_network : network.IsGridOf rows.sections rows.points net
  pub is_staff : staff.IsStaffOf rows.staff team
  pub line_is : counts_of rows ≡ Ok line

-- the line of counts, once the register was stored, or why it was not: a fault of this kind
abbrev pub PrintsStored : (Fault → Type 0) → FileRows → Done → Result (String Global) Fault → Type 0
PrintsStored IsOf rows stored (Ok text) =
    (stored ≡ Ok tt) × (counts_of rows ≡ Ok (string_bytes text))
PrintsStored IsOf rows stored (Err fault) = (stored ≡ Err fault) × IsOf fault

-- THE REGISTER OF ROWS IS STORED, where `Comes` says how that of a network and a staff was
abbrev pub Stores : {M : Type 0} → (Register → Done → M → M → Type 0) → FileRows
    → Result (String Global) Fault → M → M → Type 0
Stores Comes rows result old new = (IsErrAnd result (RefusesRows rows) × (new ≡ old))
    ⊎ ((R : Register) × IsOpeningOf rows R × (stored : Done)
    × PrintsStored IsDatabaseFault rows stored result × Comes R stored old new)

-- ---- with a journal

-- how the register of a network and a staff is made with its first place, in a database at a path
abbrev pub MakingAt : Type 0 → Type 1
MakingAt M = List ℕ → Register → Place → Done → M → M → Type 0

-- THE REGISTER OF ROWS IS STORED WITH A JOURNAL, which is begun first: its first place is made of the
-- bytes that give the rows, of what a clock of the machine showed, and of the two paths
pub record IsStoredWith {M J C : Type 0} (logs : Logs M J C) (Makes : MakingAt M)
    (texts : Contents) (rows : FileRows) (database journal : List ℕ)
    (result : Result (String Global) Fault) (old new : M) : Type 0 where
  pub time : C
  pub timed : logs.steps.has_time old time
  pub moment : ℕ
  pub shown : logs.shows time moment
  pub register : Register
  pub opening_of : IsOpeningOf rows register
  pub stored : Done
  pub prints : PrintsStored IsOfBegun rows stored result
  pub begun : BeginsFirst logs journal
      (first_place (files_of texts) (made_at moment database journal))
      (Makes database register (first_place (files_of texts) (made_at moment database journal)))
      stored old new

abbrev pub StoresWith : {M J C : Type 0} → Logs M J C → MakingAt M → Contents → FileRows → List ℕ
    → List ℕ → Result (String Global) Fault → M → M → Type 0
StoresWith logs Makes texts rows database journal result old new =
    (IsErrAnd result (RefusesRows rows) × (new ≡ old))
    ⊎ IsStoredWith logs Makes texts rows database journal result old new

-- the same of the files at their paths
abbrev pub InitsWith : {M J C : Type 0} → Logs M J C → MakingAt M → AtPaths → Files → List ℕ
    → List ℕ → Result (String Global) Fault → M → M → Type 0
InitsWith logs Makes at files database journal result old new =
    AnswersFiles at files (new ≡ old) (λ rows result. (texts : Contents)
    × (rows_of texts ≡ Ok rows) × AreKnown at.bytes files texts
    × StoresWith logs Makes texts rows database journal result old new) result

-- ---- either

-- WHAT `init` ANSWERS of the rows of its files: their counts. Where it is given a database, their
-- register is stored there
abbrev pub InitsRows : {M : Type 0} → (List ℕ → Register → Done → M → M → Type 0)
    → Option (List ℕ) → M → M → FileRows → Result (String Global) Fault → Type 0
InitsRows Comes None old new rows result = GivesText IsMemory (counts_of rows) result × (new ≡ old)
InitsRows Comes (Some path) old new rows result = Stores (Comes path) rows result old new

-- how a register is stored with a journal
abbrev pub WithJournal : Type 0 → Type 1
WithJournal M = AtPaths → Files → List ℕ → List ℕ → Result (String Global) Fault → M → M → Type 0

abbrev pub InitsInto : {M : Type 0} → AtPaths → (List ℕ → Register → Done → M → M → Type 0)
    → WithJournal M → Files → List ℕ → Option (Bor (List ℕ)) → Result (String Global) Fault → M
    → M → Type 0
InitsInto at Comes With files database None result old new =
    AnswersFiles at files (new ≡ old) (InitsRows Comes (Some database) old new) result
InitsInto at Comes With files database (Some journal) result old new =
    With at files database journal.now result old new

abbrev pub InitsIn : {M : Type 0} → AtPaths → (List ℕ → Register → Done → M → M → Type 0)
    → WithJournal M → Files → Option StoredArgs → Result (String Global) Fault → M → M → Type 0
InitsIn at Comes With files None result old new =
    AnswersFiles at files (new ≡ old) (InitsRows Comes None old new) result
InitsIn at Comes With files (Some args) result old new =
    InitsInto at Comes With files args.database.now args.journal result old new

-- of what is asked for
abbrev pub InitsAt : {M : Type 0} → AtPaths → (List ℕ → Register → Done → M → M → Type 0)
    → WithJournal M → InitArgs → Result (String Global) Fault → M → M → Type 0
InitsAt at Comes With args = InitsIn at Comes With args.files args.stored
