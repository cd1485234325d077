-- One visit of a database: it is opened, worked on, and closed as it was left; and nothing else.
use Rattle.std.specs.Prelude.{◌≡◌, ◌⊎◌, ℕ, false, IfErr, List, OnErr, OnOk, Result, Ok, Err}
use Rattle.std.specs.Result.{result_and}
use Rattle.sqlite.specs.Closing.{IsCopied}
use Rattle.sqlite.specs.Files.{FailsToClose, IsClosed}
use Rattle.sqlite.specs.Held.{Held, state}
use Rattle.sqlite.specs.State.{HasCleanDisk}
use Rattle.sqlite.specs.declared.error.Error.{Error}
use Rattle.sqlite_disk.specs.declared.Disk as disk
use Rattle.sqlite_disk.specs.declared.Files.{Files}
use Rattle.sqlite_store.specs.declared.store.FileStore.{FileStore}
use Rattle.sqlite_store.specs.FileStore.{view}
use Rattle.sqlite_store.specs.FileStore as store
use Rattle.sqlite_trees.specs.View.{IsClean}
use Rattle.sqlite_trees.specs.declared.store.Store.{Ghosts}
use Rattle.sqlite_wal.specs.Reads.{AreClean}
use Rattle.clr_load.specs.Cause.{fault_of}
use Rattle.clr_rules.specs.Register.{Register}
use Rattle.clr_edge.specs.Database.{HasRegister, IsDatabaseFault, IsMade, IsMoved}
use Rattle.clr_edge.specs.Database.{IsUnmade, IsUnmoved}
use Rattle.clr_edge.specs.Fault.{database_fault, of_database}
use Rattle.clr_edge.specs.declared.fault.DatabaseFault.{DatabaseFault}
use Rattle.clr_edge.specs.declared.fault.Fault.{Fault}

-- what closing gives, and any step that gives nothing else
abbrev pub Closed : Type 0
Closed = Result (Unit {0}) DatabaseFault

abbrev pub Done : Type 0
Done = Result (Unit {0}) Fault

-- what closing gives, as a fault of the program
abbrev pub reported : Closed → Done
reported (Ok value) = Ok value
reported (Err cause) = Err (of_database cause)

-- the steps by which a machine opens a database at a path, does not, and closes it with this outcome
abbrev pub Opening : Type 0 → Type 0 → Type 1
Opening M T = M → List ℕ → Held T → M → Type 0

abbrev pub Shutting : Type 0 → Type 1
Shutting M = M → List ℕ → DatabaseFault → M → Type 0

abbrev pub Ending : Type 0 → Type 0 → Type 1
Ending M T = M → Held T → Closed → M → Type 0

-- ---- over files

-- a connection over files
abbrev pub Over : {D : Type 0} → disk.Ghosts D → Type 0
Over {D} g = Held (FileStore D g)

-- what was committed last is in the database file, now and after a crash, where the files gave back
-- what was written; of a closing that failed the fault has its cause
abbrev pub Copies : {D : Type 0} → (g : disk.Ghosts D) → Over g → FileStore D g → Files D
    → Closed → Type 0
Copies g c last files (Ok value) = AreClean g files.log files.db → IsCopied c files
Copies g c last files (Err fault) = (error : Error) × (fault ≡ database_fault (fault_of error))
    × (IsClean (view last) → FailsToClose c last error)

-- A CONNECTION WAS CLOSED AS IT WAS THEN, AND THESE ARE ITS FILES. A crash has no new outcome, and
-- each that it has is a database
pub record IsLeft {D : Type 0} {g : disk.Ghosts D} (c : Over g) (files : Files D)
    (closed : Closed) : Type 0 where
  pub last : FileStore D g
  pub files_are : store.files last ≡ (files.log, files.db)
  pub closed_as : IsClosed c last
  pub copies : Copies g c last files closed

-- the same, and what opened it took the files back
abbrev pub GivesBack : {M D : Type 0} {g : disk.Ghosts D} → (M → Files D → M → Type 0) → M → Over g
    → Closed → M → Type 0
GivesBack {D = D} takes_back old c closed new =
    (files : Files D) × IsLeft c files closed × takes_back old files new

-- ---- over any tables

-- ONE DATABASE WAS OPENED AT A PATH, with no transaction open, WORKED ON, AND CLOSED AS IT WAS LEFT;
-- and nothing else. What was done over it may be steps of its own
pub record Visits {M T : Type 0} (opens : Opening M T) (ends : Ending M T) (path : List ℕ)
    (Does : M → Held T → Held T → Closed → M → Type 0) (old new : M) : Type 0 where
  pub before : Held T
  pub after : Held T
  pub closed : Closed
  pub middle : M
  pub later : M
  pub opened : opens old path before middle
  pub mode : before.in_transaction ≡ false
  pub does : Does middle before after closed later
  pub ended : ends later after closed new

-- the same, unless it was not opened: memory ran out, or the database refused or failed
abbrev pub Comes : {M T R : Type 0} → Opening M T → Shutting M → Ending M T → List ℕ
    → (Result R Fault → M → Held T → Held T → Closed → M → Type 0) → Result R Fault → M → M → Type 0
Comes opens shuts ends path Does result old new =
    ((cause : DatabaseFault) × (result ≡ Err (of_database cause)) × shuts old path cause new)
    ⊎ Visits opens ends path (Does result) old new

-- what was done over a database, with no step beside it
abbrev pub Alone : {M T H : Type 0} → (Result T Fault → H → H → Closed → Type 0) → Result T Fault
    → M → H → H → Closed → M → Type 0
Alone Does result middle before after closed later =
    (later ≡ middle) × Does result before after closed

-- what comes of the work before a database is closed, or the first of two faults
abbrev pub first_fault : {T : Type 0} → Result T Fault → Closed → Result T Fault
first_fault (Ok value) (Ok done) = Ok value
first_fault (Ok value) (Err cause) = Err (of_database cause)
first_fault (Err fault) closed = Err fault

-- the tables of a register were made, or not, and the first fault is the result
pub record MakesRegister {S : Type 0} (g : Ghosts S) (R : Register) (result : Done)
    (before after : Held S) (closed : Closed) : Type 0 where
  pub told : Closed
  pub made : OnOk told (IsMade g before R after)
  pub unmade : OnErr told (IsUnmade g before R after)
  pub result_is : result ≡ reported (result_and told closed)

-- the tables were moved, or not, and the first fault is the result
pub record MovesRegister {S : Type 0} (g : Ghosts S) (result : Done) (before after : Held S)
    (closed : Closed) : Type 0 where
  pub told : Done
  pub moved : OnOk told (IsMoved g before after)
  pub unmoved : IfErr told (λ fault. IsUnmoved g before fault after)
  pub known : (R : Register) → HasRegister g R before → HasCleanDisk (state g after)
      → IfErr told IsDatabaseFault
  pub result_is : result ≡ first_fault told closed
