-- JOURNALS AT PATHS: one is opened at the place of a register, or begun; and why not.
use Rattle.std.specs.Prelude.{◌≡◌, ◌≢◌, ◌⊎◌, ◌<◌, ℕ, Bool, IsTrue, List, [], length}
use Rattle.std.specs.declared.io.ErrorKind.{ErrorKind}
use Rattle.std.specs.declared.io.ErrorKind.TheVariants.{OutOfMemory}
use Rattle.sqlite_disk.specs.Disk.{Cut, Follows, MoreFaults, Only}
use Rattle.sqlite_disk.specs.declared.Disk as disk
use Rattle.sqlite_disk.specs.declared.Files.{Files}
use Rattle.clr_journal.specs.declared.journal.Journal as append
use Rattle.clr_journal.specs.Opening.{Unchanged}
use Rattle.clr_chain.specs.Finding.{found_in}
use Rattle.clr_chain.specs.OnDisk.{WasRead}
use Rattle.clr_chain.specs.Opening.{CanBegin, IsOpened, Refuses, WasNotCut, new_text}
use Rattle.clr_chain.specs.declared.fault.ChainFault.{ChainFault}
use Rattle.clr_chain.specs.declared.fault.ChainFault.TheVariants as chain
use Rattle.clr_chain.specs.declared.fault.NewFault.{NewFault}
use Rattle.clr_chain.specs.declared.fault.NewFault.TheVariants as unbegun
use Rattle.clr_chain.specs.declared.finding.Ahead.{Ahead}
use Rattle.clr_rules.specs.declared.place.Place.{Place}
use Rattle.clr_disk.specs.Opened.{AreLetGo}
use Rattle.clr_edge.specs.declared.fault.Fault.{Fault}
use Rattle.clr_edge.specs.declared.fault.Fault.TheVariants.{Journal, Memory}
use Rattle.clr_edge.specs.declared.fault.JournalFault.TheVariants as why

-- THE FAULT OF A JOURNAL that was not opened at a place, and of one that was not begun
abbrev pub of_chain : ChainFault → Fault
of_chain chain.OpenFailed = Journal why.OpenFailed
of_chain chain.NoMemory = Memory
of_chain (chain.OtherRules number) = Journal (why.OtherRules number)
of_chain chain.OtherRegister = Journal why.OtherRegister
of_chain chain.TooShort = Journal why.TooShort
of_chain (chain.Differs number) = Journal (why.Differs number)
of_chain (chain.BadLine number) = Journal (why.BadLine number)

abbrev pub of_new : NewFault → Fault
of_new unbegun.HasBytes = Journal why.HasBytes
of_new unbegun.WriteFailed = Journal why.WriteFailed
of_new unbegun.TooLong = Journal why.TooLong
of_new unbegun.NoMemory = Memory

-- they are these alone
abbrev pub IsOfOpening : Fault → Type 0
IsOfOpening fault = (cause : ChainFault) × (fault ≡ of_chain cause)

abbrev pub IsOfBeginning : Fault → Type 0
IsOfBeginning fault = (fault ≡ Journal why.OpenFailed)
    ⊎ ((cause : NewFault) × (fault ≡ of_new cause))

-- ---- no journal in a file

-- what is reported where the size of a file could not be read, for this reason
abbrev pub size_fault : ErrorKind → Fault
size_fault OutOfMemory = Memory
size_fault _ = Journal why.OpenFailed

-- there is no journal in the file at a path: it is empty, or its size could not be read
abbrev pub HasNoJournal : (List ℕ → ℕ → Type 0) → (List ℕ → ErrorKind → Type 0) → List ℕ → Fault
    → Type 0
HasNoJournal has_size lacks_size path fault =
    (has_size path 0 × (fault ≡ Journal why.OpenFailed))
    ⊎ ((kind : ErrorKind) × lacks_size path kind × (fault ≡ size_fault kind))

-- the file of a journal at a path was opened, and holds this; its log was let go unchanged
abbrev pub HasJournalDisk : {Y D : Type 0} → (Y → List ℕ → Files D → Y → Type 0)
    → (Y → D → Y → Type 0) → Y → List ℕ → Y → D → Type 0
HasJournalDisk {Y} {D} has lets_go old path new disk = (files : Files D) × (middle : Y)
    × has old path files middle × lets_go middle files.log new × (disk ≡ files.db)

-- ---- a journal that is opened

-- A JOURNAL OVER THE FILE AT A PATH, OPENED AT A PLACE: it has what the file held, up to the last
-- line that holds its sum, and these lines come after the place. A crash leaves that text and no
-- more. The log of that file is let go unchanged
pub record IsChainAt {Y D J : Type 0} (has : Y → List ℕ → Files D → Y → Type 0)
    (lets_go : Y → D → Y → Type 0) (g : disk.Ghosts D) (log : append.Ghosts J) (disk_of : J → D)
    (old : Y) (path : List ℕ) (place : Place) (journal : J) (ahead : Ahead) (new : Y)
    : Type 0 where
  pub files : Files D
  pub middle : Y
  pub had : has old path files middle
  pub gone : lets_go middle files.log new
  pub opened : IsTrue (g.is_clean (disk_of journal))
      → IsOpened place (g.seen files.db) ahead (log.text journal)
  pub durable : IsTrue (g.is_clean (disk_of journal))
      → Only (log.text journal) (log.may_leave journal)
  pub whole : log.found journal ≡ log.text journal
  pub crash : Follows (Cut (length (log.text journal))) (g.may_leave files.db)
      (log.may_leave journal)

-- NONE WAS OPENED OVER THE FILE AT A PATH, and why: what is found in it at that place, the disk
-- failed, or memory ran out. Its bytes are as they were, unless the disk failed as what comes after
-- the last line that holds its sum was to be cut off, and so they are let go
pub record IsUnopenedOver {Y D : Type 0} (has : Y → List ℕ → Files D → Y → Type 0)
    (lets_go : Y → D → Y → Type 0) (g : disk.Ghosts D) (old : Y) (path : List ℕ) (place : Place)
    (fault : Fault) (new : Y) : Type 0 where
  pub files : Files D
  pub middle : Y
  pub had : has old path files middle
  pub left : D
  pub gone : AreLetGo lets_go middle files.log left new
  pub cause : ChainFault
  pub fault_is : fault ≡ of_chain cause
  pub refused : IsTrue (g.is_clean left) → Refuses cause (found_in place (g.seen files.db))
  pub bytes : IsTrue (g.is_clean left) → Unchanged g.seen g.may_leave files.db left
      ⊎ WasNotCut g.seen g.may_leave g.faults place files.db left
  pub spared : (cause ≡ chain.OpenFailed → ⊥) → Unchanged g.seen g.may_leave files.db left
  pub failed : cause ≡ chain.OpenFailed → MoreFaults (g.faults files.db) (g.faults left)

-- the same, or the files at the path could not be opened
abbrev pub IsUnopenedAt : {Y D : Type 0} → (Y → List ℕ → Files D → Y → Type 0)
    → (Y → List ℕ → Y → Type 0) → (Y → D → Y → Type 0) → disk.Ghosts D → Y → List ℕ → Place
    → Fault → Y → Type 0
IsUnopenedAt has lacks lets_go g old path place fault new =
    (lacks old path new × ((fault ≡ Memory) ⊎ (fault ≡ Journal why.OpenFailed)))
    ⊎ IsUnopenedOver has lets_go g old path place fault new

-- ---- a journal that is begun

-- A JOURNAL HAS A FIRST LINE AND NO MORE, that of this place, which can be written and read: so it
-- is where the disk is clean, now and after a crash
pub record IsNew {J : Type 0} (log : append.Ghosts J) (is_clean : J → Bool) (first : Place)
    (journal : J) : Type 0 where
  pub can : CanBegin first
  pub text : IsTrue (is_clean journal) → log.text journal ≡ new_text first
  pub durable : IsTrue (is_clean journal) → Only (new_text first) (log.may_leave journal)
  pub whole : log.found journal ≡ log.text journal

-- A JOURNAL WAS BEGUN OVER THE FILE AT A PATH: it held nothing, and has this first line, which a
-- crash leaves
pub record IsBegunAt {Y D J : Type 0} (has : Y → List ℕ → Files D → Y → Type 0)
    (lets_go : Y → D → Y → Type 0) (g : disk.Ghosts D) (log : append.Ghosts J) (disk_of : J → D)
    (old : Y) (path : List ℕ) (first : Place) (journal : J) (new : Y) : Type 0 where
  pub files : Files D
  pub middle : Y
  pub had : has old path files middle
  pub gone : lets_go middle files.log new
  pub empty : IsTrue (g.is_clean (disk_of journal)) → g.seen files.db ≡ []
  pub new_there : IsNew log (λ it. g.is_clean (disk_of it)) first journal

-- none was begun there: the file has bytes, and they are as they were; or the disk failed, or memory
-- ran out
pub record IsUnbegunOver {Y D : Type 0} (has : Y → List ℕ → Files D → Y → Type 0)
    (lets_go : Y → D → Y → Type 0) (g : disk.Ghosts D) (old : Y) (path : List ℕ) (first : Place)
    (fault : Fault) (new : Y) : Type 0 where
  pub files : Files D
  pub middle : Y
  pub had : has old path files middle
  pub left : D
  pub gone : AreLetGo lets_go middle files.log left new
  pub cause : NewFault
  pub fault_is : fault ≡ of_new cause
  pub full : cause ≡ unbegun.HasBytes → IsTrue (g.is_clean left) → 0 < length (g.seen files.db)
  pub long : cause ≡ unbegun.TooLong → 4096 < length (new_text first)
  pub spared : cause ≢ unbegun.WriteFailed
      → WasRead g.seen g.may_leave g.is_clean g.is_usable files.db left
  pub failed : cause ≡ unbegun.WriteFailed → MoreFaults (g.faults files.db) (g.faults left)

abbrev pub IsUnbegunAt : {Y D : Type 0} → (Y → List ℕ → Files D → Y → Type 0)
    → (Y → List ℕ → Y → Type 0) → (Y → D → Y → Type 0) → disk.Ghosts D → Y → List ℕ → Place
    → Fault → Y → Type 0
IsUnbegunAt has lacks lets_go g old path first fault new =
    (lacks old path new × ((fault ≡ Memory) ⊎ (fault ≡ Journal why.OpenFailed)))
    ⊎ IsUnbegunOver has lets_go g old path first fault new
