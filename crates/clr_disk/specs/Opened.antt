-- A database that was opened over the files at a path.
use Rattle.std.specs.Prelude.{◌≡◌, ◌≤◌, ◌<◌, ◌⊎◌, ℕ, IsTrue, List, codes}
use Rattle.std.specs.Io.{StartsWith}
use Rattle.sqlite.specs.Closing.{files_left}
use Rattle.sqlite.specs.Files.{AreFoundIn, HoldsDatabase, IsCleanLeft, IsEmpty, IsFullLeft, IsNothing}
use Rattle.sqlite.specs.Files.{IsOpened, LeavesFiles, faults_left, faults_of, file_state, image_of}
use Rattle.sqlite.specs.Files.{tally_left}
use Rattle.sqlite.specs.Held.{Held, IsNew}
use Rattle.sqlite.specs.Opening.{FailsAs}
use Rattle.sqlite.specs.State.{HasCleanDisk, State}
use Rattle.sqlite.specs.Steps.{IsFresh}
use Rattle.sqlite.specs.declared.file.Leftover.{Leftover}
use Rattle.sqlite.specs.declared.file.Leftover.TheVariants as left
use Rattle.sqlite.specs.declared.error.Error.{Error}
use Rattle.sqlite_disk.specs.declared.Disk as disk
use Rattle.sqlite_disk.specs.declared.Files.{Files}
use Rattle.sqlite_pool.specs.Opening.{IsBlankFile}
use Rattle.sqlite_store.specs.FileStore.{faults, recovers, view}
use Rattle.sqlite_store.specs.Report.{named}
use Rattle.sqlite_store.specs.Unopened.{state_of}
use Rattle.sqlite_store.specs.declared.store.FileStore.{FileStore}
use Rattle.sqlite_trees.specs.Tree.{Trees}
use Rattle.sqlite_trees.specs.declared.error.StoreError.{StoreError}
use Rattle.sqlite_wal.specs.Files.{outcomes}
use Rattle.sqlite_wal.specs.Reads.{AreClean, OnlyReads, tally_of_files}
use Rattle.sqlite_wal.specs.Recovery.{Image}

-- FILES WITH NO DATABASE YET: that of the database is empty, or is what an opening left of a first
-- page of 2,048 bytes
abbrev pub IsUnmade : Image → Type 0
IsUnmade = IsBlankFile 2048

-- WHAT AN OPENING FINDS: the database that the files held, or an empty one where they had none
pub record IsFoundIn (image : Image) (s : State) : Type 0 where
  pub holds : (db : Trees) → HoldsDatabase image db → s.committed.trees ≡ db
  pub reads : AreFoundIn image s.committed.trees ⊎ (IsUnmade image × IsEmpty s.committed.trees)

-- A CONNECTION THAT WAS JUST OPENED over files that held this: it is in no transaction, and where its
-- disk is clean it is able to serve, and shows what the files held
pub record IsOpenedOver {D : Type 0} {g : disk.Ghosts D} (image : Image) (c : Held (FileStore D g))
    : Type 0 where
  pub new : IsNew c
  pub opened : HasCleanDisk (file_state c) → IsOpened c
  pub found : HasCleanDisk (file_state c) → IsFoundIn image (file_state c)
  pub guarded : HasCleanDisk (file_state c) → (file_state c).IsShielded

-- IT WAS OPENED OVER THE FILES AT A PATH, and over no others: `has` is the step by which a system
-- opens files
pub record IsOpenedAt {Y D : Type 0} (has : Y → List ℕ → Files D → Y → Type 0)
    (g : disk.Ghosts D) (old : Y) (path : List ℕ) (c : Held (FileStore D g)) (new : Y) : Type 0 where
  pub files : Files D
  pub had : has old path files new
  pub over : IsOpenedOver (image_of g files) c

-- the two files of a database were let go as they were then, the log first
abbrev pub AreLetGo : {Y D : Type 0} → (Y → D → Y → Type 0) → Y → D → D → Y → Type 0
AreLetGo {Y} lets_go old log db new = (middle : Y) × lets_go old log middle × lets_go middle db new

-- an opening takes files that hold a database, or have none yet, if they gave back what was written
abbrev pub CanBeOpened : {D : Type 0} → disk.Ghosts D → Files D → Type 0
CanBeOpened g files = ((db : Trees) × HoldsDatabase (image_of g files) db)
    ⊎ (IsNothing (image_of g files)
    ⊎ (AreClean g files.log files.db × IsUnmade (image_of g files)))

-- a crash may leave what it could before, still no database, or an empty one
abbrev pub IsOnTheWay : {D : Type 0} → disk.Ghosts D → Files D → Image → Type 0
IsOnTheWay g files image = outcomes g files.log files.db image
    ⊎ (IsUnmade image ⊎ ∥ ((db : Trees) × HoldsDatabase image db × IsEmpty db) ∥₁)

module _ {D : Type 0} {g : disk.Ghosts D} where
  -- a new store in files that had none
  pub record IsEmptyOver (files : Files D) (it : FileStore D g) : Type 0 where
    pub honest : AreClean g files.log files.db
    pub fresh : IsFresh (view it)
    pub is_open : IsTrue (view it).is_open
    pub counts : faults_of g files ≤ faults it
    pub empty : IsEmpty (view it).trees

  -- it fails for memory, a fault of this name or a limit, or it refuses files that are not to open
  abbrev pub FailsWith : StoreError → Files D → Leftover D g → Error → Type 0
  FailsWith kind files left = FailsAs kind (faults_of g files) (faults_left left) (IsFullLeft left)
      (CanBeOpened g files)

  -- WHERE THERE WAS NO DATABASE, none is left, or an empty one
  abbrev pub LeavesNone : Files D → Leftover D g → Type 0
  LeavesNone files (left.Files now) = ⊥
  LeavesNone files (left.Unopened now) = IsUnmade (image_of g files)
      × ((image : Image) → (state_of now).may_leave image → IsOnTheWay g files image)
  LeavesNone files (left.Store now) = IsUnmade (image_of g files)
      × ((found : Trees) → recovers now found → IsEmpty found)

  -- AN OPENING THAT FAILED WROTE OVER NO DATABASE: what is left of these files, which were read first,
  -- has what they had, or what the opening made of files that had none, if the disk gave back what was
  -- written. And the files are the cause of its error
  pub record IsUnharmed (files : Files D) (left : Leftover D g) (error : Error) : Type 0 where
    pub read : Files D
    pub log : OnlyReads g files.log read.log
    pub db : OnlyReads g files.db read.db
    pub unharmed : IsCleanLeft left → LeavesFiles read left ⊎ LeavesNone read left
    pub cause : IsCleanLeft left → FailsWith
        (named (tally_of_files g (read.log, read.db)) (tally_left left)) read left error

-- files were had at a path, and no database was opened in them: what is left of them was let go
pub record IsRefusedAt {Y D : Type 0} (has : Y → List ℕ → Files D → Y → Type 0)
    (lets_go : Y → D → Y → Type 0) (g : disk.Ghosts D) (old : Y) (path : List ℕ) (error : Error)
    (new : Y) : Type 0 where
  pub files : Files D
  pub middle : Y
  pub had : has old path files middle
  pub left : Leftover D g
  pub unharmed : IsUnharmed files left error
  pub gone : AreLetGo lets_go middle (files_left left).0 (files_left left).1 new

-- SQLite would not take this for the path of a file
abbrev pub IsNoFile : List ℕ → Type 0
IsNoFile path = (path ≡ codes ":memory:") ⊎ StartsWith path (codes "file:")

-- NONE WAS OPENED: no file was had but those at that path, if they were. They are not asked for only
-- where the system lacked a seed, or the path is that of no file
abbrev pub IsShutAt : {Y D : Type 0} → (Y → List ℕ → Files D → Y → Type 0)
    → (Y → List ℕ → Y → Type 0) → (Y → D → Y → Type 0) → (Y → Type 0) → disk.Ghosts D → Y → List ℕ
    → Error → Y → Type 0
IsShutAt has lacks lets_go lacks_seed g old path error new =
    ((new ≡ old) × (lacks_seed old ⊎ IsNoFile path))
    ⊎ lacks old path new
    ⊎ IsRefusedAt has lets_go g old path error new

-- a file is at a path, and it is not empty
abbrev pub HasBytes : (List ℕ → ℕ → Type 0) → List ℕ → Type 0
HasBytes has_size path = (size : ℕ) × has_size path size × (0 < size)

-- the files of a database under what is put over each of them
abbrev pub files_under : {D W : Type 0} → (W → D) → Files W → Files D
files_under disk_of files = record { log = disk_of files.log; db = disk_of files.db }
