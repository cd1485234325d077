-- The files that a command line names beside a database, and which of them are the database's own.
use Rattle.std.specs.Prelude.{◌≡◌, ◌⊎◌, ℕ, All, IfSome, IsSomeAnd, List, Option, map}
use Rattle.std.specs.Prelude.{slice_get}
use Rattle.std.specs.Borrow.{Bor}
use Rattle.clr_args.specs.declared.asked.Asked.{Asked}
use Rattle.clr_args.specs.declared.asked.Asked.TheVariants as asked
use Rattle.clr_args.specs.declared.asked.Files.{Files}
use Rattle.clr_args.specs.declared.asked.NextPartArgs.{NextPartArgs}
use Rattle.clr_args.specs.declared.asked.RunArgs.{RunArgs}
use Rattle.clr_args.specs.declared.asked.RunArgs.TheVariants as run
use Rattle.clr_args.specs.declared.asked.ServeArgs.{ServeArgs}
use Rattle.clr_args.specs.declared.asked.StoredArgs.{StoredArgs}
use Rattle.clr_args.specs.declared.asked.UpdateArgs.{UpdateArgs}
use Rattle.clr_args.specs.declared.asked.VerifyArgs.{VerifyArgs}
use Rattle.clr_args.specs.declared.asked.VerifyFromArgs.{VerifyFromArgs}
use Rattle.clr_edge.specs.declared.fault.Fault.{Fault}
use Rattle.clr_edge.specs.declared.fault.Fault.TheVariants.{Journal, Memory, SameFile}
use Rattle.clr_edge.specs.declared.fault.ImportFile.TheVariants.{Logins, Points, Sections, Staff}
use Rattle.clr_edge.specs.declared.fault.JournalFault.TheVariants as journal

-- a fault is one of these, or memory ran out
abbrev pub UnlessMemory : (Fault → Type 0) → Fault → Type 0
UnlessMemory Of fault = (fault ≡ Memory) ⊎ Of fault

-- ---- none of them is: by what says so of a database and a path

module _ (spares : List ℕ → List ℕ → Type 0) where
  abbrev pub SparesOne : List ℕ → Option (Bor (List ℕ)) → Type 0
  SparesOne database path = IfSome path (λ p. spares database p.now)

  abbrev pub SparesFiles : List ℕ → Files → Type 0
  SparesFiles database files = spares database files.sections.now
      × spares database files.points.now × spares database files.staff.now

  abbrev pub SparesServed : ServeArgs → Type 0
  SparesServed args = SparesOne args.database.now args.logins
      × SparesOne args.database.now args.journal

  -- nor is a database one of its journal's
  abbrev pub SparesDatabase : StoredArgs → Type 0
  SparesDatabase args = IfSome args.journal (λ p. spares p.now args.database.now)

  abbrev pub SparesMade : StoredArgs → Files → Type 0
  SparesMade args files = SparesFiles args.database.now files
      × SparesOne args.database.now args.journal × SparesDatabase args

  abbrev pub SparesUpdated : UpdateArgs → Type 0
  SparesUpdated args = SparesFiles args.database.now args.files
      × SparesOne args.database.now args.journal

  abbrev pub SparesParts : List ℕ → List (List ℕ) → Type 0
  SparesParts database parts = All (λ path. spares database path) parts

  abbrev pub SparesNext : NextPartArgs → Type 0
  SparesNext args = spares args.database.now args.path.now
      × spares args.database.now args.next.now

  abbrev pub SparesVerified : VerifyArgs → Type 0
  SparesVerified args = spares args.database.now args.journal.now
      × SparesParts args.database.now (map (λ path. path.now) args.parts.items)
      × SparesFiles args.database.now args.files

  abbrev pub SparesVerifiedFrom : VerifyFromArgs → Type 0
  SparesVerifiedFrom args = spares args.database.now args.journal.now
      × spares args.copy.now args.journal.now
      × SparesParts args.database.now (map (λ path. path.now) args.parts.items)
      × SparesParts args.copy.now (map (λ path. path.now) args.parts.items)

  abbrev pub SparesRun : RunArgs → Type 0
  SparesRun (run.Files files) = Unit {0}
  SparesRun (run.Stored args) = SparesOne args.database.now args.journal

  -- NO FILE THAT IS NAMED BESIDE A DATABASE is one of its own
  abbrev pub NamesOthers : Asked → Type 0
  NamesOthers (asked.Init args) = IfSome args.stored (λ stored. SparesMade stored args.files)
  NamesOthers (asked.Run args) = SparesRun args
  NamesOthers (asked.Serve args) = SparesServed args
  NamesOthers (asked.Verify args) = SparesVerified args
  NamesOthers (asked.VerifyFrom args) = SparesVerifiedFrom args
  NamesOthers (asked.Update args) = SparesUpdated args
  NamesOthers (asked.Archive args) = SparesOne args.database.now args.journal
  NamesOthers (asked.NextPart args) = SparesNext args
  NamesOthers (asked.Migrate args) = SparesOne args.database.now args.journal
  NamesOthers what = Unit {0}

-- ---- one of them is, and the fault names it

module _ (owns : List ℕ → List ℕ → Type 0) where
  abbrev pub OwnsOne : List ℕ → Option (Bor (List ℕ)) → Fault → Fault → Type 0
  OwnsOne database path fault told = IsSomeAnd path (λ p. owns database p.now) × (told ≡ fault)

  abbrev pub OwnsFile : List ℕ → Files → Fault → Type 0
  OwnsFile database files fault =
      (owns database files.sections.now × (fault ≡ SameFile Sections))
      ⊎ (owns database files.points.now × (fault ≡ SameFile Points))
      ⊎ (owns database files.staff.now × (fault ≡ SameFile Staff))

  abbrev pub OwnsJournal : List ℕ → List ℕ → Fault → Type 0
  OwnsJournal database path fault = owns database path × (fault ≡ Journal journal.SameFile)

  abbrev pub OwnsDatabase : StoredArgs → Fault → Type 0
  OwnsDatabase args fault = IsSomeAnd args.journal (λ p. owns p.now args.database.now)
      × (fault ≡ Journal journal.SameFile)

  abbrev pub OwnsMade : StoredArgs → Files → Fault → Type 0
  OwnsMade args files fault = OwnsFile args.database.now files fault
      ⊎ OwnsOne args.database.now args.journal (Journal journal.SameFile) fault
      ⊎ OwnsDatabase args fault

  abbrev pub OwnsUpdated : UpdateArgs → Fault → Type 0
  OwnsUpdated args fault = OwnsFile args.database.now args.files fault
      ⊎ OwnsOne args.database.now args.journal (Journal journal.SameFile) fault

  abbrev pub OwnsPart : List ℕ → List (List ℕ) → Fault → Type 0
  OwnsPart database parts fault = (place : ℕ)
      × IsSomeAnd (slice_get parts place) (λ path. OwnsJournal database path fault)

  abbrev pub OwnsNext : NextPartArgs → Fault → Type 0
  OwnsNext args fault = OwnsJournal args.database.now args.path.now fault
      ⊎ OwnsJournal args.database.now args.next.now fault

  abbrev pub OwnsServed : ServeArgs → Fault → Type 0
  OwnsServed args fault = OwnsOne args.database.now args.logins (SameFile Logins) fault
      ⊎ OwnsOne args.database.now args.journal (Journal journal.SameFile) fault

  abbrev pub OwnsVerified : VerifyArgs → Fault → Type 0
  OwnsVerified args fault =
      OwnsJournal args.database.now args.journal.now fault
      ⊎ OwnsPart args.database.now (map (λ path. path.now) args.parts.items) fault
      ⊎ OwnsFile args.database.now args.files fault

  abbrev pub OwnsVerifiedFrom : VerifyFromArgs → Fault → Type 0
  OwnsVerifiedFrom args fault =
      OwnsJournal args.database.now args.journal.now fault
      ⊎ OwnsJournal args.copy.now args.journal.now fault
      ⊎ OwnsPart args.database.now (map (λ path. path.now) args.parts.items) fault
      ⊎ OwnsPart args.copy.now (map (λ path. path.now) args.parts.items) fault

  abbrev pub OwnsRun : RunArgs → Fault → Type 0
  OwnsRun (run.Files files) fault = ⊥
  OwnsRun (run.Stored args) fault =
      OwnsOne args.database.now args.journal (Journal journal.SameFile) fault

  -- A FILE THAT IS NAMED BESIDE A DATABASE is one of its own
  abbrev pub NamesOwn : Asked → Fault → Type 0
  NamesOwn (asked.Init args) fault =
      IsSomeAnd args.stored (λ stored. OwnsMade stored args.files fault)
  NamesOwn (asked.Run args) fault = OwnsRun args fault
  NamesOwn (asked.Serve args) fault = OwnsServed args fault
  NamesOwn (asked.Verify args) fault = OwnsVerified args fault
  NamesOwn (asked.VerifyFrom args) fault = OwnsVerifiedFrom args fault
  NamesOwn (asked.Update args) fault = OwnsUpdated args fault
  NamesOwn (asked.Archive args) fault =
      OwnsOne args.database.now args.journal (Journal journal.SameFile) fault
  NamesOwn (asked.NextPart args) fault = OwnsNext args fault
  NamesOwn (asked.Migrate args) fault =
      OwnsOne args.database.now args.journal (Journal journal.SameFile) fault
  NamesOwn what fault = ⊥
