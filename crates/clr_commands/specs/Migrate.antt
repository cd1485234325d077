-- What `migrate` prints of the database at a path.
use Rattle.std.specs.Prelude.{◌≡◌, ◌⊎◌, ℕ, List, ◌++◌, IsErrAnd, None, Option, Result, Ok, Err}
use Rattle.std.specs.Prelude.{Some, String, codes, string_bytes}
use Rattle.std.specs.Borrow.{Bor}
use Rattle.std.specs.declared.alloc.Global.{Global}
use Rattle.sqlite.specs.Held.{Held}
use Rattle.sqlite_trees.specs.declared.store.Store.{Ghosts}
use Rattle.clr_rules.specs.Register.{Register}
use Rattle.clr_rules.specs.declared.place.Place.{Place}
use Rattle.clr_args.specs.declared.asked.MigrateArgs.{MigrateArgs}
use Rattle.clr_keeping.specs.Beginning.{PlacesAt}
use Rattle.clr_keeping.specs.Keeping.{IsNotReadAlone, IsReadAlone}
use Rattle.clr_keeping.specs.TakenUp.{Logs}
use Rattle.clr_edge.specs.Visit.{Alone, Closed, Comes, Done, Ending, MovesRegister, Opening}
use Rattle.clr_edge.specs.Visit.{Shutting, first_fault}
use Rattle.clr_edge.specs.declared.fault.Fault.{Fault}
use Rattle.clr_edge.specs.declared.fault.Fault.TheVariants.{Journal, Memory}
use Rattle.clr_edge.specs.declared.fault.JournalFault.TheVariants.{Missing}
use Rattle.clr_commands.specs.First.{board_files, first_place, made_at}
use Rattle.clr_commands.specs.PartAfter.{BeginsAfter}

-- the version of the tables, on a line
abbrev pub version_line : List ℕ
version_line = codes "version 2\n"

-- what is printed once the tables were moved, or why they were not
abbrev pub PrintsMoved : Done → Result (String Global) Fault → Type 0
PrintsMoved moved (Ok text) = (moved ≡ Ok tt) × (string_bytes text ≡ version_line)
PrintsMoved moved (Err fault) = moved ≡ Err fault

-- what `migrate` prints, where `Comes` says how the tables were moved; memory may run out before that
abbrev pub Migrates : {M : Type 0} → (Done → M → M → Type 0) → Result (String Global) Fault → M → M
    → Type 0
Migrates Comes result old new = ((result ≡ Err Memory) × (new ≡ old))
    ⊎ ((moved : Done) × PrintsMoved moved result × Comes moved old new)

-- ---- a journal for a register that has none

-- its id, on a line
abbrev pub journal_line : List ℕ → List ℕ
journal_line id = codes "journal " ++ (id ++ codes "\n")

-- what is printed once the register has its place, or why it has none
abbrev pub PrintsBegun : Place → Done → Result (String Global) Fault → Type 0
PrintsBegun first begun (Ok text) = (begun ≡ Ok tt) × (string_bytes text ≡ journal_line first.id)
PrintsBegun first begun (Err fault) = begun ≡ Err fault

-- A JOURNAL IS BEGUN at a path for a register that was read, with this first place; or memory ran out
-- before
abbrev pub BeginsOver : {M J C T : Type 0} → Ghosts T → Logs M J C → Place → List ℕ
    → Result (String Global) Fault → M → M → Held T → Held T → Type 0
BeginsOver g logs first path result old new read after =
    ((result ≡ Err Memory) × (new ≡ old) × (after ≡ read))
    ⊎ ((begun : Done) × PrintsBegun first begun result
    × PlacesAt g logs path first begun old new read after)

-- over the database at a path, whose register has no journal; its first place is made of what a clock
-- of the machine showed before
pub record BeginsIn {M J C T : Type 0} (g : Ghosts T) (logs : Logs M J C) (moment : ℕ)
    (path journal : List ℕ) (result : Result (String Global) Fault) (old : M)
    (before after : Held T) (closed : Closed) (new : M) : Type 0 where
  pub report : Result (String Global) Fault
  pub did : (IsErrAnd report (λ fault. IsNotReadAlone g before fault after) × (new ≡ old))
      ⊎ ((R : Register) × (read : Held T) × IsReadAlone g before read R
      × BeginsOver g logs (first_place (board_files R) (made_at moment path journal)) journal report
      old new read after)
  pub result_is : result ≡ first_fault report closed

abbrev pub BeginsJournal : {M S J C : Type 0} → Logs M J C → Ghosts S → Opening M S
    → Shutting M → Ending M S → List ℕ → List ℕ → Result (String Global) Fault → M → M → Type 0
BeginsJournal {C = C} logs g opens shuts ends path journal result old new = (time : C)
    × logs.steps.has_time old time × (moment : ℕ) × logs.shows time moment
    × Comes opens shuts ends path (BeginsIn g logs moment path journal) result old new

-- ---- what is asked for

-- the tables are moved, where no number is named
abbrev pub MovesUnless : {M : Type 0} → (Done → M → M → Type 0) → Option (Bor (List ℕ))
    → Result (String Global) Fault → M → M → Type 0
MovesUnless Moves None result old new = Migrates Moves result old new
MovesUnless Moves (Some after) result old new = (result ≡ Err (Journal Missing)) × (new ≡ old)

-- a journal is begun; or a part of one, where the number is named at which it ends
abbrev pub BeginsWith : {M S J C : Type 0} → Logs M J C → Ghosts S → Opening M S → Shutting M
    → Ending M S → List ℕ → List ℕ → Option (Bor (List ℕ)) → Result (String Global) Fault → M → M
    → Type 0
BeginsWith logs g opens shuts ends path journal None =
    BeginsJournal logs g opens shuts ends path journal
BeginsWith logs g opens shuts ends path journal (Some after) =
    BeginsAfter logs g opens shuts ends path journal after.now

-- what `migrate` does of what it is asked
abbrev pub MigratesBy : {M S J C : Type 0} → Logs M J C → Ghosts S → Opening M S
    → Shutting M → Ending M S → List ℕ → Option (Bor (List ℕ)) → Option (Bor (List ℕ))
    → Result (String Global) Fault → M → M → Type 0
MigratesBy logs g opens shuts ends path None after =
    MovesUnless (Comes opens shuts ends path (Alone (MovesRegister g))) after
MigratesBy logs g opens shuts ends path (Some journal) after =
    BeginsWith logs g opens shuts ends path journal.now after

abbrev pub MigratesAt : {M S J C : Type 0} → Logs M J C → Ghosts S → Opening M S
    → Shutting M → Ending M S → MigrateArgs → Result (String Global) Fault → M → M → Type 0
MigratesAt logs g opens shuts ends args =
    MigratesBy logs g opens shuts ends args.database.now args.journal args.after
