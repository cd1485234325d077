-- WHAT `archive` DOES: of the register that a database has, the records that were closed before a
-- moment go out with their steps, and then these steps leave the tables.
use Rattle.std.specs.Prelude.{◌≡◌, ◌⊎◌, ℕ, IfErr, IsErrAnd, IsTrue, List, OnErr, OnOk}
use Rattle.sqlite.specs.Held.{Held, state}
use Rattle.sqlite.specs.State.{HasCleanDisk, State, Survives}
use Rattle.sqlite_trees.specs.declared.store.Store.{Ghosts}
use Rattle.clr_changes.specs.Archive.{archived}
use Rattle.clr_args.specs.declared.asked.ArchiveArgs.{ArchiveArgs}
use Rattle.clr_changes.specs.Deeds.{archive}
use Rattle.clr_desk.specs.Archiving.{AreArchived}
use Rattle.clr_desk.specs.Faults.{FailsAsStore}
use Rattle.clr_desk.specs.declared.commit.Commit as commit
use Rattle.clr_desk.specs.declared.desk.Desk.{Desk}
use Rattle.clr_level.specs.declared.keeper.Keeper.{Keeper}
use Rattle.clr_load.specs.Contract.{IsSaved}
use Rattle.clr_load.specs.Stored.{HasTables}
use Rattle.clr_rules.specs.Register.{Register}
use Rattle.clr_stream.specs.Streams.{IsCut, Stream, WentOut}
use Rattle.clr_load.specs.Tables.{tables_of}
use Rattle.clr_keeping.specs.Keeping.{WorksEither, logged_keeper, plain_keeper}
use Rattle.clr_keeping.specs.TakenUp.{Logs, store_place}
use Rattle.clr_edge.specs.Visit.{Closed, Comes, Done, Ending, Opening, Shutting, first_fault}
use Rattle.clr_edge.specs.declared.fault.Fault.{Fault}
use Rattle.clr_edge.specs.declared.fault.Fault.TheVariants.{Memory, Output}
use Rattle.clr_commands.specs.ArchiveText.{archive_text}
use Rattle.clr_commands.specs.DeedLines.{IsJournaled}
use Rattle.clr_commands.specs.Faults.{IsOfDesk}

-- a text did not go out whole: a part did, and the output failed; or memory ran out before it
abbrev pub IsUnsent : Stream → Stream → List ℕ → Fault → Type 0
IsUnsent output output' text fault = ((fault ≡ Output) × IsCut output output' text)
    ⊎ ((fault ≡ Memory) × (output' ≡ output))

-- THE STEPS OF PAST RECORDS LEFT THE TABLES of a register, in one transaction, and this is saved;
-- or at a fault they are as they were. A crash leaves the tables before or after
pub record TakesOut {K : Type 0} (kept : K → State) (before : ℕ) (R : Register) (reported : Done)
    (read after : K) : Type 0 where
  pub taken : HasCleanDisk (kept after) → HasTables (kept read).now (tables_of R)
      → OnOk reported (HasTables (kept after).now (tables_of (archived before R)))
  pub saved : HasCleanDisk (kept after) → OnOk reported (IsSaved (kept after))
  pub none : HasCleanDisk (kept after) → IsTrue (kept after).is_open
      → OnErr reported ((kept after).now ≡ (kept read).now)
  pub crash : Survives (kept read) (kept after) (AreArchived (kept read).now before R)

-- EACH STEP IS IN THE OUTPUT, OR IN THE TABLES, OR IN BOTH: all went out and was flushed where any
-- step may have left the tables, and these are as they were read where not all went out
abbrev pub IsArchived : {K : Type 0} → commit.Ghosts K → ℕ → Stream → Stream → Register → Done → K
    → K → Type 0
IsArchived keeper before output output' R reported read after =
    (WentOut output output' (archive_text before R)
    × TakesOut keeper.kept before R reported read after × IfErr reported (IsOfDesk keeper.fails))
    ⊎ ((after ≡ read) × IsErrAnd reported (IsUnsent output output' (archive_text before R)))

-- the same of the register of a desk, with no step of the machine
abbrev pub ArchivesAlone : {M : Type 0} → ℕ → Stream → Stream → (K : Type 0) → commit.Ghosts K
    → Done → M → M → Desk K → Desk K → Type 0
ArchivesAlone before output output' K keeper reported old new taken left = (new ≡ old)
    × IsArchived keeper before output output' taken.book.register reported taken.store left.store

-- with a journal, in which the archive has its line
abbrev pub ArchivesLogged : {M J C S : Type 0} → Logs M J C → Ghosts S → ℕ → Stream → Stream → Done
    → M → M → Desk (Keeper (Held S) J C) → Desk (Keeper (Held S) J C) → Type 0
ArchivesLogged {J = J} {C = C} {S = S} logs g before output output' reported old new taken left =
    ArchivesAlone before output output' (Keeper (Held S) J C) (logged_keeper g logs) reported
    old new taken left
    × IsJournaled (state g) store_place FailsAsStore logs.shows logs.log taken (archive before)
    reported left

-- with a journal or without one: the register is taken up, archived and let go, and the database
-- closed. Where it was not taken up nothing went out. The first fault is the result
abbrev pub ArchivesOver : {M J C S : Type 0} → Logs M J C → Ghosts S → ArchiveArgs → Stream
    → Stream → Done → M → Held S → Held S → Closed → M → Type 0
ArchivesOver {S = S} logs g args output output' = WorksEither logs g args.journal
    (output' ≡ output) (ArchivesAlone args.before output output' (Held S) (plain_keeper g))
    (ArchivesLogged logs g args.before output output') first_fault

-- over the database at a path; where that was not opened, nothing went out
abbrev pub ArchivesAt : {M J C S : Type 0} → Logs M J C → Ghosts S → Opening M S → Shutting M
    → Ending M S → ArchiveArgs → Stream → Stream → Done → M → M → Type 0
ArchivesAt logs g opens shuts ends args output output' =
    Comes opens (λ old path fault new. shuts old path fault new × (output' ≡ output)) ends
    args.database.now (ArchivesOver logs g args output output')
