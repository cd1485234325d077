-- A REGISTER WHILE ITS DATABASE IS OPEN, with a journal or without one: how it is taken up from the
-- database, and how it is let go.
use Rattle.std.specs.Prelude.{◌≡◌, ◌⊎◌, ℕ, false, IsErrAnd, List, None, Option, Result, Some}
use Rattle.std.specs.Borrow.{Bor}
use Rattle.sqlite.specs.Held.{Held, state}
use Rattle.sqlite.specs.State.{HasCleanDisk, State, Survives}
use Rattle.sqlite_trees.specs.declared.store.Store.{Ghosts}
use Rattle.clr_rules.specs.Fit.{IsFit}
use Rattle.clr_rules.specs.Good.{IsGood}
use Rattle.clr_rules.specs.Register.{Register}
use Rattle.clr_rules.specs.Staffed.{IsStaffed}
use Rattle.clr_desk.specs.Faults.{FailsAsStore}
use Rattle.clr_desk.specs.Placing.{Placing}
use Rattle.clr_desk.specs.Taking.{PassesOver}
use Rattle.clr_desk.specs.declared.commit.Commit as commit
use Rattle.clr_desk.specs.declared.desk.Desk.{Desk}
use Rattle.clr_rules.specs.declared.place.Place.{Place}
use Rattle.clr_journal.specs.declared.journal.Journal as append
use Rattle.clr_level.specs.Journaling.{FailsToo, IsLeftAs, IsSound, Journals, is_doubtful}
use Rattle.clr_level.specs.Levelling.{IsKeptLevel}
use Rattle.clr_level.specs.Restarting.{IsSafeAt}
use Rattle.clr_level.specs.declared.keeper.Keeper.{Keeper}
use Rattle.clr_edge.specs.Database.{HasRegister, IsDatabaseFault, IsOnlyRead, IsRefused}
use Rattle.clr_edge.specs.Database.{ReadsAs}
use Rattle.clr_edge.specs.Fault.{of_database}
use Rattle.clr_keeping.specs.TakenUp.{HasPlace, IsNotTakenUp, IsTakenUp, IsUnplaced, IsUnsuited, Logs}
use Rattle.clr_keeping.specs.TakenUp.{store_place}
use Rattle.clr_edge.specs.Visit.{Closed, Ending, Opening, Shutting, Visits}
use Rattle.clr_edge.specs.declared.fault.DatabaseFault.{DatabaseFault}
use Rattle.clr_edge.specs.declared.fault.Fault.{Fault}
use Rattle.clr_edge.specs.declared.fault.Fault.TheVariants.{Journal}
use Rattle.clr_edge.specs.declared.fault.JournalFault.TheVariants.{Missing}
use Rattle.clr_edge.specs.declared.journals.Journals as journals
use Rattle.clr_keeping.specs.declared.taking_up.Opened.{Opened}
use Rattle.clr_keeping.specs.declared.taking_up.Opened.TheVariants.{Logged, Plain}

-- ---- without a journal

-- A REGISTER WAS READ from a database, which was not changed: it is good and staffed, and where the
-- database is known to have a register it is that one
pub record IsReadFrom {T : Type 0} (g : Ghosts T) (before after : Held T) (S : Register) : Type 0 where
  pub read : IsOnlyRead g before after
  pub fit : IsFit S
  pub is_register : (R : Register) → HasRegister g R before → HasCleanDisk (state g after) → S ≡ R
  pub reads : ReadsAs g before after S

-- IT WAS NOT READ, since its tables were refused; those of a register that is known are refused by
-- the database alone, or since memory ran out
pub record IsNotRead {T : Type 0} (g : Ghosts T) (before : Held T) (fault : Fault) (after : Held T)
    : Type 0 where
  pub refused : IsRefused g before fault after
  pub survives : Survives (state g before) (state g after) (λ _. ⊥)
  pub known : (R : Register) → HasRegister g R before → HasCleanDisk (state g after)
      → IsDatabaseFault fault

-- IT HAS A JOURNAL, and none was named: its database was only read
pub record MissesJournal {T : Type 0} (g : Ghosts T) (before : Held T) (fault : Fault)
    (after : Held T) : Type 0 where
  pub place : Place
  pub unsuited : IsUnsuited g before (Some place) after
  pub fault_is : fault ≡ Journal Missing

-- A REGISTER THAT HAS NO JOURNAL was read, so that it may be changed without one
abbrev pub IsReadAlone : {T : Type 0} → Ghosts T → Held T → Held T → Register → Type 0
IsReadAlone g before after S = IsReadFrom g before after S × HasPlace g before after None

-- it was not: its tables or its place were refused, or it has a journal
abbrev pub IsNotReadAlone : {T : Type 0} → Ghosts T → Held T → Fault → Held T → Type 0
IsNotReadAlone g before fault after = IsNotRead g before fault after
    ⊎ IsUnplaced g before fault after
    ⊎ MissesJournal g before fault after

-- its database is given back as it is
abbrev pub GoesPlain : {M T : Type 0} → M → M → Held T → Held T → Type 0
GoesPlain old new it after = (new ≡ old) × (after ≡ it)

-- ---- with one

-- the journal as it is left, with the withdrawal that is owed
abbrev pub IsLeftBy : {J C T : Type 0} → append.Ghosts J → Keeper (Held T) J C → J → Type 0
IsLeftBy log it journal = IsLeftAs log.text log.may_leave log.is_usable it journal

-- that is let go, and the database given back
abbrev pub GoesLogged : {M J C T : Type 0} → Logs M J C → M → M → Keeper (Held T) J C → Held T
    → Type 0
GoesLogged {J = J} logs old new it after = (journal : J) × IsLeftBy logs.log it journal
    × logs.steps.lets_journal_go old journal new × (after ≡ it.keeper)

-- ---- either

-- HOW A REGISTER IS KEPT while its database is open: by a keeper of its changes, with the steps of a
-- machine that take it up, that do not, and that let it go; and what stays so from the one to the
-- other
pub record Keeping (M T K : Type 0) : Type 1 where
  pub keeper : commit.Ghosts K
  pub takes_up : M → M → Held T → Desk K → Type 0
  pub refuses : M → M → Held T → Fault → Held T → Type 0
  pub lets_go : M → M → K → Held T → Type 0
  pub stays : Desk K → Desk K → Type 0

-- in the database alone
abbrev pub plain_keeper : {T : Type 0} → Ghosts T → commit.Ghosts (Held T)
plain_keeper g =
    record {
      kept = state g;
      fails = FailsAsStore;
      takes = PassesOver;
      doubts = λ _. false;
    }

abbrev pub plain : {M T : Type 0} → Ghosts T → Keeping M T (Held T)
plain g = record {
  keeper = plain_keeper g;
  takes_up = λ old new before desk.
      (new ≡ old) × IsReadFrom g before desk.store desk.book.register;
  refuses = λ old new before fault after. (new ≡ old) × IsNotRead g before fault after;
  lets_go = GoesPlain;
  stays = λ taken left. Unit {0};
}

-- the same of a register that is to be changed: it has no journal
abbrev pub unlogged : {M T : Type 0} → Ghosts T → Keeping M T (Held T)
unlogged g = record {
  keeper = plain_keeper g;
  takes_up = λ old new before desk.
      (new ≡ old) × IsReadAlone g before desk.store desk.book.register;
  refuses = λ old new before fault after. (new ≡ old) × IsNotReadAlone g before fault after;
  lets_go = GoesPlain;
  stays = λ taken left. Unit {0};
}

-- with a journal: a command that is carried out has its line there, and one that is accepted has it
-- durably before its change is kept, with the place at that line. Of an update or an archive
-- `renew` of clr_level says it
abbrev pub logged_keeper : {M J C T : Type 0} → Ghosts T → Logs M J C
    → commit.Ghosts (Keeper (Held T) J C)
logged_keeper {M} {J} {C} {T} g logs = record {
  kept = λ (it : Keeper (Held T) J C). state g it.keeper;
  fails = FailsToo FailsAsStore;
  takes = Journals PassesOver (state g) store_place logs.shows logs.log.text logs.log.found
      logs.log.may_leave logs.log.is_usable;
  doubts = λ (it : Keeper (Held T) J C). is_doubtful it.last;
}

-- A REGISTER AND ITS JOURNAL STAY LEVEL: where they were level, over whatever register and first
-- line the journal began with, they are
abbrev pub StaysLevel : {K J C : Type 0} → (K → State) → Placing → (J → List ℕ)
    → Desk (Keeper K J C) → Desk (Keeper K J C) → Type 0
StaysLevel kept has_place text taken left = (first : Register) (start : Place) → IsGood first
    → IsKeptLevel kept has_place text first start taken.book.register taken.store
    → IsKeptLevel kept has_place text first start left.book.register left.store

-- AND WHAT THE KEEPER HOLDS OF ITS JOURNAL STAYS TRUE
abbrev pub StaysSound : {K J C : Type 0} → (J → List ℕ) → (J → List ℕ) → (J → List ℕ → Type 0)
    → Desk (Keeper K J C) → Desk (Keeper K J C) → Type 0
StaysSound text found may_leave taken left = IsSound text found may_leave taken.store
    → IsSound text found may_leave left.store

-- AND THE LINES THAT THE REGISTER HAS STAY SAFE: where a crash left them, over whatever register and
-- first line, it leaves those that the register has then
abbrev pub StaysSafe : {K J C : Type 0} → (K → State) → Placing → (J → List ℕ)
    → (J → List ℕ → Type 0) → Desk (Keeper K J C) → Desk (Keeper K J C) → Type 0
StaysSafe kept has_place text may_leave taken left = (first : Register) (start : Place)
    → IsGood first
    → IsKeptLevel kept has_place text first start taken.book.register taken.store
    → IsSafeAt kept has_place text may_leave first start taken.book.register taken.store
    → IsSafeAt kept has_place text may_leave first start left.book.register left.store

-- all of it
abbrev pub StaysOne : {K J C : Type 0} → (K → State) → Placing → append.Ghosts J
    → Desk (Keeper K J C) → Desk (Keeper K J C) → Type 0
StaysOne kept has_place log taken left = StaysLevel kept has_place log.text taken left
    × StaysSound log.text log.found log.may_leave taken left
    × StaysSafe kept has_place log.text log.may_leave taken left

-- the one at a path, in which what was accepted after the register's place is carried out
abbrev pub logged : {M J C T : Type 0} → Ghosts T → Logs M J C → List ℕ
    → Keeping M T (Keeper (Held T) J C)
logged g logs path = record {
  keeper = logged_keeper g logs;
  takes_up = λ old new before desk.
      IsTakenUp g logs path old new before desk.store desk.book.register;
  refuses = λ old new before fault after. IsNotTakenUp g logs path before fault after old new;
  lets_go = GoesLogged logs;
  stays = StaysOne (state g) store_place logs.log;
}

-- ---- what is done over it

-- A REGISTER WAS TAKEN UP FROM A DATABASE by a desk that had answered no fault, something was done
-- over that desk, and it was let go as that left it
pub record Works {M T K : Type 0} (by : Keeping M T K) (Did : M → M → Desk K → Desk K → Type 0)
    (old new : M) (before after : Held T) : Type 0 where
  pub taken : Desk K
  pub between : M
  pub good : IsGood taken.book.register
  pub staffed : IsStaffed taken.book.register
  pub uncounted : taken.faults ≡ 0
  pub taken_up : by.takes_up old between before taken
  pub left : Desk K
  pub later : M
  pub did : Did between later taken left
  pub stays : by.stays taken left
  pub gone : by.lets_go later new left.store after

-- the same, unless it was not taken up, and then nothing more was done. The database is closed after
-- it, and the result is what comes of that too
pub record WorksIn {M T K R : Type 0} (by : Keeping M T K) (Idle : Type 0)
    (Did : Result R Fault → M → M → Desk K → Desk K → Type 0)
    (closed_as : Result R Fault → Closed → Result R Fault) (result : Result R Fault) (old : M)
    (before after : Held T) (closed : Closed) (new : M) : Type 0 where
  pub told : Result R Fault
  pub works : (IsErrAnd told (λ fault. by.refuses old new before fault after) × Idle)
      ⊎ Works by (Did told) old new before after
  pub result_is : result ≡ closed_as told closed

-- with the journal at a path, if one is named: what is done over a desk without one, and with it
abbrev pub WorksEither : {M J C T R : Type 0} → Logs M J C → Ghosts T → Option (Bor (List ℕ))
    → Type 0 → (Result R Fault → M → M → Desk (Held T) → Desk (Held T) → Type 0)
    → (Result R Fault → M → M → Desk (Keeper (Held T) J C) → Desk (Keeper (Held T) J C) → Type 0)
    → (Result R Fault → Closed → Result R Fault) → Result R Fault → M → Held T → Held T → Closed → M
    → Type 0
WorksEither logs g None Idle Plainly Loggedly = WorksIn (unlogged g) Idle Plainly
WorksEither logs g (Some journal) Idle Plainly Loggedly =
    WorksIn (logged g logs journal.now) Idle Loggedly

-- the same over either
abbrev pub WorksWith : {M J C T R : Type 0} → Logs M J C → Ghosts T → Option (Bor (List ℕ)) → Type 0
    → ((K : Type 0) → commit.Ghosts K → Result R Fault → M → M → Desk K → Desk K → Type 0)
    → (Result R Fault → Closed → Result R Fault) → Result R Fault → M → Held T → Held T → Closed → M
    → Type 0
WorksWith {J = J} {C = C} {T = T} logs g journal Idle Did =
    WorksEither logs g journal Idle (Did (Held T) (plain_keeper g))
    (Did (Keeper (Held T) J C) (logged_keeper g logs))

-- ---- how it is opened and closed

-- A REGISTER WAS TAKEN UP from the database at a path, with no transaction open, and a desk has it
-- that has answered no fault
pub record IsUp {M T K : Type 0} (opens : Opening M T) (path : List ℕ) (by : Keeping M T K)
    (old new : M) (desk : Desk K) : Type 0 where
  pub before : Held T
  pub middle : M
  pub opened : opens old path before middle
  pub mode : before.in_transaction ≡ false
  pub good : IsGood desk.book.register
  pub staffed : IsStaffed desk.book.register
  pub uncounted : desk.faults ≡ 0
  pub taken_up : by.takes_up middle new before desk

-- it was not: the database was not opened, or the register was refused, and the database closed
abbrev pub IsNotUp : {M T K : Type 0} → Opening M T → Shutting M → Ending M T → List ℕ
    → Keeping M T K → M → M → Fault → Type 0
IsNotUp opens shuts ends path by old new fault =
    ((cause : DatabaseFault) × (fault ≡ of_database cause) × shuts old path cause new)
    ⊎ Visits opens ends path (λ middle before after closed later.
    by.refuses middle later before fault after) old new

-- what kept it was let go, and its database closed
abbrev pub IsGone : {M T K : Type 0} → (M → M → K → Held T → Type 0) → Ending M T → K → Closed → M
    → M → Type 0
IsGone {M} {T} lets_go ends it closed old new = (after : Held T) × (middle : M)
    × lets_go old middle it after × ends middle after closed new

-- ---- by the path of a journal, if one is named

abbrev pub IsUpWith : {M J C T : Type 0} → Ghosts T → Opening M T → List ℕ → Logs M J C
    → Option (Bor (List ℕ)) → M → M → Opened (Held T) J C → Type 0
IsUpWith g opens path logs None old new (Plain desk) =
    IsUp opens path (unlogged g) old new desk
IsUpWith g opens path logs (Some journal) old new (Logged desk) =
    IsUp opens path (logged g logs journal.now) old new desk
IsUpWith g opens path logs None old new (Logged desk) = ⊥
IsUpWith g opens path logs (Some journal) old new (Plain desk) = ⊥

abbrev pub IsNotUpWith : {M J C T : Type 0} → Ghosts T → Opening M T → Shutting M → Ending M T
    → List ℕ → Logs M J C → Option (Bor (List ℕ)) → M → M → Fault → Type 0
IsNotUpWith g opens shuts ends path logs None = IsNotUp opens shuts ends path (unlogged g)
IsNotUpWith g opens shuts ends path logs (Some journal) =
    IsNotUp opens shuts ends path (logged g logs journal.now)

-- THE REGISTER WAS LET GO, its journal first, if it has one, and its database closed
abbrev pub IsLetGo : {M J C T : Type 0} → Ending M T → Logs M J C → Opened (Held T) J C
    → Closed → M → M → Type 0
IsLetGo ends logs (Plain desk) = IsGone GoesPlain ends desk.store
IsLetGo ends logs (Logged desk) = IsGone (GoesLogged logs) ends desk.store

-- its desk was ended: its database is handed back, and its journal, if it has one
abbrev pub IsEnded : {T J C : Type 0} → append.Ghosts J → Opened (Held T) J C → Held T → Option J
    → Type 0
IsEnded log (Plain desk) database None = database ≡ desk.store
IsEnded log (Logged desk) database (Some journal) =
    (database ≡ desk.store.keeper) × IsLeftBy log desk.store journal
IsEnded log opened database journal = ⊥

-- what is done over its desk, whichever that is
abbrev pub IsDoneOver : {K J C : Type 0} → (Desk K → Desk K → Type 0)
    → (Desk (Keeper K J C) → Desk (Keeper K J C) → Type 0) → Opened K J C → Opened K J C
    → Type 0
IsDoneOver Plainly Loggedly (Plain old) (Plain new) = Plainly old new
IsDoneOver Plainly Loggedly (Logged old) (Logged new) = Loggedly old new
IsDoneOver Plainly Loggedly (Plain old) (Logged new) = ⊥
IsDoneOver Plainly Loggedly (Logged old) (Plain new) = ⊥

-- where it has a journal, it stays level with it, and its lines safe
abbrev pub StaysLevelOver : {K J C : Type 0} → (K → State) → Placing → append.Ghosts J
    → Opened K J C → Opened K J C → Type 0
StaysLevelOver kept has_place log (Plain old) (Plain new) = Unit {0}
StaysLevelOver kept has_place log (Logged old) (Logged new) = StaysOne kept has_place log old new
StaysLevelOver kept has_place log (Plain old) (Logged new) = ⊥
StaysLevelOver kept has_place log (Logged old) (Plain new) = ⊥
