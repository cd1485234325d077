-- AN UPDATE OR AN ARCHIVE of a register with a journal: its line comes first and is durable, then
-- what it changes is kept, with the place at that line.
use Rattle.std.specs.Prelude.{◌≡◌, ℕ, Bool, List, Ok, Err, IfErr, OnErr, OnOk}
use Rattle.sqlite.specs.State.{HasCleanDisk, State, Survives}
use Rattle.sqlite.specs.Tree.{Trees}
use Rattle.clr_changes.specs.Deeds.{Deed, after_deed}
use Rattle.clr_rules.specs.Good.{IsGood}
use Rattle.clr_rules.specs.Register.{Register}
use Rattle.clr_rules.specs.declared.place.Place.{Place}
use Rattle.clr_load.specs.Contract.{IsSaved}
use Rattle.clr_journal.specs.Line.{Entry}
use Rattle.clr_chain.specs.Chain.{chain_text}
use Rattle.clr_chain.specs.Level.{place_after}
use Rattle.clr_desk.specs.Faults.{IsOfKeeper}
use Rattle.clr_desk.specs.Kept.{Keeps}
use Rattle.clr_desk.specs.Placing.{Placing}
use Rattle.clr_desk.specs.Taking.{Came, Taking}
use Rattle.clr_desk.specs.declared.desk.Desk.{Desk}
use Rattle.clr_desk.specs.declared.desk_fault.DeskFault.{DeskFault}
use Rattle.clr_level.specs.Carrying.{AreDoneAt, CarriesDeed}
use Rattle.clr_level.specs.Forward.{IsNoCommand}
use Rattle.clr_level.specs.Crash.{KeepsTables}
use Rattle.clr_level.specs.Journaling.{DoubtHasCause, FailsToo, IsBeside, IsDeedNoted}
use Rattle.clr_level.specs.Journaling.{IsDeedUnwritten, IsDurable, IsSafe, IsSound, IsWithdrawn}
use Rattle.clr_level.specs.Journaling.{StaySafe}
use Rattle.clr_level.specs.Levelling.{IsKeptLevel}
use Rattle.clr_level.specs.Placing.{ComesTo, StaysShown}
use Rattle.clr_level.specs.Restarting.{HasLines, IsSafeAt}
use Rattle.clr_level.specs.declared.keeper.Keeper.{Keeper}
use Rattle.clr_level.specs.declared.last.Last.{Last}
use Rattle.clr_level.specs.declared.last.Last.TheVariants.{Doubtful, Settled}

-- ---- once the line is durable

-- a fault of the keeper below leaves the last line in doubt: only an opening decides then
abbrev pub last_after : Came → Last → Last
last_after (Ok done) last = last
last_after (Err fault) last = Doubtful

-- A DEED WAS CARRIED OUT AT THE DESK BELOW, between these states of it, with the place that the
-- journal has come to
pub record CarriesBelow {K J C : Type 0} (kept : K → State) (takes : Taking K)
    (has_place : Placing) (fails : DeskFault → Type 0) (old new : Desk (Keeper K J C)) (deed : Deed)
    (came : Came) : Type 0 where
  pub before : Desk K
  pub after : Desk K
  pub carried : CarriesDeed kept takes has_place fails before after deed old.store.at came
  pub book : before.book ≡ old.book
  pub keeper : before.store ≡ old.store.keeper
  pub book_after : new.book ≡ after.book
  pub keeper_after : new.store.keeper ≡ after.store
  pub beside : IsBeside old.store new.store
  pub last : new.store.last ≡ last_after came old.store.last

-- ---- what a crash leaves

-- THE LINES WITH THAT OF A DEED ARE SAFE: the register after it has them, the journal has come to
-- their end, and whatever a crash leaves of it begins with them
pub record HasSafeLine {K J C : Type 0} (text : J → List ℕ) (may_leave : J → List ℕ → Type 0)
    (first : Register) (start : Place) (S : Register) (it : Keeper K J C) : Type 0 where
  pub had : List Entry
  pub has : HasLines first start had S
  pub end_is : it.at ≡ place_after start had
  pub safe : IsSafe text may_leave (chain_text start had) it.journal

-- these trees are those after a deed, with the place at its line; and where register and journal were
-- level, the lines with that one are safe
abbrev pub AreDoneSafely : {K J C : Type 0} → (K → State) → Placing → (J → List ℕ)
    → (J → List ℕ → Type 0) → Register → Keeper K J C → Deed → Keeper K J C → Trees → Type 0
AreDoneSafely kept has_place text may_leave R old deed new trees =
    AreDoneAt has_place (kept old.keeper).now R deed new.at trees
    × ((first : Register) (start : Place) → IsKeptLevel kept has_place text first start R old
    → HasSafeLine text may_leave first start (after_deed R deed) new)

-- ---- what comes of it

-- A DEED IS NOT CARRIED OUT: its line was not written, or not synced, and the keeper below was not
-- called; or that failed after the line, which is durable, and only an opening decides
pub data MissesDeed {K J C : Type 0} (kept : K → State) (fails : DeskFault → Type 0)
    (shows : C → ℕ → Type 0) (text found : J → List ℕ) (may_leave : J → List ℕ → Type 0)
    (is_usable : J → Bool) (old : Keeper K J C) (deed : Deed) (fault : DeskFault)
    (new : Keeper K J C) : Type 0 where
  unwritten : IsDeedUnwritten shows text found may_leave old deed fault new
      → DoubtHasCause is_usable old new → new.keeper ≡ old.keeper
      → MissesDeed kept fails shows text found may_leave is_usable old deed fault new
  unkept : IsDeedNoted shows text old deed new → new.last ≡ Doubtful
      → IsDurable text may_leave new.journal → IsOfKeeper fails fault
      → StaysShown (kept old.keeper) (kept new.keeper)
      → MissesDeed kept fails shows text found may_leave is_usable old deed fault new

-- A DEED AT A KEEPER WITH A JOURNAL: it is carried out only with its line, which is durable
pub record JournalsDeed {K J C : Type 0} (kept : K → State) (fails : DeskFault → Type 0)
    (shows : C → ℕ → Type 0) (text found : J → List ℕ) (may_leave : J → List ℕ → Type 0)
    (is_usable : J → Bool) (old : Keeper K J C) (deed : Deed) (came : Came) (new : Keeper K J C)
    : Type 0 where
  pub noted : OnOk came (IsDeedNoted shows text old deed new × (new.last ≡ Settled))
  pub durable : OnOk came (IsDurable text may_leave new.journal)
  pub missed : IfErr came (λ fault.
      MissesDeed kept fails shows text found may_leave is_usable old deed fault new)
  pub sound : IsSound text found may_leave old → IsSound text found may_leave new
  pub safe : StaySafe text may_leave old.journal new.journal
  pub withdrawn : IsWithdrawn text may_leave old new

-- A DESK WITH A JOURNAL CARRIES OUT A DEED: where the register is good it is the one after the deed,
-- in the book and in what keeps its tables, with the place at the line of the deed. Or a fault leaves
-- register and place, but for what an opening makes of the line. A crash leaves what it left before,
-- or both
pub record RenewsAt {K J C : Type 0} (kept : K → State) (has_place : Placing)
    (fails : DeskFault → Type 0) (shows : C → ℕ → Type 0) (text found : J → List ℕ)
    (may_leave : J → List ℕ → Type 0) (is_usable : J → Bool) (old new : Desk (Keeper K J C))
    (deed : Deed) (came : Came) : Type 0 where
  pub register : IsGood old.book.register
      → OnOk came (new.book.register ≡ after_deed old.book.register deed)
  pub placed : IsGood old.book.register
      → OnOk came (ComesTo has_place (kept old.store.keeper) (kept new.store.keeper) new.store.at)
  pub tables : OnOk came (KeepsTables (λ (it : Keeper K J C). kept it.keeper) old new)
  pub saved : HasCleanDisk (kept new.store.keeper) → IsNoCommand deed
      → OnOk came (IsSaved (kept new.store.keeper))
  pub unchanged : OnErr came (new.book.register ≡ old.book.register)
  pub stays : OnErr came (StaysShown (kept old.store.keeper) (kept new.store.keeper))
  pub journals : JournalsDeed kept fails shows text found may_leave is_usable old.store deed came
      new.store
  pub keeps : Keeps (kept old.store.keeper) old.book.register (kept new.store.keeper)
      new.book.register
  pub crash : Survives (kept old.store.keeper) (kept new.store.keeper)
      (AreDoneSafely kept has_place text may_leave old.book.register old.store deed new.store)
  pub fault : IfErr came (IsOfKeeper (FailsToo fails))

-- ---- level

-- REGISTER AND JOURNAL STAY LEVEL over an update and over an archive
abbrev pub RenewalsKeepLevel : {K J C : Type 0} → (K → State) → Placing → (J → List ℕ)
    → Desk (Keeper K J C) → Desk (Keeper K J C) → Type 0
RenewalsKeepLevel kept has_place text old new = (first : Register) (start : Place) → IsGood first
    → IsKeptLevel kept has_place text first start old.book.register old.store
    → IsKeptLevel kept has_place text first start new.book.register new.store

-- AND THE LINES THAT A REGISTER HAS STAY SAFE
abbrev pub RenewalsKeepSafe : {K J C : Type 0} → (K → State) → Placing → (J → List ℕ)
    → (J → List ℕ → Type 0) → Desk (Keeper K J C) → Desk (Keeper K J C) → Type 0
RenewalsKeepSafe kept has_place text may_leave old new = (first : Register) (start : Place)
    → IsGood first → IsKeptLevel kept has_place text first start old.book.register old.store
    → IsSafeAt kept has_place text may_leave first start old.book.register old.store
    → IsSafeAt kept has_place text may_leave first start new.book.register new.store
