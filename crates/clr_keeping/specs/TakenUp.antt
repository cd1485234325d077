-- A REGISTER IS TAKEN UP WITH ITS JOURNAL, or it is not: the place of the register is read from its
-- database, the journal is opened at that place, and what was accepted after it is carried out.
use Rattle.std.specs.Prelude.{◌≡◌, ◌⊎◌, ℕ, false, Err, IsTrue, List, None, Ok, Option, Some, map}
use Rattle.std.specs.Prelude.{option_map}
use Rattle.sqlite.specs.Held.{Held, state}
use Rattle.sqlite.specs.Order.{Row}
use Rattle.sqlite.specs.State.{HasCleanDisk, State, Survives}
use Rattle.sqlite_trees.specs.declared.store.Store.{Ghosts}
use Rattle.clr_journal.specs.declared.journal.Journal as append
use Rattle.clr_rules.specs.Fit.{IsFit}
use Rattle.clr_rules.specs.Good.{IsGood}
use Rattle.clr_rules.specs.Register.{Register}
use Rattle.clr_rules.specs.Staffed.{IsStaffed}
use Rattle.clr_rules.specs.declared.place.Place.{Place}
use Rattle.clr_load.specs.RowsRead.{place_read}
use Rattle.clr_load.specs.Tables.{Tables, place_row}
use Rattle.clr_load.specs.Cause.{SqlHasCause}
use Rattle.clr_load.specs.Contract.{Gives, IsSaved}
use Rattle.clr_load.specs.Stored.{ArePlaced, HasTables}
use Rattle.clr_load.specs.declared.fault.StoreFault.{StoreFault}
use Rattle.clr_desk.specs.Faults.{FailsAsStore}
use Rattle.clr_desk.specs.Kept.{Keeps}
use Rattle.clr_desk.specs.Placing.{Placing}
use Rattle.clr_desk.specs.declared.desk_fault.DeskFault.{DeskFault}
use Rattle.clr_journal.specs.Journals.{carried_out, withdraws}
use Rattle.clr_journal.specs.Line.{Entry, entry_of}
use Rattle.clr_chain.specs.Level.{IsRunOf}
use Rattle.clr_chain.specs.declared.finding.Ahead.{Ahead}
use Rattle.clr_level.specs.Crash.{AreRolled}
use Rattle.clr_level.specs.Forward.{AreShallow, CanBeOpened, IsOfForward, StopsAt}
use Rattle.clr_level.specs.Journaling.{IsSound}
use Rattle.clr_level.specs.Levelling.{IsKeptLevel}
use Rattle.clr_level.specs.Placing.{IsAt}
use Rattle.clr_level.specs.declared.fault.OpeningFault.{OpeningFault}
use Rattle.clr_level.specs.declared.fault.OpeningFault.TheVariants as opening
use Rattle.clr_level.specs.declared.keeper.Keeper.{Keeper}
use Rattle.clr_level.specs.declared.last.Last.TheVariants.{Settled}
use Rattle.clr_edge.specs.Database.{HasRegister, IsOnlyRead, IsRefused, ReadsAs}
use Rattle.clr_edge.specs.Fault.{of_desk, of_store}
use Rattle.clr_edge.specs.Journals.{IsOfOpening}
use Rattle.clr_edge.specs.declared.fault.Fault.{Fault}
use Rattle.clr_edge.specs.declared.fault.Fault.TheVariants.{Journal}
use Rattle.clr_edge.specs.declared.fault.JournalFault.TheVariants as why
use Rattle.clr_edge.specs.declared.journals.Journals as journals

-- how a machine opens journals, what one has, and what a clock of it shows
pub record Logs (M J C : Type 0) : Type 1 where
  pub steps : journals.Ghosts M J C
  pub log : append.Ghosts J
  pub shows : C → ℕ → Type 0

abbrev pub logs : {M J C : Type 0} → journals.Ghosts M J C → append.Ghosts J → (C → ℕ → Type 0)
    → Logs M J C
logs steps log shows = record { steps = steps; log = log; shows = shows }

-- ---- the faults

-- why a journal that was opened was not taken up
abbrev pub of_opening : OpeningFault → Fault
of_opening (opening.OtherRules number) = Journal (why.OtherRules number)
of_opening opening.OtherRegister = Journal why.OtherRegister
of_opening opening.TooShort = Journal why.TooShort
of_opening (opening.Differs number) = Journal (why.Differs number)
of_opening (opening.BadLine number) = Journal (why.BadLine number)
of_opening (opening.Desk cause) = of_desk cause

-- WHY A REGISTER IS NOT TAKEN UP: its database was refused; it has a journal and none is named, or
-- none and one is named; its journal was not opened; or the two do not go together
abbrev pub IsOfTakingUp : Fault → Type 0
IsOfTakingUp fault = ((cause : DeskFault) × (fault ≡ of_desk cause))
    ⊎ (fault ≡ Journal why.Missing)
    ⊎ IsOfOpening fault
    ⊎ ((cause : OpeningFault) × (fault ≡ of_opening cause))

-- ---- the place of a register

-- that trees have this place, or have none
abbrev pub store_place : Placing
store_place trees place = ArePlaced trees (option_map place_row place)

-- THE PLACE OF THE REGISTER of a database was read: this one, or none
abbrev pub HasPlace : {T : Type 0} → Ghosts T → Held T → Held T → Option Place → Type 0
HasPlace g before after place = HasCleanDisk (state g after) → IsTrue (state g after).is_open
    → (t : Tables) → HasTables (state g before).now t → (row : Option Row)
    → ArePlaced (state g before).now.trees row → place_read row ≡ Ok place

-- it was not read, though the register was: its row reads as none, the database failed, or memory
-- ran out
pub record LacksPlace {T : Type 0} (g : Ghosts T) (before : Held T) (fault : Fault)
    (after : Held T) : Type 0 where
  pub cause : StoreFault
  pub fault_is : fault ≡ of_store cause
  pub refused : HasCleanDisk (state g after) → IsTrue (state g after).is_open → (t : Tables)
      → HasTables (state g before).now t → (row : Option Row)
      → ArePlaced (state g before).now.trees row
      → Gives (λ (place : Option Place). place) (place_read row) (Err cause)
  pub has_cause : HasCleanDisk (state g after) → (t : Tables) → HasTables (state g before).now t
      → SqlHasCause (state g before) (state g after) cause

-- ---- with a journal

abbrev pub entries_of : Ahead → List Entry
entries_of ahead = map entry_of ahead.lines.items

-- what a database has after it was opened, which changes nothing, and the register that it had after
-- deeds
pub record IsKept {T : Type 0} (g : Ghosts T) (before after : Held T) (S : Register)
    : Type 0 where
  pub opened : Held T
  pub read : IsOnlyRead g before opened
  pub first : Register
  pub good : IsGood first
  pub staffed : IsStaffed first
  pub is_register : (R : Register) → HasRegister g R before → HasCleanDisk (state g opened)
      → first ≡ R
  pub reads : ReadsAs g before opened first
  pub keeps : Keeps (state g opened) first (state g after) S

-- WHERE REGISTER AND JOURNAL ARE LEVEL as they are opened, with these lines after the place of the
-- register, the keeper and the register that it is opened with are level too
abbrev pub OpensLevel : {T J C : Type 0} → Ghosts T → (J → List ℕ) → Held T → Register → Place
    → List Entry → Keeper (Held T) J C → Register → Type 0
OpensLevel g text opened R place lines it S = (first : Register) (start : Place) → IsGood first
    → CanBeOpened store_place first start place R (state g opened) (text it.journal) lines
    → IsKeptLevel (state g) store_place text first start S it

-- what the keeper holds of its journal is true
abbrev pub OpensSound : {M J C K : Type 0} → Logs M J C → Keeper K J C → Type 0
OpensSound logs it = IsSound logs.log.text logs.log.found logs.log.may_leave it

-- AND WHAT WAS ACCEPTED AFTER THE PLACE, and not withdrawn, was carried out with these replies,
-- whatever came before it; and the place is where the journal has come to
abbrev pub RollsForward : {T J C : Type 0} → Ghosts T → Held T → Register → Place → List Entry
    → Keeper (Held T) J C → Register → Type 0
RollsForward g opened R place lines it S = withdraws lines ≡ false → AreShallow lines
    → IsAt store_place (state g opened) place
    → IsRunOf R (carried_out lines) S × IsAt store_place (state g it.keeper) it.at

-- A CRASH LEAVES WHAT THE DATABASE HAD, or a register that is level with the lines up to some point,
-- with its place there, so that the next opening rolls it on. It was opened with this register
abbrev pub LeavesFronts : {T : Type 0} → Ghosts T → Held T → Held T → Register → Place
    → List Entry → Held T → Type 0
LeavesFronts g before opened R place lines after = Survives (state g before) (state g after)
    (AreRolled store_place (state g opened) R place lines)

-- ---- the same over a desk, whose register was read before

-- what is shown, what was committed and what a crash leaves stay as they are
pub record StaysRead (old new : State) : Type 0 where
  pub clean : HasCleanDisk new → HasCleanDisk old
  pub was_saved : HasCleanDisk new → IsTrue new.is_open → IsSaved old
  pub saved : HasCleanDisk new → IsTrue new.is_open → IsSaved new
  pub same : HasCleanDisk new → IsTrue new.is_open → new.now ≡ old.now
  pub survives : Survives old new (λ _. ⊥)

-- its place was not read, or it has one, though none is to be
abbrev pub MissesOne : {T : Type 0} → Ghosts T → Held T → Fault → Held T → Type 0
MissesOne g desk fault after = LacksPlace g desk fault after
    ⊎ ((fault ≡ Journal why.Missing) × (place : Place) × HasPlace g desk after (Some place))

-- lines after the place stopped: at one that differs, which changes nothing, or where a deed was
-- not carried out. A fault of the desk is reported as that, and as nothing that is in the journal
pub record StopsForward {T : Type 0} (g : Ghosts T) (desk : Held T) (R : Register) (place : Place)
    (lines : List Entry) (fault : Fault) (after : Held T) : Type 0 where
  pub cause : OpeningFault
  pub fault_is : fault ≡ of_opening cause
  pub of : IsOfForward FailsAsStore lines cause
  pub register : Register
  pub kept : Keeps (state g desk) R (state g after) register
  pub stops : withdraws lines ≡ false → AreShallow lines → IsAt store_place (state g desk) place
      → StopsAt store_place R place lines cause register (state g after)
  pub unchanged : (n : ℕ) → cause ≡ opening.Differs n
      → (register ≡ R) × (after ≡ desk)
  pub left : LeavesFronts g desk desk R place lines after

-- A DESK WAS GIVEN THE JOURNAL AT A PATH, at the place that its register has
pub record IsGiven {M J C T : Type 0} (g : Ghosts T) (logs : Logs M J C) (path : List ℕ)
    (old new : M) (desk : Held T) (R : Register) (it : Keeper (Held T) J C) (S : Register)
    : Type 0 where
  pub place : Place
  pub read : Held T
  pub stays : StaysRead (state g desk) (state g read)
  pub placed : HasPlace g desk read (Some place)
  pub ahead : Ahead
  pub opened : logs.steps.opens_journal old path place it.journal ahead new
  pub timed : logs.steps.has_time new it.clock
  pub settled : it.last ≡ Settled
  pub kept : Keeps (state g read) R (state g it.keeper) S
  pub fit : IsFit R → IsFit S
  pub rolled : IsGood R → RollsForward g read R place (entries_of ahead) it S
  pub level : OpensLevel g logs.log.text read R place (entries_of ahead) it S
  pub sound : OpensSound logs it
  pub left : LeavesFronts g desk read R place (entries_of ahead) it.keeper

-- it was given none, and why. The journal, if it was opened, is let go as it was opened
pub data IsNotGiven {M J C T : Type 0} (g : Ghosts T) (logs : Logs M J C) (path : List ℕ)
    (old new : M) (desk : Held T) (R : Register) (fault : Fault) (after : Held T) : Type 0 where
  unplaced : LacksPlace g desk fault after → StaysRead (state g desk) (state g after)
      → new ≡ old → IsNotGiven g logs path old new desk R fault after
  without : HasPlace g desk after None → StaysRead (state g desk) (state g after)
      → fault ≡ Journal why.OtherRegister → new ≡ old
      → IsNotGiven g logs path old new desk R fault after
  unopened : (place : Place) → HasPlace g desk after (Some place)
      → StaysRead (state g desk) (state g after) → IsOfOpening fault
      → logs.steps.shuts_journal old path place fault new
      → IsNotGiven g logs path old new desk R fault after
  apart : (place : Place) → (read : Held T) → HasPlace g desk read (Some place)
      → StaysRead (state g desk) (state g read) → (journal : J) → (ahead : Ahead) → (middle : M)
      → logs.steps.opens_journal old path place journal ahead middle
      → logs.steps.lets_journal_go middle journal new
      → (IsGood R → StopsForward g read R place (entries_of ahead) fault after)
      → IsNotGiven g logs path old new desk R fault after

-- ---- from a database

-- A REGISTER WAS TAKEN UP WITH ITS JOURNAL: the journal was opened at the place that its database
-- has, once, and nothing else was. A keeper has it, with the clock of what opened it
pub record IsTakenUp {M J C T : Type 0} (g : Ghosts T) (logs : Logs M J C) (path : List ℕ)
    (old new : M) (before : Held T) (it : Keeper (Held T) J C) (S : Register) : Type 0 where
  pub kept : IsKept g before it.keeper S
  pub fit : IsFit S
  pub place : Place
  pub placed : HasPlace g before (IsKept.opened kept) (Some place)
  pub ahead : Ahead
  pub opened : logs.steps.opens_journal old path place it.journal ahead new
  pub timed : logs.steps.has_time new it.clock
  pub settled : it.last ≡ Settled
  pub rolled : RollsForward g (IsKept.opened kept) (IsKept.first kept) place (entries_of ahead)
      it S
  pub level : OpensLevel g logs.log.text (IsKept.opened kept) (IsKept.first kept) place
      (entries_of ahead) it S
  pub sound : OpensSound logs it
  pub left : LeavesFronts g before (IsKept.opened kept) (IsKept.first kept) place
      (entries_of ahead) it.keeper

-- A REGISTER WAS READ, and nothing was changed; and it is not opened with the journal, or without
-- one, that is named: it has another, has none, or has one
pub record IsUnsuited {T : Type 0} (g : Ghosts T) (before : Held T) (place : Option Place)
    (after : Held T) : Type 0 where
  pub register : Register
  pub read : IsOnlyRead g before after
  pub reads : ReadsAs g before after register
  pub placed : HasPlace g before after place

-- its place was not read
pub record IsUnplaced {T : Type 0} (g : Ghosts T) (before : Held T) (fault : Fault)
    (after : Held T) : Type 0 where
  pub register : Register
  pub read : IsOnlyRead g before after
  pub reads : ReadsAs g before after register
  pub lacks : LacksPlace g before fault after

-- ITS JOURNAL WAS OPENED, AND DOES NOT GO TOGETHER WITH IT: a line after the place has another reply
-- than the register gives, which changes nothing; or a deed was not carried out, and what was
-- carried out before that is kept, with its place: then the fault is that of the desk, unless the
-- reply of a line has a number that is no whole number. The journal is let go as it was opened
pub record IsRefusedItsJournal {M J C T : Type 0} (g : Ghosts T) (logs : Logs M J C)
    (path : List ℕ) (old new : M) (before : Held T) (fault : Fault) (after : Held T)
    : Type 0 where
  pub place : Place
  pub journal : J
  pub ahead : Ahead
  pub middle : M
  pub opened : logs.steps.opens_journal old path place journal ahead middle
  pub gone : logs.steps.lets_journal_go middle journal new
  pub register : Register
  pub kept : IsKept g before after register
  pub placed : HasPlace g before (IsKept.opened kept) (Some place)
  pub cause : OpeningFault
  pub fault_is : fault ≡ of_opening cause
  pub of : IsOfForward FailsAsStore (entries_of ahead) cause
  pub stops : withdraws (entries_of ahead) ≡ false → AreShallow (entries_of ahead)
      → IsAt store_place (state g (IsKept.opened kept)) place
      → StopsAt store_place (IsKept.first kept) place (entries_of ahead) cause register
      (state g after)
  pub unchanged : (n : ℕ) → cause ≡ opening.Differs n
      → (register ≡ IsKept.first kept) × (after ≡ IsKept.opened kept)
  pub left : LeavesFronts g before (IsKept.opened kept) (IsKept.first kept) place
      (entries_of ahead) after

-- IT WAS NOT TAKEN UP. Its database was refused, its place not read, or it has no journal: then it is
-- as it was, and no journal was opened. Or the journal was not opened at its place, and the database
-- only read. Or the two do not go together
pub data IsNotTakenUp {M J C T : Type 0} (g : Ghosts T) (logs : Logs M J C) (path : List ℕ)
    (before : Held T) (fault : Fault) (after : Held T) (old new : M) : Type 0 where
  refused : IsRefused g before fault after → Survives (state g before) (state g after) (λ _. ⊥)
      → new ≡ old → IsNotTakenUp g logs path before fault after old new
  unplaced : IsUnplaced g before fault after → new ≡ old
      → IsNotTakenUp g logs path before fault after old new
  without : IsUnsuited g before None after → fault ≡ Journal why.OtherRegister → new ≡ old
      → IsNotTakenUp g logs path before fault after old new
  unopened : (place : Place) → IsUnsuited g before (Some place) after → IsOfOpening fault
      → logs.steps.shuts_journal old path place fault new
      → IsNotTakenUp g logs path before fault after old new
  apart : IsRefusedItsJournal g logs path old new before fault after
      → IsNotTakenUp g logs path before fault after old new
