-- A journal in the file at a path, opened at a place or begun, and why not.
use Rattle.std.proofs.Common.{◌≡◌, ◌≢◌, ◌<◌, ◌⊎◌, ℕ, List, [], inl, inr, length, refl, subst}
use Rattle.std.specs.Prelude.{IsTrue}
use Rattle.sqlite_disk.specs.Disk.{Cut, Follows, MoreFaults, Only}
use Rattle.sqlite_disk.specs.declared.Disk as disk
use Rattle.sqlite_disk.specs.declared.Files.{Files}
use Rattle.clr_journal.specs.declared.journal.Journal as append
use Rattle.clr_journal.specs.Opening.{Unchanged}
use Rattle.clr_chain.specs.Finding.{found_in}
use Rattle.clr_chain.specs.OnDisk.{WasRead}
use Rattle.clr_chain.specs.Opening.{IsOpened, Refuses, WasNotCut, new_text}
use Rattle.clr_chain.specs.declared.fault.ChainFault.{ChainFault}
use Rattle.clr_chain.specs.declared.fault.ChainFault.TheVariants as chain
use Rattle.clr_chain.specs.declared.fault.NewFault.{NewFault}
use Rattle.clr_chain.specs.declared.fault.NewFault.TheVariants as unbegun
use Rattle.clr_chain.specs.declared.finding.Ahead.{Ahead}
use Rattle.clr_rules.specs.declared.place.Place.{Place}
use Rattle.clr_edge.specs.Journals.{HasJournalDisk, IsBegunAt, IsChainAt, IsNew, IsOfBeginning, IsOfOpening, IsUnbegunOver, IsUnopenedOver, of_chain, of_new}
use Rattle.clr_edge.specs.declared.fault.Fault.{Fault}
use Rattle.clr_edge.specs.declared.fault.Fault.TheVariants.{Journal, Memory}
use Rattle.clr_edge.specs.declared.fault.JournalFault.TheVariants as why

-- the file of a journal could not be opened
pub opening_unhad : (fault : Fault) → (fault ≡ Memory) ⊎ (fault ≡ Journal why.OpenFailed) → IsOfOpening fault
opening_unhad fault (inl memory) = (chain.NoMemory, memory)
opening_unhad fault (inr failed) = (chain.OpenFailed, failed)

pub beginning_unhad : (fault : Fault) → (fault ≡ Memory) ⊎ (fault ≡ Journal why.OpenFailed) → IsOfBeginning fault
beginning_unhad fault (inl memory) = inr (unbegun.NoMemory, memory)
beginning_unhad fault (inr failed) = inl failed

module _ {Y D : Type 0} (has : Y → List ℕ → Files D → Y → Type 0) (lets_go : Y → D → Y → Type 0) (g : disk.Ghosts D) (old : Y) (path : List ℕ) (place : Place) where
  -- it was opened, and holds a journal
  pub chain_at : {J : Type 0} (log : append.Ghosts J) (disk_of : J → D) (new : Y) (disk : D) (journal : J) (ahead : Ahead)
      → HasJournalDisk has lets_go old path new disk
      → (IsTrue (g.is_clean (disk_of journal)) → IsOpened place (g.seen disk) ahead (log.text journal))
      → (IsTrue (g.is_clean (disk_of journal)) → Only (log.text journal) (log.may_leave journal))
      → log.found journal ≡ log.text journal → Follows (Cut (length (log.text journal))) (g.may_leave disk) (log.may_leave journal)
      → IsChainAt has lets_go g log disk_of old path place journal ahead new
  chain_at log disk_of new disk journal ahead (files, middle, had, gone, is) opened durable whole crash = record {
    files = files;
    middle = middle;
    had = had;
    gone = gone;
    opened = subst (λ d. IsTrue (g.is_clean (disk_of journal)) → IsOpened place (g.seen d) ahead (log.text journal)) is opened;
    durable = durable;
    whole = whole;
    crash = subst (λ d. Follows (Cut (length (log.text journal))) (g.may_leave d) (log.may_leave journal)) is crash;
  }

  -- or none that is opened at this place
  pub unopened_over : (between new : Y) (disk left : D) (cause : ChainFault) (fault : Fault) → HasJournalDisk has lets_go old path between disk
      → lets_go between left new → fault ≡ of_chain cause → (IsTrue (g.is_clean left) → Refuses cause (found_in place (g.seen disk)))
      → (IsTrue (g.is_clean left) → Unchanged g.seen g.may_leave disk left ⊎ WasNotCut g.seen g.may_leave g.faults place disk left)
      → ((cause ≡ chain.OpenFailed → ⊥) → Unchanged g.seen g.may_leave disk left)
      → (cause ≡ chain.OpenFailed → MoreFaults (g.faults disk) (g.faults left))
      → IsUnopenedOver has lets_go g old path place fault new
  unopened_over between new disk left cause fault (files, middle, had, gone, is) then_gone fault_is refused bytes spared failed = record {
    files = files;
    middle = middle;
    had = had;
    left = left;
    gone = (between, gone, then_gone);
    cause = cause;
    fault_is = fault_is;
    refused = subst (λ d. IsTrue (g.is_clean left) → Refuses cause (found_in place (g.seen d))) is refused;
    bytes =
        subst (λ d. IsTrue (g.is_clean left) → Unchanged g.seen g.may_leave d left ⊎ WasNotCut g.seen g.may_leave g.faults place d left) is bytes;
    spared = subst (λ d. (cause ≡ chain.OpenFailed → ⊥) → Unchanged g.seen g.may_leave d left) is spared;
    failed = subst (λ d. cause ≡ chain.OpenFailed → MoreFaults (g.faults d) (g.faults left)) is failed;
  }

  -- it was opened, and a journal was begun in it
  pub begun_at : {J : Type 0} (log : append.Ghosts J) (disk_of : J → D) (new : Y) (disk : D) (journal : J)
      → HasJournalDisk has lets_go old path new disk → (IsTrue (g.is_clean (disk_of journal)) → g.seen disk ≡ [])
      → IsNew log (λ it. g.is_clean (disk_of it)) place journal → IsBegunAt has lets_go g log disk_of old path place journal new
  begun_at log disk_of new disk journal (files, middle, had, gone, is) empty new_there = record {
    files = files;
    middle = middle;
    had = had;
    gone = gone;
    empty = subst (λ d. IsTrue (g.is_clean (disk_of journal)) → g.seen d ≡ []) is empty;
    new_there = new_there;
  }

  -- or none
  pub unbegun_over : (between new : Y) (disk left : D) (cause : NewFault) (fault : Fault) → HasJournalDisk has lets_go old path between disk
      → lets_go between left new → fault ≡ of_new cause
      → (cause ≡ unbegun.HasBytes → IsTrue (g.is_clean left) → 0 < length (g.seen disk))
      → (cause ≡ unbegun.TooLong → 4096 < length (new_text place))
      → (cause ≢ unbegun.WriteFailed → WasRead g.seen g.may_leave g.is_clean g.is_usable disk left)
      → (cause ≡ unbegun.WriteFailed → MoreFaults (g.faults disk) (g.faults left))
      → IsUnbegunOver has lets_go g old path place fault new
  unbegun_over between new disk left cause fault (files, middle, had, gone, is) then_gone fault_is full long spared failed = record {
    files = files;
    middle = middle;
    had = had;
    left = left;
    gone = (between, gone, then_gone);
    cause = cause;
    fault_is = fault_is;
    full = subst (λ d. cause ≡ unbegun.HasBytes → IsTrue (g.is_clean left) → 0 < length (g.seen d)) is full;
    long = long;
    spared = subst (λ d. cause ≢ unbegun.WriteFailed → WasRead g.seen g.may_leave g.is_clean g.is_usable d left) is spared;
    failed = subst (λ d. cause ≡ unbegun.WriteFailed → MoreFaults (g.faults d) (g.faults left)) is failed;
  }
