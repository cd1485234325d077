-- WHAT READING DOES TO A DISK: nothing.
use Rattle.std.specs.Prelude.{◌≡◌, ℕ, Bool, List, Result, Ok, Err, IsTrue}
use Rattle.sqlite_disk.specs.Disk.{MoreFaults}
use Rattle.clr_journal.specs.declared.fault.OpenFault.{OpenFault}
use Rattle.clr_journal.specs.declared.fault.OpenFault.TheVariants.{NoMemory, OpenFailed}

-- a disk was read, and no more
pub record WasRead {D : Type 0} (seen : D → List ℕ) (may_leave : D → List ℕ → Type 0)
    (is_clean is_usable : D → Bool) (old new : D) : Type 0 where
  pub same : seen new ≡ seen old
  pub no_more : (c : List ℕ) → may_leave new c → may_leave old c
  pub clean : IsTrue (is_clean new) → IsTrue (is_clean old)
  pub usable : IsTrue (is_usable new)

-- where the disk failed, it counts a failure more; else none
abbrev pub CountsFailed : {T : Type 0} → Result T OpenFault → ℕ → ℕ → Type 0
CountsFailed (Ok value) old new = new ≡ old
CountsFailed (Err OpenFailed) old new = MoreFaults old new
CountsFailed (Err NoMemory) old new = new ≡ old
