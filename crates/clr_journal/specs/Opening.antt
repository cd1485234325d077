-- WHAT IS LEFT OF A DISK on which no journal was opened.
use Rattle.std.specs.Prelude.{◌≡◌, ℕ, List}
use Rattle.sqlite_disk.specs.Disk.{Cut, Follows, MoreFaults}

-- NOT ONE BYTE OF IT IS CHANGED
pub record Unchanged {D : Type 0} (seen : D → List ℕ) (may_leave : D → List ℕ → Type 0)
    (old new : D) : Type 0 where
  pub same : seen new ≡ seen old
  pub no_more : (c : List ℕ) → may_leave new c → may_leave old c

-- the disk failed as what comes after `at` was cut off
pub record FailedToCut {D : Type 0} (seen : D → List ℕ) (may_leave : D → List ℕ → Type 0)
    (faults : D → ℕ) (at : ℕ) (old new : D) : Type 0 where
  pub cut : Cut at (seen old) (seen new)
  pub kept : Follows (Cut at) (may_leave old) (may_leave new)
  pub counted : MoreFaults (faults old) (faults new)
