-- What a call finds in the tables, inside a transaction.
use Rattle.std.specs.Prelude.{◌≡◌, Bool, true, IsTrue, Result}
use Rattle.sqlite.specs.Held.{state}
use Rattle.sqlite.specs.State.{State, KeepsCommit}
use Rattle.sqlite.specs.declared.transaction.Transaction.{Transaction}
use Rattle.sqlite.specs.Store.{Ghosts}
use Rattle.clr_load.specs.Tables.{Tables}
use Rattle.clr_load.specs.Cause.{SqlHasCause}
use Rattle.clr_load.specs.Inside.{RunsInside}
use Rattle.clr_load.specs.Layout.{Layout}
use Rattle.clr_load.specs.Stored.{Holds, IsInOrder}
use Rattle.clr_load.specs.declared.fault.StoreFault.{StoreFault}

-- in layouts that fit: the connection was open, something that the tables say is found, the tables
-- stay, and nothing is committed
pub record Finds {A : Type 0} (old new : State) (fits : Layout → Bool) (tells : Layout → Tables → A)
    (found : A) : Type 0 where
  pub was_open : IsTrue old.is_open
  pub inside : IsTrue new.in_transaction
  pub kept : KeepsCommit old new
  pub found_is : (l : Layout) → fits l ≡ true → (t : Tables) → Holds l old.now t → IsInOrder l t
      → (found ≡ tells l t) × Holds l new.now t

-- nothing is found or committed. Where the tables are there, `Sql` has a cause
pub record Fails (old new : State) (fits : Layout → Bool) (fault : StoreFault) : Type 0 where
  pub kept : KeepsCommit old new
  pub cause : (l : Layout) → fits l ≡ true → (t : Tables) → Holds l old.now t → IsInOrder l t
      → SqlHasCause old new fault

-- a call inside a transaction finds it, or fails; it commits nothing
abbrev pub Lists : {S A X : Type 0} → Ghosts S → Transaction S → Transaction S
    → (StoreFault → Type 0) → (Layout → Bool) → (Layout → Tables → A) → (X → A)
    → Result X StoreFault → Type 0
Lists g old new IsFault fits tells items result =
    RunsInside g old new IsFault
    (λ listed. Finds (state g old.conn.now) (state g new.conn.now) fits tells (items listed))
    (Fails (state g old.conn.now) (state g new.conn.now) fits) result
