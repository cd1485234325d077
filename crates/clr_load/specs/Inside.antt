-- A CALL INSIDE A TRANSACTION: what it has done or how it has failed, and what a crash leaves.
use Rattle.std.specs.Prelude.{◌≡◌, IsTrue, IfErr, Result, MatchResult}
use Rattle.sqlite.specs.Held.{state}
use Rattle.sqlite.specs.State.{HasCleanDisk, Survives}
use Rattle.sqlite.specs.declared.transaction.Transaction.{Transaction}
use Rattle.sqlite.specs.Store.{Ghosts}
use Rattle.clr_load.specs.declared.fault.StoreFault.{StoreFault}

-- the transaction stays that of its connection. With a clean disk, and where no failure had ended
-- it, the call has done this or failed so. Its fault is one of these, and a crash leaves what it
-- left before
pub record RunsInside {S X : Type 0} (g : Ghosts S) (old new : Transaction S)
    (IsFault : StoreFault → Type 0) (Done : X → Type 0) (Failed : StoreFault → Type 0)
    (result : Result X StoreFault) : Type 0 where
  pub same_reference : new.conn.ghost_name ≡ old.conn.ghost_name
  pub step : HasCleanDisk (state g new.conn.now) → IsTrue (state g old.conn.now).in_transaction
      → MatchResult result Done Failed
  pub fault : IfErr result IsFault
  pub survives : Survives (state g old.conn.now) (state g new.conn.now) (λ _. ⊥)
