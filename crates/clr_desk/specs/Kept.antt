-- WHAT COMMANDS KEEP of a store and the register that it goes with, however many they are and
-- whatever faults they meet.
use Rattle.std.specs.Prelude.{◌⊎◌, ◌≤◌, IsTrue}
use Rattle.sqlite_disk.specs.Disk.{MoreFaults}
use Rattle.sqlite.specs.State.{HasCleanDisk, State}
use Rattle.clr_rules.specs.Good.{IsGood}
use Rattle.clr_rules.specs.Register.{Register}
use Rattle.clr_load.specs.Contract.{IsSaved}
use Rattle.clr_load.specs.Stored.{HasTables}
use Rattle.clr_load.specs.Tables.{tables_of}
use Rattle.clr_load.specs.TypedRows.{IsTyped}

-- a good register stays good, with its values within their types, and where the disk is clean and the connection open, they were
-- before; then a store that had the tables of the register has them, and a store that was saved is
-- saved; and a store that was open stays open, unless the disk failed once more
pub record Keeps (old : State) (R : Register) (new : State) (S : Register) : Type 0 where
  pub good : IsGood R → IsGood S
  pub typed : IsGood R → IsTyped R → IsTyped S
  pub clean : HasCleanDisk new → HasCleanDisk old
  pub was_open : HasCleanDisk new → IsTrue new.is_open → IsTrue old.is_open
  pub tables : HasCleanDisk new → IsTrue new.is_open → IsGood R → HasTables old.now (tables_of R)
      → HasTables new.now (tables_of S)
  pub saved : HasCleanDisk new → IsTrue new.is_open → IsSaved old → IsSaved new
  pub counts : old.faults ≤ new.faults
  pub closes : HasCleanDisk new → IsTrue old.is_open
      → IsTrue new.is_open ⊎ MoreFaults old.faults new.faults
