-- A CALL THAT READS TABLES over a connection, outside a transaction.
use Rattle.std.specs.Prelude.{◌≡◌, ◌⊎◌, Bool, true, false, ◌&&◌, IsTrue, IfErr, IsErrAnd, MatchResult}
use Rattle.std.specs.Prelude.{Ok, Result}
use Rattle.sqlite.specs.Held.{Held, state}
use Rattle.sqlite.specs.State.{HasCleanDisk, IsUnchanged, State, Survives}
use Rattle.sqlite.specs.Store.{Ghosts}
use Rattle.clr_net.specs.Results.{◌>>=◌}
use Rattle.clr_load.specs.Tables.{Tables}
use Rattle.clr_load.specs.declared.table_name.TableName.{TableName}
use Rattle.clr_load.specs.Cause.{SqlHasCause}
use Rattle.clr_load.specs.Fault.{IsOfDatabase}
use Rattle.clr_load.specs.Filling.{GivesInto}
use Rattle.clr_load.specs.Layout.{Layout, has_rows}
use Rattle.clr_load.specs.Stored.{HasTablesIn}
use Rattle.clr_load.specs.declared.fault.StoreFault.{StoreFault}

-- a connection that is still open was open, and what it showed and had committed is what it shows and
-- has committed
pub record Stays (old new : State) : Type 0 where
  pub was_open : IsTrue new.is_open → IsTrue old.is_open
  pub same : IsTrue new.is_open → old.now ≡ old.committed
      → (new.now ≡ old.now) × (new.committed ≡ old.now)

-- of tables that are there, what is read is given, and `Sql` has a cause. Nothing is changed
pub record Loads {S A X : Type 0} (g : Ghosts S) (old new : Held S) (fits : Layout → Bool)
    (read : Layout → Tables → Result A TableName) (has : X → A → Type 0)
    (result : Result X StoreFault) : Type 0 where
  pub mode : old.in_transaction ≡ false → new.in_transaction ≡ false
  pub survives : Survives (state g old) (state g new) (λ _. ⊥)
  pub unchanged : HasCleanDisk (state g new) → MatchResult result
      (λ _. IsUnchanged (state g old) (state g new)) (λ _. Stays (state g old) (state g new))
  pub was_open : HasCleanDisk (state g new)
      → IsTrue (state g old).is_open ⊎ IsErrAnd result IsOfDatabase
  pub gives : HasCleanDisk (state g new) → (l : Layout) → fits l ≡ true → (t : Tables)
      → HasTablesIn l (state g old).now t → GivesInto has (read l t) result
      × IfErr result (SqlHasCause (state g old) (state g new))

-- two values that are read one after the other
abbrev pub both_read : {A B : Type 0} → Result A TableName → Result B TableName
    → Result (A × B) TableName
both_read one other = do
  a ← one
  b ← other
  Ok (a, b)

-- the layouts that have two tables
abbrev pub both_fit : TableName → TableName → Layout → Bool
both_fit one other l = has_rows l one && has_rows l other
