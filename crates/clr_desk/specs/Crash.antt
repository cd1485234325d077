-- WHAT A CRASH LEAVES of a command and of a run.
use Rattle.std.specs.Prelude.{◌≤◌, ◌+◌, ℕ, List, length, take}
use Rattle.sqlite.specs.Effect.{Database}
use Rattle.sqlite.specs.State.{State}
use Rattle.sqlite.specs.Tree.{Trees}
use Rattle.clr_rules.specs.Good.{IsGood}
use Rattle.clr_rules.specs.Register.{Register}
use Rattle.clr_rules.specs.Run.{after, after_all}
use Rattle.clr_rules.specs.declared.command.Command.{Command}
use Rattle.clr_load.specs.Contract.{IsSaved}
use Rattle.clr_load.specs.Stored.{AreTables, HasTables}
use Rattle.clr_load.specs.Tables.{tables_of}

-- where a database had the tables of a good register, these trees have the tables after a command
abbrev pub AreAfter : Database → Register → Command → Trees → Type 0
AreAfter db R q trees = IsGood R → HasTables db (tables_of R)
    → AreTables trees (tables_of (after R q))

-- these trees have the tables after the first commands of a list, this many of them or one more
abbrev pub AreAfterSome : Register → List Command → ℕ → Trees → Type 0
AreAfterSome R commands least trees = (n : ℕ) × (least ≤ n) × (n ≤ least + 1)
    × (n ≤ length commands) × AreTables trees (tables_of (after_all R (take n commands)))

-- where a saved store had the tables of a good register, a crash leaves the tables after the first
-- commands, this many of them or one more
abbrev pub LeavesSome : State → State → Register → List Command → ℕ → Type 0
LeavesSome old new R commands least = IsSaved old → IsGood R → HasTables old.now (tables_of R)
    → (trees : Trees) → new.may_leave trees → AreAfterSome R commands least trees
