-- WHAT IS KEPT: after a fault, where nothing is written, and of no database.
use Rattle.std.specs.Prelude.{◌≡◌, false, true, pos, [], None, IsTrue, ⊤}
use Rattle.sqlite.specs.Effect.{Database}
use Rattle.sqlite.specs.State.{HasCleanDisk, State, Survives}
use Rattle.clr_load.specs.Contract.{IsSaved}
use Rattle.clr_load.specs.Schema.{no_schema}
use Rattle.clr_desk.specs.declared.desk_fault.DeskFault.{DeskFault}

-- after a fault an open keeper that had saved what it shows has it saved
abbrev pub StaysSaved : State → State → DeskFault → Type 0
StaysSaved old new fault = HasCleanDisk new → IsTrue new.is_open → IsSaved old → IsSaved new

-- WHAT IS KEPT STAYS AS IT IS
pub record Stays (old new : State) : Type 0 where
  pub now : new.now ≡ old.now
  pub committed : new.committed ≡ old.committed
  pub is_open : new.is_open ≡ old.is_open
  pub crash : Survives old new (λ _. ⊥)

abbrev pub no_database : Database
no_database = record { schema = no_schema; trees = λ _. [] }

-- an empty database, open and saved, on a disk that never fails
abbrev pub nothing : State
nothing = record {
  now = no_database;
  committed = no_database;
  in_transaction = false;
  marks = [];
  is_open = true;
  is_clean = true;
  faults = 0;
  blamed = None;
  changes = 0;
  last_rowid = pos 0;
  step_limit = None;
  may_leave = λ trees. trees ≡ no_database.trees;
  IsShielded = ⊤;
}
