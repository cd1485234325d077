-- WHAT AN UPDATE OF A DESK LEAVES in the tables, and of what its store has.
use Rattle.std.specs.Prelude.{◌≡◌, None, Result, IfErr, IfOk, IsTrue, OnErr, OnOk}
use Rattle.sqlite.specs.Effect.{Database}
use Rattle.sqlite.specs.Held.{Held, state}
use Rattle.sqlite.specs.State.{HasCleanDisk, Survives}
use Rattle.sqlite.specs.Store.{Ghosts}
use Rattle.sqlite.specs.Tree.{Trees}
use Rattle.clr_changes.specs.Report.{IsReport}
use Rattle.clr_changes.specs.declared.report.Report.{Report}
use Rattle.clr_changes.specs.declared.report.Report.TheVariants.{Changes, InTheWay}
use Rattle.clr_load.specs.Contract.{IsSaved}
use Rattle.clr_load.specs.Stored.{AreTables, HasTables}
use Rattle.clr_rules.specs.Register.{Register}
use Rattle.clr_load.specs.Tables.{Tables, tables_of}
use Rattle.clr_update.specs.Update.{Update, after_update, in_the_way, updated}
use Rattle.clr_store.specs.Transaction.{PlacesAs}
use Rattle.clr_desk.specs.Faults.{IsOfCommand}
use Rattle.clr_desk.specs.declared.desk_fault.DeskFault.{DeskFault}

-- the trees are those of an update that nothing was in the way of: where the tables were those of a
-- register, they have those of the register after it
abbrev pub AreUpdated : Database → Register → Update → Trees → Type 0
AreUpdated old R u trees = HasTables old (tables_of R)
    → (in_the_way R u ≡ None) × AreTables trees (tables_of (updated R u))

-- where something is in the way, the store stays as it is; otherwise its tables are saved
abbrev pub SavesIfAccepted : {S : Type 0} → Ghosts S → Report → Held S → Held S → Type 0
SavesIfAccepted g (InTheWay obstacle) old new = new ≡ old
SavesIfAccepted g (Changes text) old new = HasCleanDisk (state g new) → IsSaved (state g new)

-- AN UPDATE OF THE TABLES OF A REGISTER, in one transaction: its report is due, and the tables are
-- those after it; on a fault, and where something is in the way, they are as they were. A place in a
-- journal stays
pub record UpdatesTables {S : Type 0} (g : Ghosts S) (R : Register) (u : Update) (old : Held S)
    (result : Result Report DeskFault) (new : Held S) : Type 0 where
  pub report : IfOk result (IsReport R u)
  pub updated : HasCleanDisk (state g new) → HasTables (state g old).now (tables_of R)
      → OnOk result (HasTables (state g new).now (tables_of (after_update R u)))
  pub placed : HasCleanDisk (state g new) → OnOk result ((t : Tables)
      → HasTables (state g old).now t
      → PlacesAs None (state g old).now.trees (state g new).now.trees)
  pub saved : IfOk result (λ it. SavesIfAccepted g it old new)
  pub none : HasCleanDisk (state g new) → IsTrue (state g new).is_open
      → OnErr result ((state g new).now ≡ (state g old).now)
  pub cause : IfErr result IsOfCommand
  pub crash : Survives (state g old) (state g new) (AreUpdated (state g old).now R u)
