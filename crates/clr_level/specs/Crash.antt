-- WHAT A CRASH LEAVES while a register is rolled forward through the lines after its place.
use Rattle.std.specs.Prelude.{◌≡◌, ℕ, false, List, ◌++◌, Option, Some}
use Rattle.sqlite.specs.Effect.{Database, IsDatabase}
use Rattle.sqlite.specs.State.{HasCleanDisk, State}
use Rattle.sqlite.specs.Tree.{Trees}
use Rattle.clr_rules.specs.Good.{IsGood}
use Rattle.clr_rules.specs.Register.{Register}
use Rattle.clr_rules.specs.declared.command.Command.{Command}
use Rattle.clr_rules.specs.declared.place.Place.{Place}
use Rattle.clr_load.specs.Tables.{tables_of}
use Rattle.clr_load.specs.Stored.{AreTables, HasTables}
use Rattle.clr_journal.specs.Journals.{carried_out, withdraws}
use Rattle.clr_journal.specs.Line.{Entry}
use Rattle.clr_journal.specs.declared.line.Carried.{Carried}
use Rattle.clr_chain.specs.Level.{IsRunOf, place_after}
use Rattle.clr_desk.specs.Crash.{AreAfter}
use Rattle.clr_desk.specs.Placing.{Placing}
use Rattle.clr_desk.specs.declared.desk.Desk.{Desk}
use Rattle.clr_level.specs.Forward.{AreAnswered, AreShallow, CanBeOpened, HasCome}
use Rattle.clr_level.specs.Placing.{ArePlacedAt, IsAt}

-- ---- one deed

-- the trees have the tables after a command, and this place, where the database had tables
abbrev pub AreAfterAt : Placing → Database → Register → Command → Place → Trees → Type 0
AreAfterAt has_place before R q place trees = AreAfter before R q trees
    × ArePlacedAt has_place before place trees

-- a desk whose database had the tables of its register has them again
abbrev pub KeepsTables : {K : Type 0} → (K → State) → Desk K → Desk K → Type 0
KeepsTables kept old new = HasCleanDisk (kept new.store) → IsGood old.book.register
    → HasTables (kept old.store).now (tables_of old.book.register)
    → HasTables (kept new.store).now (tables_of new.book.register)

-- ---- the lines

-- TREES ARE AT A FRONT of these lines, which come after the place of a register: they have the
-- tables of the register that the lines up to there lead to, and the place after these lines
pub record AreAtFront (has_place : Placing) (R : Register) (place : Place) (lines : List Entry)
    (trees : Trees) : Type 0 where
  pub had : List Entry
  pub later : List Entry
  pub all_is : lines ≡ had ++ later
  pub kept : withdraws later ≡ false
  pub register : Register
  pub run : IsRunOf R (carried_out had) register
  pub tables : AreTables trees (tables_of register)
  pub placed : has_place trees (Some (place_after place had))

-- where a database had the tables of a good register, and its place, the trees are at a front of
-- the lines after it
abbrev pub AreRolled : Placing → State → Register → Place → List Entry → Trees → Type 0
AreRolled has_place before R place lines trees = IsGood R → HasTables before.now (tables_of R)
    → withdraws lines ≡ false → AreShallow lines → IsAt has_place before place
    → AreAtFront has_place R place lines trees

-- the same on the way, whatever lines a register has come through, where these are left
abbrev pub AreFurther : Placing → Register → State → Place → Option Carried → List Entry → Trees
    → Type 0
AreFurther has_place S before at open_one rest trees =
    (R : Register) (place : Place) (lines : List Entry) → IsGood R → AreAnswered R lines
    → HasCome has_place R place lines S before at open_one rest
    → HasTables before.now (tables_of S) → AreAtFront has_place R place lines trees

-- A FRONT IS OPENED AGAIN: where a register and its journal could be opened, and a database has a
-- front of the lines after the place, its register and the same journal can be opened at the place
-- there. The lines that are left lead from it to the register that all lines lead to
abbrev pub FrontsCanBeOpened : Placing → State → State → Type 0
FrontsCanBeOpened has_place s t = (first R : Register) (start place : Place) (text : List ℕ)
    (lines : List Entry)
    → CanBeOpened has_place first start place R s text lines → IsDatabase t.now
    → (front : AreAtFront has_place R place lines t.now.trees)
    → CanBeOpened has_place first start (place_after place (AreAtFront.had front))
    (AreAtFront.register front) t text (AreAtFront.later front)
    × ((S : Register) → IsRunOf R (carried_out lines) S
    → IsRunOf (AreAtFront.register front) (carried_out (AreAtFront.later front)) S)
