-- A PLACE THAT IS KEPT WITH A CHANGE.
use Rattle.std.specs.Prelude.{◌≡◌, IsTrue, Option, Some}
use Rattle.sqlite.specs.State.{HasCleanDisk, State}
use Rattle.sqlite.specs.Tree.{Trees}
use Rattle.clr_rules.specs.declared.place.Place.{Place}
use Rattle.clr_desk.specs.Commit.{StaysSaved}
use Rattle.clr_desk.specs.declared.desk_fault.DeskFault.{DeskFault}
use Rattle.clr_desk.specs.declared.desk_fault.DeskFault.TheVariants.{NoMemory}

-- that trees have a place, or have none
abbrev pub Placing : Type 1
Placing = Trees → Option Place → Type 0

-- what becomes of the place of trees: it is this one
abbrev pub SetsPlace : Placing → Place → Trees → Trees → Type 0
SetsPlace has_place place before after = has_place after (Some place)

-- after a fault what was saved stays so, and want of memory leaves the keeper open
pub record StaysOpen (old new : State) (fault : DeskFault) : Type 0 where
  pub saved : StaysSaved old new fault
  pub stays_open : HasCleanDisk new → fault ≡ NoMemory → IsTrue new.is_open
