-- A CHANGE KEPT WITH ITS PLACE: what is shown after it, and what a crash leaves.
use Rattle.std.specs.Prelude.{◌≡◌, IsTrue, Some}
use Rattle.sqlite.specs.Effect.{Database}
use Rattle.sqlite.specs.State.{HasCleanDisk, State}
use Rattle.sqlite.specs.Tree.{Trees}
use Rattle.clr_rules.specs.declared.place.Place.{Place}
use Rattle.clr_load.specs.Tables.{Tables}
use Rattle.clr_load.specs.Stored.{HasTables}
use Rattle.clr_desk.specs.Placing.{Placing}

-- ---- where a keeper is

-- it shows tables, and this place
abbrev pub ShowsAt : Placing → Database → Place → Type 0
ShowsAt has_place db place = (t : Tables) × HasTables db t × has_place db.trees (Some place)

-- WHERE IT IS OPEN AND ITS DISK CLEAN, it shows tables, and this place
abbrev pub IsAt : Placing → State → Place → Type 0
IsAt has_place s place = HasCleanDisk s → IsTrue s.is_open → ShowsAt has_place s.now place

-- WHERE IT IS OPEN AND ITS DISK CLEAN, it was; and if it showed tables, it shows tables, and this
-- place
pub record ComesTo (has_place : Placing) (old new : State) (place : Place) : Type 0 where
  pub clean : HasCleanDisk new → HasCleanDisk old
  pub was_open : HasCleanDisk new → IsTrue new.is_open → IsTrue old.is_open
  pub shown : HasCleanDisk new → (t : Tables) → HasTables old.now t
      → ShowsAt has_place new.now place

-- WHERE IT IS OPEN AND ITS DISK CLEAN, it was, and shows what it showed
pub record StaysShown (old new : State) : Type 0 where
  pub clean : HasCleanDisk new → HasCleanDisk old
  pub was_open : HasCleanDisk new → IsTrue new.is_open → IsTrue old.is_open
  pub now : HasCleanDisk new → IsTrue new.is_open → new.now ≡ old.now

-- whatever tables there were, the trees have this place
abbrev pub ArePlacedAt : Placing → Database → Place → Trees → Type 0
ArePlacedAt has_place before place trees = (t : Tables) → HasTables before t
    → has_place trees (Some place)
