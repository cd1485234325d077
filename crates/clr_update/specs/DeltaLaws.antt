-- THE LAWS OF CHANGES THAT STAND FOR AN UPDATE. Each is proved, by a law in src/laws.rt.
use Rattle.std.specs.Prelude.{◌≡◌, true}
use Rattle.clr_rules.specs.Good.{IsGood}
use Rattle.clr_rules.specs.Prelude.{Register}
use Rattle.clr_rules.specs.Staffed.{IsStaffed}
use Rattle.clr_update.specs.Changes.{Changes, changes}
use Rattle.clr_update.specs.Delta.{after_changes, can_be_made, update_of}
use Rattle.clr_update.specs.Laws.{IsAccepted, IsAllLeft}
use Rattle.clr_update.specs.Update.{Update, updated}

-- THE CHANGES OF AN ACCEPTED UPDATE SAY ALL OF IT: they can be made, and lead where it leads
pub record ChangesSayAll : Type 0 where
  pub made : (R : Register) (u : Update) → IsAccepted R u
      → can_be_made R (changes R (updated R u)) ≡ true
  pub same : (R : Register) (u : Update) → IsAccepted R u
      → after_changes R (changes R (updated R u)) ≡ updated R u

-- CHANGES THAT CAN BE MADE are an update that is accepted, whoever says them
abbrev pub MadeChangesAreUpdates : Type 0
MadeChangesAreUpdates = (R : Register) (of : Changes) → IsGood R → can_be_made R of ≡ true
    → IsAccepted R (update_of R of)

-- SO WHATEVER CHANGES ARE SAID, a good register is good after them, and a staffed one staffed; and
-- they take nothing away
pub record ChangesKeepGood : Type 0 where
  pub good : (R : Register) (of : Changes) → IsGood R → IsGood (after_changes R of)
  pub staffed : (R : Register) (of : Changes) → IsGood R → IsStaffed R
      → IsStaffed (after_changes R of)
  pub nothing : (R : Register) (of : Changes) → IsGood R → IsAllLeft R (after_changes R of)
