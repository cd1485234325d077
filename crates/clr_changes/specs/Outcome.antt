-- WHAT COMES OF AN UPDATE: the first obstacle in its way; or network, staff and states after it, and
-- what changes.
use Rattle.std.specs.Prelude.{◌≡◌, true, false, List, map, Option, None, Some}
use Rattle.clr_net.specs.Grid.{Grid}
use Rattle.clr_rules.specs.Edits.{fit}
use Rattle.clr_rules.specs.Register.{Register, first_state}
use Rattle.clr_staff.specs.declared.employee.StaffRow.{StaffRow}
use Rattle.clr_update.specs.Changes.{changes}
use Rattle.clr_update.specs.Shown.{as_changes}
use Rattle.clr_update.specs.Update.{Update, in_the_way, kept, kept_state, updated}
use Rattle.clr_changes.specs.Needs.{Renewal}
use Rattle.clr_changes.specs.Renewed.{renewed}
use Rattle.clr_changes.specs.declared.outcome.After.{After}
use Rattle.clr_changes.specs.declared.outcome.Outcome.{Outcome}
use Rattle.clr_changes.specs.declared.outcome.Outcome.TheVariants.{Accepted, InTheWay}

-- the register of which network, staff and states are those after an update
abbrev pub register_after : Register → After → Register
register_after R after = renewed R after.network after.staff after.states.items

abbrev pub renewal : Register → After → Renewal
renewal R after =
    record { before = R; after = register_after R after; changes = as_changes after.changes }

-- this is made of a network and a staff: a point that was there keeps its state, and a new one has
-- that of its row
pub record IsMadeOf (R : Register) (g : Grid) (rows : List StaffRow) (after : After) : Type 0 where
  pub network : after.network ≡ g
  pub staff : after.staff ≡ rows
  pub states : after.states.items ≡ map (kept_state R.states) (map first_state g.points)
  pub changes : as_changes after.changes ≡ changes R (register_after R after)

-- what is so after an update that is accepted
pub record IsAfter (R : Register) (u : Update) (after : After) : Type 0 where
  pub register : register_after R after ≡ updated R u
  pub changes : as_changes after.changes ≡ changes R (updated R u)

-- what is added to the files fits, and this is what comes of them; or it does not fit
abbrev pub IsRenewal : Register → Update → Option After → Type 0
IsRenewal R u None = fit u.net (kept R u) ≡ false
IsRenewal R u (Some after) = (fit u.net (kept R u) ≡ true) × IsAfter R u after

abbrev pub IsOutcome : Register → Update → Outcome → Type 0
IsOutcome R u (InTheWay obstacle) = in_the_way R u ≡ Some obstacle
IsOutcome R u (Accepted after) = (in_the_way R u ≡ None) × IsAfter R u after
