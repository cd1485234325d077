-- WHETHER A REGISTER IS GOOD, AS A TEST: its four lists fit, each row with the others.
use Rattle.std.specs.Prelude.{Bool, ◌&&◌}
use Rattle.clr_rules.specs.Prelude.{IsNetwork, Register}
use Rattle.clr_staff.specs.Staff.{IsStaff}
use Rattle.clr_rules.specs.Good.{ListsAreInOrder, NetworkIsUnplaced}
use Rattle.clr_good.specs.Points.{points_fit}
use Rattle.clr_good.specs.Clearances.{clearances_fit}
use Rattle.clr_good.specs.Steps.{steps_fit}
use Rattle.clr_good.specs.Holds.{holds_fit}

-- what a register has by how it is kept: its network and its staff were built, its lists are in
-- key order
pub record IsKept (R : Register) : Type 0 where
  pub network : IsNetwork R.net
  pub staff : IsStaff R.staff
  pub placed : NetworkIsUnplaced R
  pub in_order : ListsAreInOrder R

abbrev pub lists_fit : Register → Bool
lists_fit R = points_fit R && (clearances_fit R && (steps_fit R && holds_fit R))
