-- The opening register as a law: before the first command nothing is asked for, ordered or held.
use Rattle.std.specs.Prelude.{List}
use Rattle.clr_rules.specs.Prelude.{Grid, IsNetwork, StaffRow}
use Rattle.clr_staff.specs.Staff.{IsStaff}
use Rattle.clr_rules.specs.Good.{IsGood}
use Rattle.clr_rules.specs.Register.{opening}

-- the opening register of a network and a staff is good
abbrev pub OpeningRegistersAreGood : Type 0
OpeningRegistersAreGood =
    (g : Grid) (staff : List StaffRow) → IsNetwork g → IsStaff staff → IsGood (opening g staff)
