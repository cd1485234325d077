-- A register that is renewed.
use Rattle.std.specs.Prelude.{List}
use Rattle.clr_net.specs.Grid.{Grid}
use Rattle.clr_rules.specs.Register.{Register, unplaced_net}
use Rattle.clr_rules.specs.declared.point_state.PointState.{PointState}
use Rattle.clr_staff.specs.declared.employee.StaffRow.{StaffRow}

-- a register with another network, another staff and other states; the positions of the network's
-- rows are no part of it
abbrev pub renewed : Register → Grid → List StaffRow → List PointState → Register
renewed R g staff states =
    record R { net = unplaced_net g; staff = staff; states = states }
