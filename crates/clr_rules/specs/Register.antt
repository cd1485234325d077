-- The register: the network, the staff, and what is written down of points, clearances, steps and
-- holds. Each list is in the order of its keys, one row a key.
use Rattle.std.specs.Prelude.{List, [], map, None}
use Rattle.clr_net.specs.Prelude.{Grid, unplaced}
use Rattle.clr_staff.specs.declared.employee.StaffRow.{StaffRow}
use Rattle.clr_rules.specs.declared.hold.Hold.{Hold}
use Rattle.clr_rules.specs.declared.point_state.PointState.{PointState}
use Rattle.clr_rules.specs.declared.record.Record.{Record}
use Rattle.clr_rules.specs.declared.step_row.StepRow.{StepRow}
use Rattle.clr_net.specs.declared.point.PointRow.{PointRow}

pub record Register : Type 0 where
  -- a point's position is no part of the network: it is in its state, and here each point is
  -- Opened, in an opening register and so in each that is reached
  pub net : Grid
  pub staff : List StaffRow
  pub states : List PointState
  pub records : List Record
  pub steps : List StepRow
  pub holds : List Hold

-- the network without the positions of its rows
abbrev pub unplaced_net : Grid → Grid
unplaced_net g = record { sections = g.sections; points = map unplaced g.points }

-- a point before the first command: in the position of its row, in nobody's hand
abbrev pub first_state : PointRow → PointState
first_state p = record { point = p.name; position = p.position; hand = None }

-- THE OPENING REGISTER of a network and a staff: nothing is asked for, ordered or held
abbrev pub opening : Grid → List StaffRow → Register
opening g staff =
    record {
      net = unplaced_net g;
      staff = staff;
      states = map first_state g.points;
      records = [];
      steps = [];
      holds = [];
    }
