-- THE EDITS THAT FILL A BOOK: what turns the opening register of a network, each point in the
-- position where it is now, into the register of rows.
use Rattle.std.specs.Prelude.{List, ◌++◌, map}
use Rattle.clr_net.specs.Grid.{Grid}
use Rattle.clr_rules.specs.Register.{Register}
use Rattle.clr_rules.specs.declared.change.Edit.{Edit}
use Rattle.clr_rules.specs.declared.change.Edit.TheVariants.{SetHand, SetPosition, PutHold, PutRecord, PutStep}
use Rattle.clr_rules.specs.declared.hold.Hold.{Hold}
use Rattle.clr_rules.specs.declared.point_state.PointState.{PointState}
use Rattle.clr_rules.specs.declared.record.Record.{Record}
use Rattle.clr_rules.specs.declared.step_row.StepRow.{StepRow}
use Rattle.clr_load.specs.RowsRead.{with_its_position}

-- the network of a register, each point in the position where it is now
abbrev pub grid_now : Register → Grid
grid_now R = record {
  sections = R.net.sections;
  points = map (with_its_position R.states) R.net.points;
}

abbrev pub hand_edit : PointState → Edit
hand_edit state = SetHand state.point state.hand

abbrev pub position_edit : PointState → Edit
position_edit state = SetPosition state.point state.position

-- each point into the hand that it is in, and then all holds, records and steps
abbrev pub filling : List PointState → List Hold → List Record → List StepRow → List Edit
filling states holds records steps = map hand_edit states ++ map PutHold holds
    ++ map PutRecord records ++ map PutStep steps
