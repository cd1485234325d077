-- EDITS: what an accepted command does to the lists of the register. Putting a row replaces the row
-- of its key; all other rows stay.
use Rattle.std.specs.Prelude.{Bool, true, ◌&&◌, List, [], ◌∷◌}
use Rattle.clr_net.specs.Additions.{fits_point, fits_section, with_point, with_section}
use Rattle.clr_net.specs.Prelude.{Grid, unplaced, name_cmp}
use Rattle.clr_shelf.specs.Rows.{with_row, without_row}
use Rattle.clr_rules.specs.Hold.{hold_cmp}
use Rattle.clr_rules.specs.Holds.{hold_key}
use Rattle.clr_rules.specs.Id.{id_cmp}
use Rattle.clr_rules.specs.Records.{record_key}
use Rattle.clr_rules.specs.Register.{Register, first_state}
use Rattle.clr_rules.specs.States.{change_state, state_key}
use Rattle.clr_rules.specs.StepKey.{step_key, step_key_cmp}
use Rattle.clr_rules.specs.declared.change.Edit.{Edit}
use Rattle.clr_rules.specs.declared.hold.Hold.{Hold}
use Rattle.clr_rules.specs.declared.point_state.PointState.{PointState}
use Rattle.clr_rules.specs.declared.record.Record.{Record}
use Rattle.clr_rules.specs.declared.step_row.StepRow.{StepRow}
use Rattle.clr_rules.specs.declared.change.Edit.TheVariants.{SetPosition, SetHand, PutHold}
use Rattle.clr_rules.specs.declared.change.Edit.TheVariants.{TakeHold, PutRecord, PutStep}
use Rattle.clr_rules.specs.declared.change.Edit.TheVariants.{AddSection, AddPoint}

-- Each list says of every edit what it does there, so that a new edit is asked for in each.

-- the network after an edit: a section or a point more, put among the others by its name
abbrev pub net_after : Edit → Grid → Grid
net_after (AddSection row) g = with_section row g
net_after (AddPoint p) g = with_point (unplaced p) g
net_after (SetPosition point position) g = g
net_after (SetHand point hand) g = g
net_after (PutHold h) g = g
net_after (TakeHold h) g = g
net_after (PutRecord r) g = g
net_after (PutStep row) g = g

-- the states after an edit: an added point is open and in nobody's hand, wherever its row says that
-- it is
abbrev pub states_after : Edit → List PointState → List PointState
states_after (SetPosition point position) states =
    change_state states point (λ state. record state { position = position })
states_after (SetHand point hand) states =
    change_state states point (λ state. record state { hand = hand })
states_after (AddPoint p) states = with_row name_cmp state_key (first_state (unplaced p)) states
states_after (AddSection row) states = states
states_after (PutHold h) states = states
states_after (TakeHold h) states = states
states_after (PutRecord r) states = states
states_after (PutStep row) states = states

-- the holds after an edit
abbrev pub holds_after : Edit → List Hold → List Hold
holds_after (PutHold h) holds = with_row hold_cmp hold_key h holds
holds_after (TakeHold h) holds = without_row hold_cmp hold_key h holds
holds_after (SetPosition point position) holds = holds
holds_after (SetHand point hand) holds = holds
holds_after (PutRecord r) holds = holds
holds_after (PutStep row) holds = holds
holds_after (AddSection row) holds = holds
holds_after (AddPoint p) holds = holds

-- the records after an edit
abbrev pub records_after : Edit → List Record → List Record
records_after (PutRecord r) records = with_row id_cmp record_key r records
records_after (SetPosition point position) records = records
records_after (SetHand point hand) records = records
records_after (PutHold h) records = records
records_after (TakeHold h) records = records
records_after (PutStep row) records = records
records_after (AddSection row) records = records
records_after (AddPoint p) records = records

-- the steps after an edit
abbrev pub steps_after : Edit → List StepRow → List StepRow
steps_after (PutStep row) steps = with_row step_key_cmp step_key row steps
steps_after (SetPosition point position) steps = steps
steps_after (SetHand point hand) steps = steps
steps_after (PutHold h) steps = steps
steps_after (TakeHold h) steps = steps
steps_after (PutRecord r) steps = steps
steps_after (AddSection row) steps = steps
steps_after (AddPoint p) steps = steps

-- AN EDIT changes one of the lists, or the network, and the states with it where it adds a point;
-- the staff stay
abbrev pub after_edit : Edit → Register → Register
after_edit edit R = record R {
  net = net_after edit R.net;
  states = states_after edit R.states;
  holds = holds_after edit R.holds;
  records = records_after edit R.records;
  steps = steps_after edit R.steps;
}

-- the edits, one after the other
unfoldable pub after_edits : List Edit → Register → Register
after_edits [] R = R
after_edits (edit ∷ edits) R = after_edits edits (after_edit edit R)

-- whether an edit can be made to a network: a name that is added is new there, an added point joins
-- two different sections of it, and there are at most 5,000 sections and 10,000 points with it
abbrev pub fits_edit : Grid → Edit → Bool
fits_edit g (AddSection row) = fits_section g row
fits_edit g (AddPoint p) = fits_point g p
fits_edit g (SetPosition point position) = true
fits_edit g (SetHand point hand) = true
fits_edit g (PutHold h) = true
fits_edit g (TakeHold h) = true
fits_edit g (PutRecord r) = true
fits_edit g (PutStep row) = true

-- whether edits can be made to it, one after the other
unfoldable pub fit : Grid → List Edit → Bool
fit g [] = true
fit g (edit ∷ edits) = fits_edit g edit && fit (net_after edit g) edits
