-- A book as contracts see it: the register that its shelves hold, and how many rows may be put on
-- each.
use Rattle.std.specs.Prelude.{◌≤◌, ℕ, ◌+◌, List, [], ◌∷◌, filter}
use Rattle.clr_net.specs.Grid.{Grid}
use Rattle.clr_rules.specs.Records.{is_open}
use Rattle.clr_rules.specs.Register.{Register}
use Rattle.clr_rules.specs.declared.change.Edit.{Edit}
use Rattle.clr_rules.specs.declared.change.Edit.TheVariants.{SetPosition, SetHand, PutHold}
use Rattle.clr_rules.specs.declared.change.Edit.TheVariants.{TakeHold, PutRecord, PutStep}
use Rattle.clr_rules.specs.declared.change.Edit.TheVariants.{AddSection, AddPoint}
use Rattle.clr_rules.specs.declared.record.Record.{Record}

-- the records that are not closed, which a book has on a shelf of their own too
abbrev pub open_in : List Record → List Record
open_in records = filter (λ r. is_open r.phase) records

-- rows that may be put; a state that is set is replaced, and needs no room, but an added point has a
-- new one. A network has the room of the greatest one
pub record Room : Type 0 where
  pub states : ℕ
  pub records : ℕ
  pub open_records : ℕ
  pub steps : ℕ
  pub holds : ℕ

pub record Shelved : Type 0 where
  -- the network, with the positions of the rows that it was built of and of those that were added
  pub network : Grid
  pub register : Register
  pub room : Room

-- the room that edits need
abbrev pub need_of : Edit → Room → Room
need_of (SetPosition point position) need = need
need_of (SetHand point hand) need = need
need_of (PutHold h) need = record need { holds = need.holds + 1 }
need_of (TakeHold h) need = need
need_of (PutRecord r) need =
    record need { records = need.records + 1; open_records = need.open_records + 1 }
need_of (PutStep row) need = record need { steps = need.steps + 1 }
need_of (AddSection row) need = need
need_of (AddPoint p) need = record need { states = need.states + 1 }

abbrev pub needs : List Edit → Room
needs [] = record { states = 0; records = 0; open_records = 0; steps = 0; holds = 0 }
needs (edit ∷ edits) = need_of edit (needs edits)

pub record Fits (need room : Room) : Type 0 where
  pub states : need.states ≤ room.states
  pub records : need.records ≤ room.records
  pub open_records : need.open_records ≤ room.open_records
  pub steps : need.steps ≤ room.steps
  pub holds : need.holds ≤ room.holds
