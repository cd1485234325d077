-- What edits do to a register, and which answers have none, as laws.
use Rattle.std.specs.Prelude.{◌≡◌, ◌↔◌, ℕ, Bool, true, false, not, ◌&&◌, ◌||◌, if◌then◌else◌, List}
use Rattle.std.specs.Prelude.{[], map, Contains, Option, None, Some, option_map, ◌⊎◌}
use Rattle.clr_rules.specs.Prelude.{list_all, same_name, Position, row_of, Edit, SetPosition}
use Rattle.clr_rules.specs.Prelude.{SetHand, PutHold, TakeHold, PutRecord, PutStep, AddSection}
use Rattle.clr_rules.specs.Prelude.{AddPoint, Command, Hold, HoldKind, PointState, Record, Refusal}
use Rattle.clr_rules.specs.Prelude.{StepRow, Id, id_cmp, same_id, Register, state_key, state_of}
use Rattle.clr_rules.specs.Prelude.{record_key, record_of, step_key, step_key_cmp, hold_cmp}
use Rattle.clr_rules.specs.Prelude.{has_hold, hold_key, hold_of, after_edit, after_edits, Card}
use Rattle.clr_rules.specs.Prelude.{Accepted, Shown, Refused, Added}
use Rattle.std.specs.Ordering.{is_eq}
use Rattle.std.specs.declared.cmp.Ordering.{Ordering}
use Rattle.clr_rules.specs.Answer.{Answer, answer, first_refusal, known_of}
use Rattle.clr_rules.specs.Commands.{checks}
use Rattle.clr_rules.specs.Good.{ListsAreInOrder}
use Rattle.clr_rules.specs.Run.{after}
use Rattle.clr_rules.specs.declared.reply.View.{View}
use Rattle.clr_rules.specs.declared.step_row.StepKey.{StepKey}

-- A RECORD THAT IS PUT is read for its clearance, and for every other clearance what was read
-- before
abbrev pub PutRecordReplaces : Type 0
PutRecordReplaces = (R : Register) (r : Record) (c : Id)
    → record_of (Register.records (after_edit (PutRecord r) R)) c
    ≡ (if same_id r.id c then Some r else record_of R.records c)

-- A STEP THAT IS PUT is read for its key, and for every other key what was read before
abbrev pub PutStepReplaces : Type 0
PutStepReplaces = (R : Register) (row : StepRow) (key : StepKey)
    → row_of step_key_cmp step_key key (Register.steps (after_edit (PutStep row) R))
    ≡ (if is_eq (step_key_cmp (step_key row) key) then Some row
    else row_of step_key_cmp step_key key R.steps)

-- whether a hold is that of a clearance of a kind at a place
abbrev pub is_hold : Hold → Id → HoldKind → List ℕ → Bool
is_hold h c kind place = is_eq (hold_cmp h (hold_of c kind place))

-- A HOLD THAT IS PUT is there, and all others are there where they were
abbrev pub PutHoldAdds : Type 0
PutHoldAdds = (R : Register) (h : Hold) (c : Id) (kind : HoldKind) (place : List ℕ)
    → has_hold (Register.holds (after_edit (PutHold h) R)) c kind place
    ≡ (is_hold h c kind place || has_hold R.holds c kind place)

-- A HOLD THAT IS TAKEN is gone, and all others are there where they were
abbrev pub TakeHoldTakes : Type 0
TakeHoldTakes = (R : Register) (h : Hold) (c : Id) (kind : HoldKind) (place : List ℕ)
    → has_hold (Register.holds (after_edit (TakeHold h) R)) c kind place
    ≡ (not (is_hold h c kind place) && has_hold R.holds c kind place)

-- what is found, changed where a test says so
abbrev pub changed_where : Bool → (PointState → PointState) → Option PointState → Option PointState
changed_where here change found = if here then option_map change found else found

-- A POSITION THAT IS SET is that of the point, whose hand stays, and all other points stay as they
-- are
abbrev pub SetPositionSets : Type 0
SetPositionSets = (R : Register) (p : List ℕ) (position : Position) (q : List ℕ)
    → state_of (Register.states (after_edit (SetPosition p position) R)) q
    ≡ changed_where (same_name p q) (λ state. record state { position = position })
    (state_of R.states q)

-- A HAND THAT IS SET is that of the point, whose position stays, and all other points stay as they
-- are
abbrev pub SetHandSets : Type 0
SetHandSets = (R : Register) (p : List ℕ) (hand : Option Id) (q : List ℕ)
    → state_of (Register.states (after_edit (SetHand p hand) R)) q
    ≡ changed_where (same_name p q) (λ state. record state { hand = hand }) (state_of R.states q)

-- after a put a list has the row that was put and the rows of other keys, and no other row
abbrev pub HasRowPut : {Key Row : Type 0} → (Key → Key → Ordering) → (Row → Key) → Row → List Row
    → List Row → Type 0
HasRowPut {Key} {Row} compare key_of row before after = (other : Row)
    → Contains after other
    ↔ ((row ≡ other)
    ⊎ (Contains before other × (is_eq (compare (key_of row) (key_of other)) ≡ false)))

-- after a take a list has the rows of other keys, and no other row
abbrev pub HasRowTaken : {Key Row : Type 0} → (Key → Key → Ordering) → (Row → Key) → Key → List Row
    → List Row → Type 0
HasRowTaken {Key} {Row} compare key_of key before after = (other : Row)
    → Contains after other ↔ (Contains before other × (is_eq (compare key (key_of other)) ≡ false))

-- EVERY OTHER ROW STAYS, and no other row comes
pub record OtherRowsStay (R : Register) : Type 0 where
  pub record_put : (r : Record)
      → HasRowPut id_cmp record_key r R.records (Register.records (after_edit (PutRecord r) R))
  pub step_put : (row : StepRow)
      → HasRowPut step_key_cmp step_key row R.steps (Register.steps (after_edit (PutStep row) R))
  pub hold_put : (h : Hold)
      → HasRowPut hold_cmp hold_key h R.holds (Register.holds (after_edit (PutHold h) R))
  pub hold_taken : (h : Hold)
      → HasRowTaken hold_cmp hold_key h R.holds (Register.holds (after_edit (TakeHold h) R))

abbrev pub PutsKeepOtherRows : Type 0
PutsKeepOtherRows = (R : Register) → ListsAreInOrder R → OtherRowsStay R

-- whether an edit is one of point states, of records, of steps, of holds
abbrev pub edits_states : Edit → Bool
edits_states (SetPosition p position) = true
edits_states (SetHand p hand) = true
edits_states (AddPoint p) = true
edits_states (AddSection row) = false
edits_states (PutHold h) = false
edits_states (TakeHold h) = false
edits_states (PutRecord r) = false
edits_states (PutStep row) = false

abbrev pub edits_records : Edit → Bool
edits_records (PutRecord r) = true
edits_records (SetPosition p position) = false
edits_records (SetHand p hand) = false
edits_records (PutHold h) = false
edits_records (TakeHold h) = false
edits_records (PutStep row) = false
edits_records (AddSection row) = false
edits_records (AddPoint p) = false

abbrev pub edits_steps : Edit → Bool
edits_steps (PutStep row) = true
edits_steps (SetPosition p position) = false
edits_steps (SetHand p hand) = false
edits_steps (PutHold h) = false
edits_steps (TakeHold h) = false
edits_steps (PutRecord r) = false
edits_steps (AddSection row) = false
edits_steps (AddPoint p) = false

abbrev pub edits_holds : Edit → Bool
edits_holds (PutHold h) = true
edits_holds (TakeHold h) = true
edits_holds (SetPosition p position) = false
edits_holds (SetHand p hand) = false
edits_holds (PutRecord r) = false
edits_holds (PutStep row) = false
edits_holds (AddSection row) = false
edits_holds (AddPoint p) = false

-- whether an edit adds a section or a point
abbrev pub adds : Edit → Bool
adds (AddSection row) = true
adds (AddPoint p) = true
adds (SetPosition p position) = false
adds (SetHand p hand) = false
adds (PutHold h) = false
adds (TakeHold h) = false
adds (PutRecord r) = false
adds (PutStep row) = false

abbrev pub adds_nothing : List Edit → Bool
adds_nothing edits = list_all (λ edit. not (adds edit)) edits

-- AN EDIT LEAVES THE REST: the network, where it adds nothing to it, the staff, and each list that
-- it is not of
pub record LeavesTheRest (edit : Edit) (R : Register) : Type 0 where
  pub same_net : adds edit ≡ false → Register.net (after_edit edit R) ≡ R.net
  pub same_staff : Register.staff (after_edit edit R) ≡ R.staff
  pub same_states : edits_states edit ≡ false → Register.states (after_edit edit R) ≡ R.states
  pub same_records : edits_records edit ≡ false → Register.records (after_edit edit R) ≡ R.records
  pub same_steps : edits_steps edit ≡ false → Register.steps (after_edit edit R) ≡ R.steps
  pub same_holds : edits_holds edit ≡ false → Register.holds (after_edit edit R) ≡ R.holds

abbrev pub EditsLeaveTheRest : Type 0
EditsLeaveTheRest = (edit : Edit) (R : Register) → LeavesTheRest edit R

-- EDITS KEEP THE ORDER of every list
abbrev pub EditsKeepOrder : Type 0
EditsKeepOrder =
    (R : Register) (edits : List Edit) → ListsAreInOrder R → ListsAreInOrder (after_edits edits R)

-- EDITS KEEP THE NETWORK, the staff, and the points that have states, where they add nothing
pub record KeepsNetwork (R S : Register) : Type 0 where
  pub same_net : S.net ≡ R.net
  pub same_staff : S.staff ≡ R.staff
  pub same_points : map state_key S.states ≡ map state_key R.states

abbrev pub EditsKeepNetwork : Type 0
EditsKeepNetwork =
    (R : Register) (edits : List Edit) → adds_nothing edits ≡ true → ListsAreInOrder R
    → KeepsNetwork R (after_edits edits R)

-- the refusal of a command: that of the first check that applies
abbrev pub refusal_of : Register → Command → Option Refusal
refusal_of R q = first_refusal (checks (known_of R q) R q.caller q.moment q.kind)

-- A COMMAND IS REFUSED exactly where a check applies, and then changes nothing
abbrev pub RefusedByFirstCheck : Type 0
RefusedByFirstCheck = (R : Register) (q : Command) (refusal : Refusal)
    → (Answer.reply (answer R q) ≡ Refused refusal) ↔ (refusal_of R q ≡ Some refusal)

abbrev pub RefusedChangesNothing : Type 0
RefusedChangesNothing =
    (R : Register) (q : Command) (refusal : Refusal) → Answer.reply (answer R q) ≡ Refused refusal
    → (Answer.edits (answer R q) ≡ []) × (after R q ≡ R)

-- A SHOWN COMMAND changes nothing, and no check applies to it
abbrev pub ShownChangesNothing : Type 0
ShownChangesNothing =
    (R : Register) (q : Command) (view : View) → Answer.reply (answer R q) ≡ Shown view
    → (refusal_of R q ≡ None) × (Answer.edits (answer R q) ≡ []) × (after R q ≡ R)

-- A COMMAND IS ACCEPTED only where no check applies
abbrev pub AcceptedPassesChecks : Type 0
AcceptedPassesChecks =
    (R : Register) (q : Command) (card : Card) → Answer.reply (answer R q) ≡ Accepted card
    → refusal_of R q ≡ None

-- and so is one that adds a point
abbrev pub AddedPassesChecks : Type 0
AddedPassesChecks =
    (R : Register) (q : Command) (point : List ℕ) → Answer.reply (answer R q) ≡ Added point
    → refusal_of R q ≡ None
