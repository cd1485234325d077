-- WHAT AN ACCEPTED COMMAND CHANGES: its edits, in the order of their kinds, those of a kind in the
-- order of their keys. An edit is made also where it changes nothing.
use Rattle.std.specs.Prelude.{ℕ, if◌then◌else◌, ◌+◌, Bool, true, false, ◌&&◌, List, [], ◌∷◌, ◌++◌}
use Rattle.std.specs.Prelude.{map, Option, None, Some}
use Rattle.clr_rules.specs.Prelude.{Grid, section_names, has_name, PointRow, SectionRow, Task}
use Rattle.clr_rules.specs.Prelude.{Action, StepState, Waiting, Done, with_row, Edit, SetPosition}
use Rattle.clr_rules.specs.Prelude.{SetHand, PutHold, TakeHold, PutRecord, PutStep, AddSection}
use Rattle.clr_rules.specs.Prelude.{AddPoint, HeldOpen, Block, Control, Tag, Phase, Released}
use Rattle.clr_rules.specs.Prelude.{Closed, Record, StepRow, Id, Register, record_of, is_ordered}
use Rattle.clr_rules.specs.Prelude.{step_key, step_key_cmp, all_done, present_steps, step_at}
use Rattle.clr_rules.specs.Prelude.{has_any_hold, hold_of}
use Rattle.clr_net.specs.declared.point.Position.TheVariants.{Opened, Closed as Shut}
use Rattle.clr_rules.specs.Records.{ends_with_steps, is_switch_order}
use Rattle.clr_order.specs.declared.action.Action.TheVariants as actions

-- the steps of a round, numbered from n, each Waiting and without a reader
unfoldable pub new_steps : Id → ℕ → ℕ → List Task → List StepRow
new_steps c round n [] = []
new_steps c round n (t ∷ tasks) =
    record {
      id = c;
      round = round;
      ordinal = n;
      step = record { action = t.action; point = t.point; state = Waiting; reader = None };
    }
    ∷ new_steps c round (n + 1) tasks

abbrev pub put_steps : List StepRow → List Edit
put_steps rows = map PutStep rows

-- a step come to another state, with its reader
abbrev pub step_moved : StepState → Option (List ℕ) → StepRow → StepRow
step_moved state reader row =
    record row { step = record (StepRow.step row) { state = state; reader = reader } }

-- WHAT A STEP CHANGES AT ITS POINT once it is reported done, by its action. A switch order holds
-- nothing open
abbrev pub point_edits : Bool → Id → Action → List ℕ → List Edit
point_edits switching c actions.Open p =
    SetPosition p Opened ∷ SetHand p None
    ∷ (if switching then [] else PutHold (hold_of c HeldOpen p) ∷ [])
point_edits switching c actions.Block p = SetHand p None ∷ PutHold (hold_of c Block p) ∷ []
point_edits switching c actions.Control p = SetHand p None ∷ PutHold (hold_of c Control p) ∷ []
point_edits switching c actions.Tag p = SetHand p None ∷ PutHold (hold_of c Tag p) ∷ []
point_edits switching c actions.Untag p = SetHand p None ∷ TakeHold (hold_of c Tag p) ∷ []
point_edits switching c actions.Uncontrol p = SetHand p None ∷ TakeHold (hold_of c Control p) ∷ []
point_edits switching c actions.Unblock p = SetHand p None ∷ TakeHold (hold_of c Block p) ∷ []
point_edits switching c actions.Close p =
    SetPosition p Shut ∷ SetHand p None ∷ TakeHold (hold_of c HeldOpen p) ∷ []
point_edits switching c actions.Leave p = SetHand p None ∷ TakeHold (hold_of c HeldOpen p) ∷ []

-- the phase after a step is Done: a restoring or switching order ends with its last step
abbrev pub phase_after : List StepRow → Record → StepRow → Phase
phase_after steps r row =
    if ends_with_steps r.phase
    && all_done (present_steps (with_row step_key_cmp step_key row steps) r.id) then Closed
    else r.phase

-- the edits of a step that is reported done
abbrev pub done_edits : Register → ℕ → Record → StepRow → List Edit
done_edits R at r row =
    let done = step_moved Done row.step.reader row in
    point_edits (is_switch_order r) r.id row.step.action row.step.point
    ++ PutRecord (record r { phase = phase_after R.steps r done; last = at }) ∷ PutStep done ∷ []

-- the edits of a step that is reported not done
abbrev pub undone_edits : ℕ → Record → StepRow → List Edit
undone_edits at r row =
    SetHand row.step.point None ∷ PutRecord (record r { last = at })
    ∷ PutStep (step_moved Waiting None row) ∷ []

-- a clearance that was ordered and holds something is released, so that a restoring order can undo
-- it; any other is closed
abbrev pub cancelled_phase : Register → Record → Phase
cancelled_phase R r = if is_ordered r.phase && has_any_hold R.holds r.id then Released else Closed

-- a new record of the caller's, with the number after the greatest
abbrev pub new_record : ℕ → List ℕ → ℕ → Option (List ℕ) → Phase → Record
new_record greatest by at work phase =
    record {
      id = record { requester = by; number = greatest + 1 };
      holder = by;
      work = work;
      phase = phase;
      last = at;
    }

-- edits by what was found; where nothing was found the command was refused
abbrev pub edits_by : {X : Type 0} → Option X → (X → List Edit) → List Edit
edits_by None edits = []
edits_by (Some x) edits = edits x

abbrev pub with_record : Register → Id → (Record → List Edit) → List Edit
with_record R c edits = edits_by (record_of R.records c) edits

abbrev pub with_step : Register → Id → ℕ → (Record → StepRow → List Edit) → List Edit
with_step R c n edits =
    with_record R c (λ r. edits_by (step_at (present_steps R.steps c) n) (edits r))

-- a section that no source feeds
abbrev pub new_section : List ℕ → SectionRow
new_section name = record { name = name; source = false }

-- a point that is in no file, and open
abbrev pub new_jumper : List ℕ → List ℕ → List ℕ → Bool → Bool → PointRow
new_jumper point from to lockable remote = record {
  name = point;
  from_end = from;
  to_end = to;
  lockable = lockable;
  remote = remote;
  position = Opened;
  jumper = true;
}

-- a point is added, after the section that it leads to where the network does not have it
abbrev pub added_edits : Register → PointRow → List Edit
added_edits R p =
    if has_name (section_names (Grid.sections R.net)) p.to_end then AddPoint p ∷ []
    else AddSection (new_section p.to_end) ∷ AddPoint p ∷ []
