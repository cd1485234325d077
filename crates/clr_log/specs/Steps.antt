-- WHAT A STEP OF A CLEARANCE IS, by the journal before its line: the step of this number in the last
-- order that was carried out. Of these lines the newest come first.
use Rattle.std.specs.Prelude.{ℕ, zero, suc, Bool, true, false, not, ◌&&◌, ◌||◌, ◌==◌, List, []}
use Rattle.std.specs.Prelude.{◌∷◌, Option, None, Some, if◌then◌else◌, option_map, slice_get}
use Rattle.serde_json.specs.Data.{Data}
use Rattle.clr_changes.specs.Deeds.{Deed, archive, command, update}
use Rattle.clr_order.specs.Step.{Task}
use Rattle.clr_order.specs.declared.action.Action.TheVariants.{Leave}
use Rattle.clr_rules.specs.Id.{Id}
use Rattle.clr_rules.specs.declared.command.Kind.{Kind}
use Rattle.clr_rules.specs.declared.command.Kind.TheVariants.{Order, Restore, Switch, Amend}
use Rattle.clr_journal.specs.Line.{Entry, carried, withdrawn, is_accepted}
use Rattle.clr_log.specs.About.{clearance_of, is_wanted}

-- the deed was carried out, and is about the clearance
abbrev pub is_done_for : Id → Deed → Data → Bool
is_done_for c deed reply = is_accepted reply && is_wanted (Some c) (clearance_of deed reply)

-- the steps that a command orders
abbrev pub steps_ordered : Kind → Option (List Task)
steps_ordered (Order c points steps) = Some steps
steps_ordered (Restore c steps) = Some steps
steps_ordered (Switch steps) = Some steps
steps_ordered kind = None

-- and those that a deed orders: an update or an archive orders none
abbrev pub deed_steps : Deed → Option (List Task)
deed_steps (command q) = steps_ordered q.kind
deed_steps (update of) = None
deed_steps (archive before) = None

-- a step of this number was turned into a Leave
abbrev pub is_amend : ℕ → Kind → Bool
is_amend k (Amend c step) = k == step
is_amend k kind = false

abbrev pub is_amend_deed : ℕ → Deed → Bool
is_amend_deed k (command q) = is_amend k q.kind
is_amend_deed k (update of) = false
is_amend_deed k (archive before) = false

-- the steps that a line gave a clearance, unless the line after it withdraws it
abbrev pub given_by : Bool → Id → Entry → Option (List Task)
given_by withdraws c (withdrawn n) = None
given_by withdraws c (carried receipt deed reply) =
    if not withdraws && is_done_for c deed reply then deed_steps deed else None

-- whether it turned a step into a Leave, unless the line after it withdraws it
abbrev pub amended_by : Bool → Id → ℕ → Entry → Bool
amended_by withdraws c k (withdrawn n) = false
amended_by withdraws c k (carried receipt deed reply) =
    not withdraws && (is_done_for c deed reply && is_amend_deed k deed)

abbrev pub is_withdrawn : Entry → Bool
is_withdrawn (withdrawn n) = true
is_withdrawn (carried receipt deed reply) = false

-- the step of a number, counted from 1
abbrev pub step_at : ℕ → List Task → Option Task
step_at zero steps = None
step_at (suc n) steps = slice_get steps n

abbrev pub left_if : Bool → Task → Task
left_if false t = t
left_if true t = record { action = Leave; point = t.point }

abbrev pub given_or : ℕ → Bool → Option (List Task) → Option Task → Option Task
given_or k amended None rest = rest
given_or k amended (Some steps) rest = option_map (left_if amended) (step_at k steps)

-- the step, where it is known whether the line after these withdraws, and whether the step was
-- amended since
unfoldable pub step_before : Id → ℕ → Bool → Bool → List Entry → Option Task
step_before c k withdraws amended [] = None
step_before c k withdraws amended (entry ∷ older) =
    given_or k amended (given_by withdraws c entry)
    (step_before c k (is_withdrawn entry) (amended || amended_by withdraws c k entry) older)

-- THE STEP OF A NUMBER of a clearance, if a line before gave an order that has it
abbrev pub step_known : List Entry → Id → ℕ → Option Task
step_known older c k = step_before c k false false older
