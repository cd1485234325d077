-- Values within their types: what the program's own values always are, and what a row has to be to
-- be read back.
use Rattle.std.specs.Prelude.{ℕ, nat_le, Bool, true, ◌&&◌, IsTrue, List, Option, None, Some}
use Rattle.std.specs.List.{list_all}
use Rattle.clr_net.specs.Grid.{Grid}
use Rattle.clr_net.specs.Name.{is_name}
use Rattle.clr_net.specs.declared.point.PointRow.{PointRow}
use Rattle.clr_net.specs.declared.section.SectionRow.{SectionRow}
use Rattle.clr_staff.specs.declared.employee.StaffRow.{StaffRow}
use Rattle.clr_order.specs.Step.{Task}
use Rattle.clr_rules.specs.Command.{named_clearance, named_place}
use Rattle.clr_rules.specs.Id.{Id, is_id}
use Rattle.clr_rules.specs.Moment.{is_moment}
use Rattle.clr_rules.specs.Register.{Register}
use Rattle.clr_rules.specs.declared.command.Command.{Command}
use Rattle.clr_rules.specs.declared.command.Kind.{Kind}
use Rattle.clr_rules.specs.declared.command.Kind.TheVariants.{Order, Transfer, Restore, Switch}
use Rattle.clr_rules.specs.declared.command.Kind.TheVariants.{Jumper}
use Rattle.clr_rules.specs.declared.hold.Hold.{Hold}
use Rattle.clr_rules.specs.declared.point_state.PointState.{PointState}
use Rattle.clr_rules.specs.declared.record.Record.{Record}
use Rattle.clr_rules.specs.declared.step_row.StepRow.{StepRow}

-- a name, if there is one
abbrev pub is_name_or_none : Option (List ℕ) → Bool
is_name_or_none None = true
is_name_or_none (Some name) = is_name name

-- a clearance, if there is one
abbrev pub is_id_or_none : Option Id → Bool
is_id_or_none None = true
is_id_or_none (Some c) = is_id c

abbrev pub is_typed_section : SectionRow → Bool
is_typed_section s = is_name s.name

abbrev pub is_typed_point : PointRow → Bool
is_typed_point p = is_name p.name && (is_name p.from_end && is_name p.to_end)

abbrev pub is_typed_state : PointState → Bool
is_typed_state state = is_id_or_none state.hand

abbrev pub is_typed_employee : StaffRow → Bool
is_typed_employee e = is_name e.name && is_name_or_none e.supervisor

abbrev pub is_typed_record : Record → Bool
is_typed_record r = is_id r.id && (is_name r.holder && (is_name_or_none r.work && is_moment r.last))

abbrev pub is_typed_step : StepRow → Bool
is_typed_step row =
    is_id row.id && (nat_le row.round 255
    && (nat_le row.ordinal 65535
    && (is_name row.step.point && is_name_or_none row.step.reader)))

abbrev pub is_typed_hold : Hold → Bool
is_typed_hold h = is_name h.place && is_id h.id

abbrev pub is_typed_task : Task → Bool
is_typed_task t = is_name t.point

-- each value of a command is of its type. Most commands name no more than a clearance and a place
abbrev pub is_typed_kind : Kind → Bool
is_typed_kind (Order c points tasks) = is_id c
    && (list_all is_name points && list_all is_typed_task tasks)
is_typed_kind (Transfer c to emergency) = is_id c && is_name to
is_typed_kind (Restore c tasks) = is_id c && list_all is_typed_task tasks
is_typed_kind (Switch tasks) = list_all is_typed_task tasks
is_typed_kind (Jumper point from to lockable remote) =
    is_name point && (is_name from && is_name to)
is_typed_kind kind =
    is_id_or_none (named_clearance kind) && is_name_or_none (named_place kind)

abbrev pub is_typed_command : Command → Bool
is_typed_command q = is_name q.caller && (is_moment q.moment && is_typed_kind q.kind)

-- EACH VALUE OF A REGISTER IS OF ITS TYPE
pub record IsTyped (R : Register) : Type 0 where
  pub sections : IsTrue (list_all is_typed_section (Grid.sections R.net))
  pub points : IsTrue (list_all is_typed_point (Grid.points R.net))
  pub states : IsTrue (list_all is_typed_state R.states)
  pub staff : IsTrue (list_all is_typed_employee R.staff)
  pub records : IsTrue (list_all is_typed_record R.records)
  pub steps : IsTrue (list_all is_typed_step R.steps)
  pub holds : IsTrue (list_all is_typed_hold R.holds)
