-- HOW COMMANDS BEGIN: which roles, phases and states the tests of the checks let through.
use Rattle.std.specs.Prelude.{Bool, List, Option}
use Rattle.clr_staff.specs.declared.employee.Role.{Role}
use Rattle.clr_order.specs.declared.step.StepState.{StepState}
use Rattle.clr_rules.specs.Checks.{is_charge, is_charge_or_operator, is_field, is_operator}
use Rattle.clr_rules.specs.Records.{is_cancellable, is_granted, is_ordered, is_released}
use Rattle.clr_rules.specs.Records.{is_requested, is_restoring, is_running, is_transferable}
use Rattle.clr_rules.specs.Steps.{is_active, is_repeated, is_waiting}
use Rattle.clr_rules.specs.Near.{Near}
use Rattle.clr_rules.specs.declared.change.Edit.{Edit}
use Rattle.clr_rules.specs.declared.command.Kind.{Kind}
use Rattle.clr_rules.specs.declared.phase.Phase.{Phase}
use Rattle.clr_rules.specs.declared.refusal.Refusal.{Refusal}
use Rattle.clr_answer.specs.Decision.{near_edits, near_refusal}
use Rattle.clr_answer.specs.declared.checks.begins.Ask.{Ask}
use Rattle.clr_answer.specs.declared.checks.callers.RoleTest.{RoleTest}
use Rattle.clr_answer.specs.declared.checks.callers.RoleTest.TheVariants as roles
use Rattle.clr_answer.specs.declared.checks.clearances.PhaseTest.{PhaseTest}
use Rattle.clr_answer.specs.declared.checks.clearances.PhaseTest.TheVariants as phases
use Rattle.clr_answer.specs.declared.checks.steps.StateTest.{StateTest}
use Rattle.clr_answer.specs.declared.checks.steps.StateTest.TheVariants as states

-- the first check that applies, and the edits where none does, of a command of a clearance
abbrev pub asked_refusal : Near → Ask → Kind → Option Refusal
asked_refusal near asked kind = near_refusal near asked.by asked.at kind

abbrev pub asked_edits : Near → Ask → Kind → List Edit
asked_edits near asked kind = near_edits near asked.by asked.at kind

abbrev pub role_fits : RoleTest → Role → Bool
role_fits roles.Operator = is_operator
role_fits roles.Field = is_field
role_fits roles.Charge = is_charge
role_fits roles.ChargeOrOperator = is_charge_or_operator

abbrev pub phase_fits : PhaseTest → Phase → Bool
phase_fits phases.Requested = is_requested
phase_fits phases.Ordered = is_ordered
phase_fits phases.Running = is_running
phase_fits phases.Granted = is_granted
phase_fits phases.Released = is_released
phase_fits phases.Restoring = is_restoring
phase_fits phases.Transferable = is_transferable
phase_fits phases.Cancellable = is_cancellable

abbrev pub state_fits : StateTest → StepState → Bool
state_fits states.Waiting = is_waiting
state_fits states.Active = is_active
state_fits states.Repeated = is_repeated
