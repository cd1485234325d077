-- The names that most proofs take: the rows, their keys and readings, the edits, and what is below.
pub use Rattle.clr_rules.specs.declared.change.Edit.{Edit}
pub use Rattle.clr_rules.specs.declared.change.Edit.TheVariants.{SetPosition, SetHand, PutHold}
pub use Rattle.clr_rules.specs.declared.change.Edit.TheVariants.{TakeHold, PutRecord, PutStep}
pub use Rattle.clr_rules.specs.declared.change.Edit.TheVariants.{AddSection, AddPoint}
pub use Rattle.clr_rules.specs.declared.command.Command.{Command}
pub use Rattle.clr_rules.specs.declared.command.Kind.{Kind}
pub use Rattle.clr_rules.specs.declared.hold.Hold.{Hold}
pub use Rattle.clr_rules.specs.declared.hold_kind.HoldKind.{HoldKind}
pub use Rattle.clr_rules.specs.declared.hold_kind.HoldKind.TheVariants.{HeldOpen, Block, Control}
pub use Rattle.clr_rules.specs.declared.hold_kind.HoldKind.TheVariants.{Tag, Tested, Ground, Crew}
pub use Rattle.clr_rules.specs.declared.phase.Phase.{Phase}
pub use Rattle.clr_rules.specs.declared.phase.Phase.TheVariants.{Requested, Ordered, Granted}
pub use Rattle.clr_rules.specs.declared.phase.Phase.TheVariants.{Released, Restoring, Switching}
pub use Rattle.clr_rules.specs.declared.phase.Phase.TheVariants.{Closed}
pub use Rattle.clr_rules.specs.declared.point_state.PointState.{PointState}
pub use Rattle.clr_rules.specs.declared.record.Record.{Record}
pub use Rattle.clr_rules.specs.declared.refusal.Refusal.{Refusal}
pub use Rattle.clr_rules.specs.declared.reply.Reply.{Reply}
pub use Rattle.clr_rules.specs.declared.step_row.StepRow.{StepRow}
pub use Rattle.clr_rules.specs.Id.{Id, id_cmp, id_cmp_total, same_id}
pub use Rattle.clr_rules.specs.Register.{Register}
pub use Rattle.clr_rules.specs.States.{hand_of, has_in_hand, position_of, state_key, state_of}
unfoldable pub use Rattle.clr_rules.specs.Records.{greatest_number, record_key, record_of}
unfoldable pub use Rattle.clr_rules.specs.Records.{is_running, is_standing}
unfoldable pub use Rattle.clr_rules.specs.Records.{is_granted, is_restoring, is_ordered}
pub use Rattle.clr_rules.specs.StepKey.{step_key, step_key_cmp, step_key_cmp_total}
unfoldable pub use Rattle.clr_rules.specs.Steps.{all_done, is_active, is_done, is_some_step}
unfoldable pub use Rattle.clr_rules.specs.Steps.{is_waiting, points_of}
unfoldable pub use Rattle.clr_rules.specs.Steps.{present_steps, present_round, step_at, steps_in}
unfoldable pub use Rattle.clr_rules.specs.Steps.{steps_of, tasks_of}
pub use Rattle.clr_rules.specs.Hold.{hold_cmp, hold_cmp_total}
pub use Rattle.clr_rules.specs.HoldKind.{is_crew, is_point_kind, is_section_kind}
unfoldable pub use Rattle.clr_rules.specs.Holds.{has_any_hold, has_hold, has_some_hold, held_at}
unfoldable pub use Rattle.clr_rules.specs.Holds.{hold_key, hold_of}
unfoldable pub use Rattle.clr_rules.specs.Holds.{holds_of, first_of_each, places_of, same_kind}
unfoldable pub use Rattle.clr_rules.specs.Edits.{after_edit, after_edits}
pub use Rattle.std.specs.List.{list_all, list_any}
pub use Rattle.clr_net.specs.declared.point.PointRow.{PointRow}
pub use Rattle.clr_net.specs.declared.point.Position.{Position}
pub use Rattle.clr_net.specs.declared.section.SectionRow.{SectionRow}
pub use Rattle.clr_net.specs.Fence.{FenceRows, fence_of, touches}
unfoldable pub use Rattle.clr_net.specs.Fence.{in_fence, reaches}
pub use Rattle.clr_net.specs.Grid.{Grid, IsNetwork, has_ends, point_names, section_names, unplaced}
pub use Rattle.clr_net.specs.Name.{name_cmp, same_name}
pub use Rattle.clr_net.specs.Names.{has_name}
pub use Rattle.clr_net.specs.declared.point.Position.TheVariants.{Opened}
pub use Rattle.clr_rules.specs.declared.command.Kind.TheVariants.{Request, Order, Instruct, Repeat}
pub use Rattle.clr_rules.specs.declared.command.Kind.TheVariants.{Report, Grant, Test, Unground}
pub use Rattle.clr_rules.specs.declared.command.Kind.TheVariants.{SignOn, SignOff, Transfer}
pub use Rattle.clr_rules.specs.declared.command.Kind.TheVariants.{Release, Cancel, Restore, Amend}
pub use Rattle.clr_rules.specs.declared.command.Kind.TheVariants.{Switch, Show, Jumper}
pub use Rattle.clr_rules.specs.declared.refusal.Refusal.TheVariants.{UnknownCaller, WrongRole}
pub use Rattle.clr_rules.specs.declared.refusal.Refusal.TheVariants.{UnknownSection}
pub use Rattle.clr_rules.specs.declared.refusal.Refusal.TheVariants.{TooManyClearances}
pub use Rattle.clr_rules.specs.declared.refusal.Refusal.TheVariants.{UnknownClearance, NotHolder}
pub use Rattle.clr_rules.specs.declared.refusal.Refusal.TheVariants.{Earlier, WrongPhase}
pub use Rattle.clr_rules.specs.declared.refusal.Refusal.TheVariants.{EmptyOrder, LongOrder}
pub use Rattle.clr_rules.specs.declared.refusal.Refusal.TheVariants.{PointTwice, SourceInside}
pub use Rattle.clr_rules.specs.declared.refusal.Refusal.TheVariants.{NotOnFence, StepsWrong}
pub use Rattle.clr_rules.specs.declared.refusal.Refusal.TheVariants.{UnknownPoint, NoStep}
pub use Rattle.clr_rules.specs.declared.refusal.Refusal.TheVariants.{OutOfTurn, InHand, Held}
pub use Rattle.clr_rules.specs.declared.refusal.Refusal.TheVariants.{RepeatDiffers, WrongReporter}
pub use Rattle.clr_rules.specs.declared.refusal.Refusal.TheVariants.{StepsLeft, OutsideFence}
pub use Rattle.clr_rules.specs.declared.refusal.Refusal.TheVariants.{NotTested, Grounded}
pub use Rattle.clr_rules.specs.declared.refusal.Refusal.TheVariants.{NotGrounded, CrewsOn}
pub use Rattle.clr_rules.specs.declared.refusal.Refusal.TheVariants.{CrewState, BadTransfer}
pub use Rattle.clr_rules.specs.declared.refusal.Refusal.TheVariants.{NotAttested, PointExists}
pub use Rattle.clr_rules.specs.declared.refusal.Refusal.TheVariants.{CrossesFence, NetworkFull}
pub use Rattle.clr_rules.specs.declared.refusal.Refusal.TheVariants.{SameEnds}
pub use Rattle.clr_rules.specs.declared.reply.Card.{Card}
pub use Rattle.clr_rules.specs.declared.reply.Reply.TheVariants.{Accepted, Shown, Refused, Added}
pub use Rattle.clr_order.specs.declared.action.Action.{Action}
pub use Rattle.clr_order.specs.declared.step.Step.{Step}
pub use Rattle.clr_order.specs.declared.step.StepState.{StepState}
pub use Rattle.clr_order.specs.declared.step.StepState.TheVariants.{Waiting, Instructed, Repeated}
pub use Rattle.clr_order.specs.declared.step.StepState.TheVariants.{Done}
pub use Rattle.clr_order.specs.Step.{Task, task, actions_at, task_points}
pub use Rattle.clr_staff.specs.declared.employee.StaffRow.{StaffRow}
pub use Rattle.clr_shelf.specs.Rows.{in_key_order}
unfoldable pub use Rattle.clr_shelf.specs.Rows.{row_of, with_row, without_row}
