-- The names that most proofs here take, passed on from one place.
pub use Rattle.clr_net.proofs.Walks.{any_from, one_name, same_itself, some_from}
pub use Rattle.clr_net.specs.declared.point.PointRow.{PointRow}
pub use Rattle.clr_net.specs.declared.point.Position.{Position}
pub use Rattle.clr_net.specs.declared.point.Position.TheVariants.{Opened, Closed as Shut}
pub use Rattle.clr_net.specs.declared.section.SectionRow.{SectionRow}
pub use Rattle.clr_staff.specs.declared.employee.Role.{Role}
pub use Rattle.clr_staff.specs.declared.employee.StaffRow.{StaffRow}
pub use Rattle.clr_order.specs.Step.{Task}
pub use Rattle.clr_rules.specs.declared.change.Edit.{Edit}
pub use Rattle.clr_rules.specs.declared.change.Edit.TheVariants.{AddPoint, AddSection}
pub use Rattle.clr_rules.specs.declared.command.Command.{Command}
pub use Rattle.clr_rules.specs.declared.hold.Hold.{Hold}
pub use Rattle.clr_rules.specs.declared.hold_kind.HoldKind.{HoldKind}
pub use Rattle.clr_rules.specs.declared.phase.Phase.{Phase}
pub use Rattle.clr_rules.specs.declared.point_state.PointState.{PointState}
pub use Rattle.clr_rules.specs.declared.record.Record.{Record}
pub use Rattle.clr_rules.specs.declared.step_row.StepRow.{StepRow}
pub use Rattle.clr_rules.specs.Prelude.{Grid, IsNetwork, Id, Register, name_cmp, same_name, has_name, section_names, point_names, unplaced, touches, in_key_order, list_any, list_all}
pub use Rattle.clr_rules.specs.Prelude.{state_key, state_of, position_of, has_in_hand, record_key, record_of, id_cmp, id_cmp_total, same_id, points_of, tasks_of}
pub use Rattle.clr_rules.specs.Prelude.{is_active, is_standing, is_granted, is_running, is_some_step, has_hold, is_point_kind, fence_of, in_fence, FenceRows}
unfoldable pub use Rattle.clr_rules.specs.Prelude.{after_edits, steps_in, steps_of}
pub use Rattle.clr_rules.specs.Records.{is_open, is_fenced, is_switch_order}
pub use Rattle.clr_rules.specs.Good.{IsGood, IsGoodAsSaid, ListsAreInOrder, AreAtPoints, is_known_work, is_operators}
pub use Rattle.clr_rules.specs.GoodByPhase.{IsGoodByPhase, IsInPlace, Isolates, outlook_of}
pub use Rattle.clr_rules.specs.Register.{first_state, opening, unplaced_net}
pub use Rattle.clr_net.proofs.KeptRows.{Contains-filter, kept_there, mapped_from, there_mapped}
pub use Rattle.clr_rules.proofs.lists.Filters.{filter-kept, name_says}
pub use Rattle.clr_rules.proofs.lists.NamedRows.{has_name-row, row_named}
pub use Rattle.clr_rules.proofs.lists.RoundSteps.{one_id, own_id, record_id}
pub use Rattle.clr_shelf.proofs.KeyOrder.{in_key_order-filter, in_key_order-first, in_key_order-rest}
pub use Rattle.clr_shelf.proofs.Keys.{below_not_above}
pub use Rattle.clr_shelf.proofs.Lists.{Contains-cases, Contains-here, Contains-later, list_all-contains}
pub use Rattle.clr_shelf.proofs.Members.{member-row_of, member-with_row, row_of-member}
pub use Rattle.std.proofs.lemmas.Bool.{and_from, and_parts, both_ways, false≢true, false_from_ne_true, not-true, not_from_false, or_cases, or_left, or_parts, or_right}
pub use Rattle.std.proofs.lemmas.Cmp.{nat_list_cmp_total}
pub use Rattle.std.proofs.lemmas.List.Elements.{All-contains, All-head, All-tail, All-weaker}
pub use Rattle.std.proofs.lemmas.Option.{none-some, same_Some}
pub use Rattle.clr_update.specs.Changes.{Changes, are_none, changes, in_position, is_none, lacking, near_set, net_stays, staff_stays}
pub use Rattle.clr_update.specs.Rows.{same_employee, same_flag, same_point, same_role, same_section}
pub use Rattle.clr_update.specs.Update.{IsRead, Update, after_update, fence_points, fence_sections, has, in_the_way, its_holder, its_readers, its_requester, joined, jumpers, kept, kept_state, needs_field}
unfoldable pub use Rattle.clr_update.specs.Update.{filed, first_needed, obstacles}
pub use Rattle.clr_update.specs.Update.{first_named, first_obstacle, open_records, standing_records, staying, step_points, unless, updated, where_so, work_section, names_in}
