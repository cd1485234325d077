-- The names that most proofs over the rules take, passed on from one place.
pub use Rattle.clr_net.proofs.Walks.{any_from, one_name, same_itself, some_from}
pub use Rattle.clr_net.specs.Additions.{fits_section, with_section}
pub use Rattle.clr_net.specs.NameText.{read_name}
pub use Rattle.clr_order.specs.Action.{is_switching}
pub use Rattle.clr_order.specs.Isolating.{IsSoundOrder, isolating_fault}
pub use Rattle.clr_rules.proofs.lists.Filters.{kept_there, name_says, there_mapped}
pub use Rattle.clr_rules.proofs.lists.HoldMembers.{hold_there}
pub use Rattle.clr_rules.proofs.lists.NamedRows.{Contains-filter, has_name-row}
pub use Rattle.clr_rules.proofs.lists.RoundSteps.{All-from_each, of_round_is, one_id, own_id, record_id}
pub use Rattle.clr_rules.specs.Agreement.{Agree}
pub use Rattle.clr_rules.specs.Answer.{Answer, answer, answer_by_checks, answer_with, first_refusal, known_of}
pub use Rattle.clr_rules.specs.Changes.{done_edits, new_jumper, point_edits, put_steps, step_moved, undone_edits}
unfoldable pub use Rattle.clr_rules.specs.Changes.{new_steps}
pub use Rattle.clr_rules.specs.Checks.{is_operator, refuse}
pub use Rattle.clr_rules.specs.Command.{is_jumper, named_clearance}
pub use Rattle.clr_rules.specs.Commands.{Known, checks, edits_of}
unfoldable pub use Rattle.clr_rules.specs.Edits.{fit}
pub use Rattle.clr_rules.specs.Fences.{clearance_fence, work_fence}
unfoldable pub use Rattle.clr_rules.specs.Fences.{touching_names}
pub use Rattle.clr_rules.specs.Good.{AreAtPoints, IsGood, IsGoodAsSaid, ListsAreInOrder, has_record, is_known_work, is_operators, put_by, puts, steps_left_of}
unfoldable pub use Rattle.clr_rules.specs.Good.{is_closing_at}
pub use Rattle.clr_rules.specs.GoodByPhase.{ActiveInRound, InPhase, IsGoodByPhase, IsInPlace, Outlook, active_at, all_waiting, go_in_turn, outlook_of, present_of}
unfoldable pub use Rattle.clr_rules.specs.GoodByPhase.{of_round}
pub use Rattle.clr_rules.specs.Holds.{hinders, is_near_hold, is_own}
unfoldable pub use Rattle.clr_rules.specs.Holds.{held_among, hindering_hold}
pub use Rattle.clr_rules.specs.Near.{Near, is_beside, near_part, part_beside}
pub use Rattle.clr_rules.specs.Prelude.{Action, AddPoint, AddSection, Block, Closed, Command, Control, Crew, Done, Edit, FenceRows, Granted, Grid, Ground, HeldOpen, Hold, HoldKind, Id, IsNetwork}
pub use Rattle.clr_rules.specs.Prelude.{Jumper, Kind, Opened, Ordered, Phase, PointRow, PointState, Position, PutHold, PutRecord, PutStep, Record, Refusal, Register, Released, Reply, Request}
pub use Rattle.clr_rules.specs.Prelude.{Requested, Restoring, SectionRow, SetHand, SetPosition, StaffRow, StepRow, StepState, Switch, Switching, Tag, TakeHold, Task, Tested, Waiting, actions_at}
pub use Rattle.clr_rules.specs.Prelude.{after_edit, all_done, fence_of, has_hold, has_in_hand, has_name, hold_cmp, hold_cmp_total, hold_key, hold_of, id_cmp, id_cmp_total, in_key_order, is_active}
pub use Rattle.clr_rules.specs.Prelude.{is_done, is_granted, is_point_kind, is_running, is_some_step, is_standing, is_waiting, list_all, list_any, name_cmp, point_names, points_of, position_of}
pub use Rattle.clr_rules.specs.Prelude.{present_steps, record_key, record_of, same_id, same_kind, same_name, section_names, state_key, state_of, step_at, step_key, step_key_cmp, step_key_cmp_total}
pub use Rattle.clr_rules.specs.Prelude.{task, tasks_of, touches, unplaced}
unfoldable pub use Rattle.clr_rules.specs.Prelude.{after_edits, first_of_each, greatest_number, has_any_hold, has_some_hold, holds_of, in_fence, places_of, reaches, row_of, steps_in, steps_of}
unfoldable pub use Rattle.clr_rules.specs.Prelude.{with_row, without_row}
pub use Rattle.clr_rules.specs.Records.{is_fenced, is_open, is_switch_order, numbers_of}
pub use Rattle.clr_rules.specs.Refusals.{order_refusal}
pub use Rattle.clr_rules.specs.Register.{first_state, opening, unplaced_net}
pub use Rattle.clr_rules.specs.Run.{IsReached, after}
unfoldable pub use Rattle.clr_rules.specs.Run.{after_all, replies}
pub use Rattle.clr_rules.specs.RunHeadline.{IsRun, with_reply}
unfoldable pub use Rattle.clr_rules.specs.Shown.{own_answers}
pub use Rattle.clr_rules.specs.States.{change_state, hand_in, is_hand}
pub use Rattle.clr_rules.specs.Steps.{is_close, is_in_turn, is_of_round, some_active}
pub use Rattle.clr_rules.specs.laws.Edits.{adds, adds_nothing, refusal_of}
pub use Rattle.clr_rules.specs.laws.Near.{is_order}
pub use Rattle.clr_rules.specs.laws.Own.{SameOwn}
pub use Rattle.clr_shelf.proofs.Groups.{filter-with_far, filter-with_inside}
pub use Rattle.clr_shelf.proofs.KeyOrder.{in_key_order-filter, in_key_order-first, in_key_order-rest, in_key_order-with_row}
pub use Rattle.clr_shelf.proofs.Keys.{equal, same_text}
pub use Rattle.clr_shelf.proofs.Lists.{Contains-cases, Contains-here, Contains-later, filter-filter_wider, list_all-contains, list_all-from_each}
pub use Rattle.clr_shelf.proofs.Members.{member-row_of, row_of-member}
pub use Rattle.clr_shelf.proofs.Reading.{row_of-with}
pub use Rattle.std.proofs.lemmas.Bool.{and_from, and_parts, both_ways, false_from_ne_true, false≢true, not-true, not_from_false, or_cases, or_left, or_right}
pub use Rattle.std.proofs.lemmas.Cmp.{nat_list_cmp_total, nat_list_eq_equiv, tied_itself}
pub use Rattle.std.proofs.lemmas.List.{drop_more, length-map, map-append, take_more}
pub use Rattle.std.proofs.lemmas.List.Elements.{All-contains, All-head, All-nil, All-tail, All-weaker}
pub use Rattle.std.proofs.lemmas.List.Sorted.{IsPermutation-map, IsPermutation-refl, IsPermutation-sym, IsPermutation-trans}
pub use Rattle.std.proofs.lemmas.Option.{none-some, same_Some}
pub use Rattle.std.specs.Cmp.{IsTotalOrder}
pub use Rattle.std.specs.Cmp.Lexicographic.{texts_ties}
pub use Rattle.std.specs.List.{AllByRecursion}
unfoldable pub use Rattle.std.specs.List.Sorted.{IsStrictlySortedBy}
pub use Rattle.std.specs.Ordering.{ordering_then}
