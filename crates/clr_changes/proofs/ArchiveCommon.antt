-- The names that most proofs here take, passed on from one place.
pub use Rattle.clr_rules.specs.Answer.{Answer, answer}
pub use Rattle.clr_rules.specs.Command.{named_clearance}
pub use Rattle.clr_rules.specs.Good.{IsGood}
pub use Rattle.clr_rules.specs.Prelude.{Id, Register, id_cmp, id_cmp_total, is_some_step, record_key, record_of, same_id}
unfoldable pub use Rattle.clr_rules.specs.Prelude.{steps_of}
pub use Rattle.clr_rules.specs.Records.{is_closed, is_fenced, is_open}
pub use Rattle.clr_rules.specs.Run.{after}
pub use Rattle.clr_rules.specs.Staffed.{IsStaffed}
pub use Rattle.clr_rules.specs.laws.ClosedSteps.{AreClosed, AreOneBut, NamesNoneOf, without_steps_of}
pub use Rattle.clr_rules.proofs.lists.Filters.{kept_there}
pub use Rattle.clr_rules.proofs.lists.NamedRows.{Contains-filter}
pub use Rattle.clr_rules.proofs.lists.RoundSteps.{no_step_of, one_id, record_id}
pub use Rattle.clr_shelf.proofs.Lists.{filter-filter_wider}
pub use Rattle.clr_shelf.proofs.Members.{member-row_of, row_of-member}
pub use Rattle.std.proofs.lemmas.Bool.{and_from, and_parts, both_ways, false≢true, false_from_ne_true, not-true, or_cases, or_left, or_right}
pub use Rattle.std.proofs.lemmas.List.Elements.{All-weaker, filter_passes}
pub use Rattle.std.proofs.lemmas.Option.{same_Some}
pub use Rattle.clr_changes.specs.Archive.{archived, gives_up, is_past, is_past_record, is_printed, printed_records}
pub use Rattle.clr_rules.specs.declared.command.Command.{Command}
pub use Rattle.clr_rules.specs.declared.command.Kind.{Kind}
pub use Rattle.clr_rules.specs.declared.phase.Phase.{Phase}
pub use Rattle.clr_rules.specs.declared.phase.Phase.TheVariants.{Closed}
pub use Rattle.clr_rules.specs.declared.record.Record.{Record}
pub use Rattle.clr_rules.specs.declared.step_row.StepRow.{StepRow}
