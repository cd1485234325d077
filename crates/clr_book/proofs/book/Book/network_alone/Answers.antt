use Rattle.std.proofs.Common.{◌∙◌, ap, map, refl, Bor, []}
use Rattle.std.specs.Option.{option_map}
use Rattle.clr_net.specs.Grid.{unplaced}
use Rattle.clr_net.specs.declared.point.PointRow.{PointRow}
use Rattle.clr_rules.specs.Fences.{crossed_by, crossed_record}
use Rattle.clr_rules.specs.Near.{network_part}
use Rattle.clr_rules.specs.declared.record.Record.{Record}
use Rattle.clr_rules.specs.declared.hold.Hold.{Hold}
use Rattle.clr_rules.specs.declared.point_state.PointState.{PointState}
use Rattle.clr_rules.specs.declared.step_row.StepRow.{StepRow}
use Rattle.clr_book.specs.Book.{Shelved}
use Rattle.clr_book.proofs.FenceNames.{none_rise}
use Rattle.clr_book.proofs.NearFacts.{lent_whole}
use Rattle.clr_book.proofs.OpenRecords.{crossed_among_open}
use Rattle.clr_answer.proofs.OrderPositions.{unplaced_shown}
use Rattle.clr_book.proofs.book.Book.network_alone.Goals as goal

pub returns : goal.returns
returns g c =
    let R = c.args.self.now.register in
    lent_whole _ (record { greatest = _; fence = []; crossed = crossed_by R c.args.from c.args.to }) (record (network_part R) { records = []; steps = [] })
    c.greatest_for.ensures.value
    c.new.ensures.items
    (c.in_ok-crossed.ensures ∙ ap (λ rows. option_map (λ (r : Record). r.id) (crossed_record R.net R.steps rows c.args.from c.args.to))
    (ap (map (λ (row : Bor Record). row.now)) c.deref.ensures.value ∙ c.in_ok-open_records.ensures)
    ∙ ap (option_map (λ (r : Record). r.id)) (crossed_among_open R.net R.steps R.records c.args.from c.args.to))
    (c.in_ok-sections.ensures ∙ c.sections.ensures.rows ∙ ap (λ (v : Shelved). v.register.net.sections) c.self.view_is)
    (unplaced_shown (λ (row : Bor PointRow). row.now) c.in_ok-points.points.items
    ∙ ap (map unplaced) (c.in_ok-points.ensures ∙ c.points.ensures.rows)
    ∙ ap (λ (v : Shelved). v.register.net.points) c.self.view_is)
    (ap (λ (v : Shelved). v.register.staff) c.self.view_is)
    (ap (map (λ (row : Bor PointState). row.now)) c.new-2.ensures.items)
    (ap (map (λ (row : Bor Record). row.now)) c.new-3.ensures.items)
    (ap (map (λ (row : Bor StepRow). row.now)) c.new-4.ensures.items)
    (ap (map (λ (row : Bor Hold). row.now)) c.new-5.ensures.items)

pub invariant_of-result : goal.invariant_of-result
invariant_of-result g c = (
  c.greatest_for.ensures.range,
  rw (c.in_ok-sections.ensures, c.sections.ensures.rows) c.sections.ensures.network.sections_rise,
  rw (c.in_ok-points.ensures, c.points.ensures.rows) c.points.ensures.network.points_rise,
  rw c.new.ensures.items none_rise,
  rw c.new-2.ensures.items refl,
  rw c.new-3.ensures.items refl,
  rw c.new-5.ensures.items refl,
)
