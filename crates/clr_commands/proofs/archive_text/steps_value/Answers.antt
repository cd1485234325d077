use Rattle.std.proofs.Common.{◌≡◌, ◌∙◌, Bor, List, ap, map, sym, take_all}
use Rattle.clr_net.proofs.ListFacts.{map-map}
use Rattle.clr_rules.specs.declared.step_row.StepRow.{StepRow}
use Rattle.serde_json.proofs.Views.{view-Array}
use Rattle.serde_json.specs.Data.{Data, array}
use Rattle.serde_json.specs.View.{items_of, view}
use Rattle.clr_commands.specs.ArchiveText.{step_row_data}
use Rattle.clr_commands.proofs.archive_text.steps_value.Goals as goal

-- the values of all rows
pub returns : goal.returns
returns c =
    let shows = λ (row : Bor StepRow). row.now in
    let shown : map view c.loop-row.list.items ≡ map (λ (row : Bor StepRow). step_row_data row.now) c.args.steps.now =
    c.loop-row.invariant ∙ ap (map (λ (row : Bor StepRow). step_row_data row.now)) (take_all c.loop-row.row-index c.args.steps.now c.loop-row-test.false) in
    view-Array c.loop-row.list ∙ ap (λ (rows : List Data). array (items_of rows)) (shown ∙ sym (map-map step_row_data shows c.args.steps.now))
