use Rattle.std.proofs.Common.{◌≡◌, take, map}
use Rattle.serde_json.specs.View.{view}
use Rattle.clr_commands.specs.ArchiveText.{step_row_data}
use Rattle.clr_commands.proofs.archive_text.steps_value.Given as goal

abbrev pub invariant-loop-row : goal.invariant-loop-row
invariant-loop-row l = map view l.list.items ≡ map (λ row. step_row_data row.now) (take l.row-index l.steps)
