use Rattle.std.proofs.Common.{◌≡◌, take, map}
use Rattle.serde_json.specs.View.{view}
use Rattle.clr_journal.proofs.delta_form.list_value.Given as goal

abbrev pub invariant-loop-row : goal.invariant-loop-row
invariant-loop-row g l = map view l.list.items ≡ map g.F.Form.seen (take l.row-index l.rows)
