use Rattle.std.proofs.Common.{◌≡◌, drop}
use Rattle.serde_json.specs.View.{items_view}
use Rattle.clr_text.specs.Values.{all_read}
use Rattle.clr_text.proofs.ListsRead.{after}
use Rattle.clr_journal.proofs.delta_form.all_read.Given as goal

abbrev pub invariant-loop-item : goal.invariant-loop-item
invariant-loop-item g l = after l.rows.items (all_read g.F.Form.reading (items_view (drop l.item-index l.list))) ≡ all_read g.F.Form.reading (items_view l.list)
