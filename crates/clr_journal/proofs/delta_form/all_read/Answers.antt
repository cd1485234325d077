use Rattle.std.proofs.Common.{◌∙◌, sym}
use Rattle.clr_text.proofs.ListsRead.{read_more}
use Rattle.clr_journal.proofs.delta_form.all_read.Goals as goal

pub loop-item-preserved : goal.loop-item-preserved
loop-item-preserved g c =
    let i = c.loop-item.item-index in
    rw c.in_ok-push.ensures.items
    (read_more g.F.Form.reading c.loop-item.rows.items c.args.list.now i c.item-item.result
    c.in-Some.row _ c.item-item.is c.loop-item-test.true (sym c.read.ensures ∙ c.in-Some.is)
    c.loop-item.invariant)
