use Rattle.std.proofs.Common.{◌∙◌, ◌<◌, Bor, ap, length, map}
use Rattle.std.proofs.lemmas.List.{length-map}
use Rattle.clr_shelf.specs.Rows.{with_row}
use Rattle.clr_book.proofs.PutLast.{get_or-mapped, put_last}
use Rattle.clr_book.proofs.book.rows.filled.Goals as goal

pub loop-row-preserved : goal.loop-row-preserved
loop-row-preserved g c =
    let shows = λ (row : Bor g.row.R.Denot). row.now in
    let rows = map shows c.args.rows.now in
    let row = c.row-item.result.now in
    let within : c.loop-row.row-index < length rows = rw length-map c.loop-row-test.true in
    c.put.ensures.rows
    ∙ ap (with_row g.R.Row.key_cmp g.R.Row.key_of row) (c.reserve.ensures.rows ∙ c.loop-row.invariant)
    ∙ put_last g.R.Row.key_cmp g.R.Row.key_of g.met.R.Row.key_order rows c.loop-row.row-index row c.requires within
    (get_or-mapped shows c.args.rows.now c.loop-row.row-index c.row-item.result c.loop-row-test.true c.row-item.is)
