use Rattle.std.proofs.Common.{◌∙◌, ap, sym}
use Rattle.clr_rules.specs.Id.{id_cmp}
use Rattle.clr_rules.specs.Records.{record_key}
use Rattle.clr_shelf.specs.Rows.{with_row, without_row}
use Rattle.clr_book.proofs.OpenRecords.{closed_put, open_put}
use Rattle.clr_book.proofs.book.unclosed.put_if_open.Goals as goal

pub returns-then-is_open-clause-rows : goal.returns-then-is_open-clause-rows
returns-then-is_open-clause-rows g c records ordered unclosed =
    c.put.ensures.rows ∙ ap (with_row id_cmp record_key c.args.row.now) unclosed ∙ open_put c.args.row.now records (sym c.is_open.ensures ∙ c.if-is_open.true)

pub returns-else-is_open-clause-rows : goal.returns-else-is_open-clause-rows
returns-else-is_open-clause-rows g c records ordered unclosed =
    c.take-taken.ensures.rows ∙ ap (without_row id_cmp record_key c.args.row.now.id) unclosed
    ∙ closed_put c.args.row.now records ordered (sym c.is_open.ensures ∙ c.if-is_open.false)
