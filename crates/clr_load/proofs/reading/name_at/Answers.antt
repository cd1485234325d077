use Rattle.std.proofs.Common.{rules}
use Rattle.clr_net.specs.NameText.{read_name}
use Rattle.clr_load.specs.RowsRead.{name_if_read}
use Rattle.clr_load.proofs.TextsRead.{name_by_text, then_fails}
use Rattle.clr_load.proofs.reading.name_at.Goals as goal

pub returns-in_err-text : goal.returns-in_err-text
returns-in_err-text c =
    let read = then_fails (λ text. name_if_read c.args.table (read_name text)) c.args.table c.in_err-text.field-0.0 c.args.place c.args.row.now _
    (name_by_text c.args.table c.args.place c.args.row.now) c.in_err-text.ensures in
    search rules
