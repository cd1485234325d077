use Rattle.std.proofs.Common.{◌∙◌, ap, find, option_copied}
use Rattle.clr_net.specs.Prelude.{same_name}
use Rattle.clr_order.proofs.Finds.{find_behind}
use Rattle.clr_order.proofs.Steps.{names_behind}
use Rattle.clr_order.proofs.isolating.touching_row.Goals as goal
use Rattle.clr_net.specs.declared.point.PointRow.{PointRow}

pub row_of-requires : goal.row_of-requires
row_of-requires c =
    rw (names_behind c.touching.result.now, c.touching.ensures.rows) c.touching.ensures.order

pub returns : goal.returns
returns c =
    let named = λ (row : PointRow). same_name c.args.point row.name in
    ap option_copied (c.copied.ensures ∙ c.row_of.ensures) ∙ find_behind named c.touching.result.now ∙ ap (find named) c.touching.ensures.rows
