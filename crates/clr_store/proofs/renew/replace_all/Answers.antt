use Rattle.std.proofs.Common.{option_copied, option_map}
use Rattle.clr_load.specs.Tables.{place_row}
use Rattle.clr_store.specs.Renewed.{rows_renewed}
use Rattle.clr_store.proofs.Turned.{then_with}
use Rattle.clr_store.proofs.renew.replace_all.Goals as goal

pub returns : goal.returns
returns g c =
    then_with g.S.Store c.args.tx.now c.replace_rows.new.tx c.set_if_given.new.tx (rows_renewed c.args.sections.now c.args.points.now c.args.states.now c.args.staff.now)
    (option_map place_row (option_copied c.args.place)) _ c.set_if_given.result c.in_ok-replace_rows.ensures c.set_if_given.ensures
