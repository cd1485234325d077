use Rattle.std.proofs.Common.{option_copied, option_map}
use Rattle.clr_load.specs.TableEdits.{tables_edited}
use Rattle.clr_load.specs.Tables.{place_row}
use Rattle.clr_store.proofs.Turned.{then_with}
use Rattle.clr_store.proofs.edits.make_with.Goals as goal

pub returns : goal.returns
returns g c =
    then_with g.S.Store c.args.tx.now c.make_all.new.tx c.set_if_given.new.tx (tables_edited c.args.edits.now) (option_map place_row (option_copied c.args.place)) _ c.set_if_given.result
    c.in_ok-make_all.ensures c.set_if_given.ensures
