use Rattle.std.proofs.Common.{option_copied, option_map}
use Rattle.clr_load.specs.Tables.{place_row}
use Rattle.clr_store.specs.StepsTaken.{without_steps}
use Rattle.clr_store.proofs.Turned.{then_with}
use Rattle.clr_store.proofs.steps.take_all.Goals as goal

pub returns : goal.returns
returns g c =
    then_with g.S.Store c.args.tx.now c.take_each.new.tx c.set_if_given.new.tx (without_steps c.args.keys.now) (option_map place_row (option_copied c.args.place)) _ c.set_if_given.result
    c.in_ok-take_each.ensures c.set_if_given.ensures
