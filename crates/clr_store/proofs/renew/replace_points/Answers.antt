use Rattle.clr_store.proofs.Inside.{then_does}
use Rattle.clr_store.proofs.renew.replace_points.Goals as goal

pub returns : goal.returns
returns g c =
    then_does g.S.Store c.args.tx.now c.clear_table.new.tx c.add_points.new.tx _ _ _ c.add_points.result c.in_ok-clear_table.ensures c.add_points.ensures
