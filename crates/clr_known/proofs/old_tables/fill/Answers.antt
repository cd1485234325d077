use Rattle.clr_known.proofs.OldTables.{then_by}
use Rattle.clr_known.proofs.old_tables.fill.Goals as goal

pub returns : goal.returns
returns g c =
    let to_2 = then_by g.S.Store c.args.tx.now c.put_version.new.tx c.put_network.new.tx _ _ _ _ c.in_ok-put_version.ensures c.in_ok-put_network.ensures in
    then_by g.S.Store c.args.tx.now c.put_network.new.tx c.put_order.new.tx _ _ _ c.put_order.result to_2 c.put_order.ensures
