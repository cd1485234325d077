use Rattle.clr_known.proofs.OldTables.{then_by}
use Rattle.clr_known.proofs.old_tables.put_order.Goals as goal

pub returns : goal.returns
returns g c =
    let to_2 = then_by g.S.Store c.args.tx.now c.put_clearances.new.tx c.put_steps.new.tx _ _ _ _ c.in_ok-put_clearances.ensures c.in_ok-put_steps.ensures in
    then_by g.S.Store c.args.tx.now c.put_steps.new.tx c.put_holds.new.tx _ _ _ c.put_holds.result to_2 c.put_holds.ensures
