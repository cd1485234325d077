use Rattle.clr_known.proofs.OldTables.{then_by}
use Rattle.clr_known.proofs.old_tables.put_steps.Goals as goal

pub returns : goal.returns
returns g c =
    let to_2 = then_by g.S.Store c.args.tx.now c.put_done.new.tx c.put_waiting.new.tx _ _ _ _ c.in_ok-put_done.ensures c.in_ok-put_waiting.ensures in
    let to_3 = then_by g.S.Store c.args.tx.now c.put_waiting.new.tx c.put_waiting-2.new.tx _ _ _ _ to_2 c.in_ok-put_waiting-2.ensures in
    let to_4 = then_by g.S.Store c.args.tx.now c.put_waiting-2.new.tx c.put_waiting-3.new.tx _ _ _ _ to_3 c.in_ok-put_waiting-3.ensures in
    let to_5 = then_by g.S.Store c.args.tx.now c.put_waiting-3.new.tx c.put_waiting-4.new.tx _ _ _ _ to_4 c.in_ok-put_waiting-4.ensures in
    then_by g.S.Store c.args.tx.now c.put_waiting-4.new.tx c.put_waiting-5.new.tx _ _ _ c.put_waiting-5.result to_5 c.put_waiting-5.ensures
