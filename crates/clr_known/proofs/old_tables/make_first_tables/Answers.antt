use Rattle.clr_store.proofs.Creating.{then_reaches}
use Rattle.clr_known.proofs.old_tables.make_first_tables.Goals as goal

pub returns : goal.returns
returns g c =
    let to_2 = then_reaches g.S.Store c.args.tx.now c.make_table.new.tx c.make_table-2.new.tx _ _ _ _ _ c.in_ok-make_table.ensures c.in_ok-make_table-2.ensures in
    then_reaches g.S.Store c.args.tx.now c.make_table-2.new.tx c.make_table-3.new.tx _ _ _ _ c.make_table-3.result to_2 c.make_table-3.ensures
