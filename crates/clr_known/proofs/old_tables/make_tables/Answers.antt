use Rattle.clr_store.proofs.Creating.{then_reaches}
use Rattle.clr_known.proofs.old_tables.make_tables.Goals as goal

pub returns : goal.returns
returns g c =
    let to_2 = then_reaches g.S.Store c.args.tx.now c.make_first_tables.new.tx c.make_next_tables.new.tx _ _ _ _ _ c.in_ok-make_first_tables.ensures c.in_ok-make_next_tables.ensures in
    then_reaches g.S.Store c.args.tx.now c.make_next_tables.new.tx c.make_table.new.tx _ _ _ _ c.make_table.result to_2 c.make_table.ensures
