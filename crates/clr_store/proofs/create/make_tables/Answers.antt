use Rattle.clr_store.proofs.Creating.{then_reaches}
use Rattle.clr_store.proofs.create.make_tables.Goals as goal

pub returns : goal.returns
returns g c =
    let six = then_reaches g.S.Store c.args.tx.now c.make_first_tables.new.tx c.make_next_tables.new.tx _ _ _ _ _ c.in_ok-make_first_tables.ensures c.in_ok-make_next_tables.ensures in
    then_reaches g.S.Store c.args.tx.now c.make_next_tables.new.tx c.make_table.new.tx _ _ _ _ c.make_table.result six c.make_table.ensures
