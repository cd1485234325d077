use Rattle.sqlite.specs.Values.{bound}
use Rattle.clr_store.proofs.Setting.{then_inserts, were_set}
use Rattle.clr_store.proofs.place.put_one.Goals as goal

pub returns-in-0 : goal.returns-in-0
returns-in-0 g c =
    then_inserts g.S.Store c.args.tx.now c.set_rows.new.tx c.insert_place.new.tx (bound c.args.row.now) c.in_ok-set_rows.field-0 c.insert_place.result c.in-0.is c.in_ok-set_rows.ensures c.insert_place.ensures

pub returns-in-1 : goal.returns-in-1
returns-in-1 g c = were_set g.S.Store c.args.tx.now c.set_rows.new.tx (bound c.args.row.now) c.in_ok-set_rows.field-0 1 _ c.in-1.is c.in_ok-set_rows.ensures
