use Rattle.clr_store.proofs.Placing.{then_each}
use Rattle.clr_store.proofs.edits.make_all.Goals as goal

pub returns-in_ok-set_free-in-Some : goal.returns-in_ok-set_free-in-Some
returns-in_ok-set_free-in-Some g c =
    then_each g.S.Store c.args.tx.now c.set_free.new.tx c.make_each.new.tx c.args.edits.now _ _ _ _ c.make_each.result c.in-Some.ensures
    c.in_ok-set_free-in-Some.ensures c.make_each.ensures
