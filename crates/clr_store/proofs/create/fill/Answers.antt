use Rattle.clr_store.proofs.Inside.{then_does}
use Rattle.clr_store.proofs.create.fill.Goals as goal

pub returns : goal.returns
returns g c =
    let filled = then_does g.S.Store c.args.tx.now c.add_version.new.tx c.add_network.new.tx _ _ _ _ c.in_ok-add_version.ensures c.in_ok-add_network.ensures in
    then_does g.S.Store c.args.tx.now c.add_network.new.tx c.add_staff.new.tx _ _ _ c.add_staff.result filled c.add_staff.ensures
