use Rattle.clr_store.proofs.Inside.{then_does}
use Rattle.clr_store.proofs.create.add_network.Goals as goal

pub returns : goal.returns
returns g c =
    then_does g.S.Store c.args.tx.now c.add_sections.new.tx c.add_points.new.tx _ _ _ c.add_points.result c.in_ok-add_sections.ensures c.add_points.ensures
