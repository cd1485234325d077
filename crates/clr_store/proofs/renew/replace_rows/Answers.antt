use Rattle.clr_store.proofs.Inside.{then_does}
use Rattle.clr_store.proofs.renew.replace_rows.Goals as goal

pub returns : goal.returns
returns g c =
    let two = then_does g.S.Store c.args.tx.now c.replace_sections.new.tx c.replace_points.new.tx _ _ _ _ c.in_ok-replace_sections.ensures c.in_ok-replace_points.ensures in
    then_does g.S.Store c.args.tx.now c.replace_points.new.tx c.replace_staff.new.tx _ _ _ c.replace_staff.result two c.replace_staff.ensures
