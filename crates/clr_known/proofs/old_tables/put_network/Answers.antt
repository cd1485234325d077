use Rattle.clr_known.proofs.OldTables.{then_by}
use Rattle.clr_known.proofs.old_tables.put_network.Goals as goal

pub returns : goal.returns
returns g c =
    let to_2 = then_by g.S.Store c.args.tx.now c.put_sections.new.tx c.put_points.new.tx _ _ _ _ c.in_ok-put_sections.ensures c.in_ok-put_points.ensures in
    then_by g.S.Store c.args.tx.now c.put_points.new.tx c.put_staff.new.tx _ _ _ c.put_staff.result to_2 c.put_staff.ensures
