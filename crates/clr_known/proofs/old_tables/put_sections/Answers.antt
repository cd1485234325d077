use Rattle.clr_known.proofs.OldTables.{then_by}
use Rattle.clr_known.proofs.old_tables.put_sections.Goals as goal

pub returns : goal.returns
returns g c =
    let to_2 = then_by g.S.Store c.args.tx.now c.put_section.new.tx c.put_section-2.new.tx _ _ _ _ c.in_ok-put_section.ensures c.in_ok-put_section-2.ensures in
    let to_3 = then_by g.S.Store c.args.tx.now c.put_section-2.new.tx c.put_section-3.new.tx _ _ _ _ to_2 c.in_ok-put_section-3.ensures in
    let to_4 = then_by g.S.Store c.args.tx.now c.put_section-3.new.tx c.put_section-4.new.tx _ _ _ _ to_3 c.in_ok-put_section-4.ensures in
    then_by g.S.Store c.args.tx.now c.put_section-4.new.tx c.put_section-5.new.tx _ _ _ c.put_section-5.result to_4 c.put_section-5.ensures
