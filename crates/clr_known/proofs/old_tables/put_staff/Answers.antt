use Rattle.clr_known.proofs.OldTables.{then_by}
use Rattle.clr_known.proofs.old_tables.put_staff.Goals as goal

pub returns : goal.returns
returns g c =
    let to_2 = then_by g.S.Store c.args.tx.now c.put_employee.new.tx c.put_employee-2.new.tx _ _ _ _ c.in_ok-put_employee.ensures c.in_ok-put_employee-2.ensures in
    let to_3 = then_by g.S.Store c.args.tx.now c.put_employee-2.new.tx c.put_jones.new.tx _ _ _ _ to_2 c.in_ok-put_jones.ensures in
    let to_4 = then_by g.S.Store c.args.tx.now c.put_jones.new.tx c.put_employee-3.new.tx _ _ _ _ to_3 c.in_ok-put_employee-3.ensures in
    let to_5 = then_by g.S.Store c.args.tx.now c.put_employee-3.new.tx c.put_employee-4.new.tx _ _ _ _ to_4 c.in_ok-put_employee-4.ensures in
    then_by g.S.Store c.args.tx.now c.put_employee-4.new.tx c.put_employee-5.new.tx _ _ _ c.put_employee-5.result to_5 c.put_employee-5.ensures
