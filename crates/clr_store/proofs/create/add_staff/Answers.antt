use Rattle.std.proofs.Common.{arith, refl}
use Rattle.clr_load.specs.declared.table_name.TableName.TheVariants.{Staff}
use Rattle.clr_load.specs.Tables.{staff_row}
use Rattle.clr_store.proofs.Creating.{adds_all, adds_more, adds_none}
use Rattle.clr_store.proofs.create.add_staff.Goals as goal

pub loop-employee-init : goal.loop-employee-init
loop-employee-init g c = adds_none g.S.Store c.args.tx.now Staff

pub loop-employee-preserved : goal.loop-employee-preserved
loop-employee-preserved g c =
    adds_more g.S.Store c.args.tx.now c.loop-employee.tx c.add_employee.new.tx Staff staff_row c.args.staff.now c.loop-employee.employee-index c.employee-item.result _ refl c.loop-employee-test.true c.employee-item.is
    c.loop-employee.invariant c.in_ok-add_employee.ensures

pub returns : goal.returns
returns g c = adds_all g.S.Store c.args.tx.now c.loop-employee.tx Staff staff_row c.args.staff.now c.loop-employee.employee-index (omega arith) c.loop-employee.invariant
