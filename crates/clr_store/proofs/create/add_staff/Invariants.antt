use Rattle.std.proofs.Common.{Ok, map, take}
use Rattle.clr_load.specs.declared.table_name.TableName.TheVariants.{Staff}
use Rattle.clr_load.specs.Tables.{staff_row}
use Rattle.clr_store.specs.Change.{Does, added, with_rows}
use Rattle.clr_store.proofs.create.add_staff.Given as goal

abbrev pub invariant-loop-employee : goal.invariant-loop-employee
invariant-loop-employee g l =
    Does {X = Unit {0}} g.S.Store l.fn.tx l.tx (with_rows Staff (added (take l.employee-index (map staff_row l.staff)))) (Ok tt)
