use Rattle.std.proofs.Common.{Ok, take}
use Rattle.clr_load.specs.declared.table_name.TableName.TheVariants.{NetworkPoint}
use Rattle.clr_store.specs.Change.{Does, added, with_rows}
use Rattle.clr_store.specs.Renewed.{rows_in_state}
use Rattle.clr_store.proofs.renew.add_points.Given as goal

abbrev pub invariant-loop-place : goal.invariant-loop-place
invariant-loop-place g l =
    Does {X = Unit {0}} g.S.Store l.fn.tx l.tx (with_rows NetworkPoint (added (take l.place (rows_in_state l.states l.points)))) (Ok tt)
