use Rattle.std.proofs.Common.{Ok, map, take}
use Rattle.clr_load.specs.declared.table_name.TableName.TheVariants.{NetworkPoint}
use Rattle.clr_rules.specs.Register.{first_state}
use Rattle.clr_load.specs.Tables.{jumper_row}
use Rattle.clr_store.specs.Change.{Does, added, with_rows}
use Rattle.clr_store.proofs.create.add_points.Given as goal

abbrev pub invariant-loop-point : goal.invariant-loop-point
invariant-loop-point g l =
    Does {X = Unit {0}} g.S.Store l.fn.tx l.tx (with_rows NetworkPoint (added (take l.point-index (map (λ p. jumper_row p (first_state p)) l.points)))) (Ok tt)
