use Rattle.std.proofs.Common.{arith, refl}
use Rattle.clr_load.specs.declared.table_name.TableName.TheVariants.{NetworkPoint}
use Rattle.clr_rules.specs.Register.{first_state}
use Rattle.clr_load.specs.Tables.{jumper_row}
use Rattle.clr_store.proofs.Creating.{adds_all, adds_more, adds_none}
use Rattle.clr_store.proofs.create.add_points.Goals as goal

pub loop-point-init : goal.loop-point-init
loop-point-init g c = adds_none g.S.Store c.args.tx.now NetworkPoint

pub loop-point-preserved : goal.loop-point-preserved
loop-point-preserved g c =
    adds_more g.S.Store c.args.tx.now c.loop-point.tx c.add_point.new.tx NetworkPoint (λ p. jumper_row p (first_state p)) c.args.points.now c.loop-point.point-index c.point-item.result _ refl c.loop-point-test.true c.point-item.is
    c.loop-point.invariant c.in_ok-add_point.ensures

pub returns : goal.returns
returns g c = adds_all g.S.Store c.args.tx.now c.loop-point.tx NetworkPoint (λ p. jumper_row p (first_state p)) c.args.points.now c.loop-point.point-index (omega arith) c.loop-point.invariant
