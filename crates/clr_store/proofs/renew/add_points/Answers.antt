use Rattle.std.proofs.Common.{Ok, ◌∷◌, arith, refl, subst, sym}
use Rattle.clr_net.specs.Grid.{unplaced}
use Rattle.clr_net.specs.declared.point.PointRow.{PointRow}
use Rattle.clr_rules.specs.declared.point_state.PointState.{PointState}
use Rattle.clr_load.specs.declared.table_name.TableName.TheVariants.{NetworkPoint}
use Rattle.clr_load.specs.Tables.{jumper_row, state_at}
use Rattle.clr_store.proofs.Creating.{adds_all, adds_more, adds_none}
use Rattle.clr_store.proofs.Renewing.{state_there}
use Rattle.clr_store.specs.Change.{Does, with_rows}
use Rattle.clr_store.proofs.renew.add_points.Goals as goal

pub loop-place-init : goal.loop-place-init
loop-place-init g c = adds_none g.S.Store c.args.tx.now NetworkPoint

pub loop-place-preserved : goal.loop-place-preserved
loop-place-preserved g c =
    let points = c.args.points.now in
    let states = c.args.states.now in
    let row = λ (p : PointRow). jumper_row p (state_at states (unplaced p)) in
    let p = c.index-points-place.result in
    let s = c.index-states-place.result in
    let is = state_there points states c.requires.states c.requires.ordered c.loop-place.place p s (omega arith) c.index-points-place.is c.index-states-place.is in
    adds_more g.S.Store c.args.tx.now c.loop-place.tx c.add_point.new.tx NetworkPoint row points c.loop-place.place p _ refl (omega arith) c.index-points-place.is c.loop-place.invariant
    (subst (λ (it : PointState). Does {X = Unit {0}} g.S.Store c.loop-place.tx c.add_point.new.tx (with_rows NetworkPoint (λ rows. jumper_row p it ∷ rows)) (Ok _)) (sym is) c.in_ok-add_point.ensures)

pub returns : goal.returns
returns g c = adds_all g.S.Store c.args.tx.now c.loop-place.tx NetworkPoint (λ p. jumper_row p (state_at c.args.states.now (unplaced p))) c.args.points.now c.loop-place.place (omega arith) c.loop-place.invariant
