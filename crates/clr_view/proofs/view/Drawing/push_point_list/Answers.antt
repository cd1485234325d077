use Rattle.std.proofs.Common.{flat_map, ap}
use Rattle.std.proofs.lemmas.List.{take_all}
use Rattle.std.proofs.lemmas.Result.{on_ok_weaker}
use Rattle.clr_view.proofs.Tokens.{adds_as, adds_member, adds_next}
use Rattle.clr_view.specs.Tokens.{data_tokens}
use Rattle.clr_view.specs.View.{point_data}
use Rattle.clr_view.proofs.view.Drawing.push_point_list.Goals as goal

pub loop-point-preserved : goal.loop-point-preserved
loop-point-preserved g c =
    adds_next (point_data c.args.self.now) c.args.points.now c.loop-point.point-index c.point-item.result c.begin_list.new.out c.loop-point.out c.push_point.new.out
    c.loop-point-test.true c.point-item.is c.loop-point.invariant c.in_ok-push_point.ensures

pub returns : goal.returns
returns g c =
    let rows = c.args.points.now in
    let all = ap (flat_map (λ x. data_tokens (point_data c.args.self.now x))) (take_all c.loop-point.point-index rows c.loop-point-test.false) in
    on_ok_weaker c.end_list.result
    (adds_member (point_data c.args.self.now) rows c.args.key.now c.args.out.now c.begin_list.new.out c.loop-point.out c.end_list.new.out
    c.in_ok-begin_list.ensures (adds_as _ _ c.begin_list.new.out c.loop-point.out all c.loop-point.invariant)) c.end_list.ensures
