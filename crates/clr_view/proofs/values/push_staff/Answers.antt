use Rattle.std.proofs.Common.{flat_map, ap}
use Rattle.std.proofs.lemmas.List.{take_all}
use Rattle.std.proofs.lemmas.Result.{on_ok_weaker}
use Rattle.clr_view.proofs.Tokens.{adds_as, adds_member, adds_next}
use Rattle.clr_view.specs.Tokens.{data_tokens}
use Rattle.clr_view.specs.View.{employee_data}
use Rattle.clr_view.proofs.values.push_staff.Goals as goal

pub loop-row-preserved : goal.loop-row-preserved
loop-row-preserved c =
    adds_next employee_data c.args.staff.now c.loop-row.row-index c.row-item.result c.begin_list.new.out c.loop-row.out c.push_employee.new.out
    c.loop-row-test.true c.row-item.is c.loop-row.invariant c.in_ok-push_employee.ensures

pub returns : goal.returns
returns c =
    let rows = c.args.staff.now in
    let all = ap (flat_map (λ x. data_tokens (employee_data x))) (take_all c.loop-row.row-index rows c.loop-row-test.false) in
    on_ok_weaker c.end_list.result
    (adds_member employee_data rows c.args.key.now c.args.out.now c.begin_list.new.out c.loop-row.out c.end_list.new.out
    c.in_ok-begin_list.ensures (adds_as _ _ c.begin_list.new.out c.loop-row.out all c.loop-row.invariant)) c.end_list.ensures
