use Rattle.std.proofs.Common.{◌≡◌, ◌∙◌, Bor, ap, arith, flat_map, get_or, length, map, sym}
use Rattle.std.proofs.lemmas.List.{get_or-map, length-map, take_all}
use Rattle.std.proofs.lemmas.Result.{on_ok_weaker}
use Rattle.clr_rules.specs.declared.hold.Hold.{Hold}
use Rattle.clr_view.proofs.Tokens.{adds_as, adds_member, adds_next}
use Rattle.clr_view.specs.Tokens.{data_tokens}
use Rattle.clr_view.specs.View.{holder_data}
use Rattle.clr_view.proofs.values.push_holders.Goals as goal

pub loop-hold-preserved : goal.loop-hold-preserved
loop-hold-preserved c =
    let holds = c.args.holds.now in
    let rows = map (λ (h : Bor Hold). h.now) holds in
    let i = c.loop-hold.hold-index in
    let h = c.hold-item.result in
    let size : length rows ≡ length holds = length-map holds (λ (h : Bor Hold). h.now) in
    let here : h.now ≡ get_or rows i h.now =
    ap (λ (b : Bor Hold). b.now) c.hold-item.is ∙ sym (get_or-map (λ (b : Bor Hold). b.now) holds i h h.now c.loop-hold-test.true) in
    adds_next holder_data rows i h.now c.begin_list.new.out c.loop-hold.out c.push_holder.new.out
    (omega (arith, size, c.loop-hold-test.true)) here c.loop-hold.invariant c.in_ok-push_holder.ensures

pub returns : goal.returns
returns c =
    let holds = c.args.holds.now in
    let rows = map (λ (h : Bor Hold). h.now) holds in
    let size : length rows ≡ length holds = length-map holds (λ (h : Bor Hold). h.now) in
    let all = ap (flat_map (λ x. data_tokens (holder_data x))) (take_all c.loop-hold.hold-index rows (omega (arith, size, c.loop-hold-test.false))) in
    on_ok_weaker c.end_list.result
    (adds_member holder_data rows c.args.key.now c.args.out.now c.begin_list.new.out c.loop-hold.out c.end_list.new.out
    c.in_ok-begin_list.ensures (adds_as _ _ c.begin_list.new.out c.loop-hold.out all c.loop-hold.invariant)) c.end_list.ensures
