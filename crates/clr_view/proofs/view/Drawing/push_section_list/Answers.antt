use Rattle.std.proofs.Common.{flat_map, ap}
use Rattle.std.proofs.lemmas.List.{take_all}
use Rattle.std.proofs.lemmas.Result.{on_ok_weaker}
use Rattle.clr_view.proofs.Tokens.{adds_as, adds_member, adds_next}
use Rattle.clr_view.specs.Tokens.{data_tokens}
use Rattle.clr_view.specs.View.{section_data}
use Rattle.clr_view.proofs.view.Drawing.push_section_list.Goals as goal

pub loop-section-preserved : goal.loop-section-preserved
loop-section-preserved g c =
    adds_next (section_data c.args.self.now) c.args.sections.now c.loop-section.section-index c.section-item.result c.begin_list.new.out c.loop-section.out c.push_section.new.out
    c.loop-section-test.true c.section-item.is c.loop-section.invariant c.in_ok-push_section.ensures

pub returns : goal.returns
returns g c =
    let rows = c.args.sections.now in
    let all = ap (flat_map (λ x. data_tokens (section_data c.args.self.now x))) (take_all c.loop-section.section-index rows c.loop-section-test.false) in
    on_ok_weaker c.end_list.result
    (adds_member (section_data c.args.self.now) rows c.args.key.now c.args.out.now c.begin_list.new.out c.loop-section.out c.end_list.new.out
    c.in_ok-begin_list.ensures (adds_as _ _ c.begin_list.new.out c.loop-section.out all c.loop-section.invariant)) c.end_list.ensures
