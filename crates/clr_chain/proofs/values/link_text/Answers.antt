use Rattle.std.proofs.Common.{◌≡◌, ◌∙◌, false, ap}
use Rattle.std.proofs.lemmas.Result.{IfOk-weaker}
use Rattle.serde_json.specs.View.{view}
use Rattle.serde_json.specs.Written.{compact_text, has_float}
use Rattle.clr_journal.specs.Line.{entry_of}
use Rattle.clr_chain.specs.Link.{link_data, link_text, with_sum}
use Rattle.clr_chain.proofs.NoFloats.{link_has_none}
use Rattle.clr_chain.proofs.values.link_text.Goals as goal

pub returns : goal.returns
unfolding link_text
returns c =
    let e : view c.in_ok-value.value ≡ link_data (entry_of c.args.line.now) c.args.sum.now = c.in_ok-value.ensures ∙ ap (with_sum c.args.sum.now) c.in_ok-line.ensures in
    let none : has_float (view c.in_ok-value.value) ≡ false = ap has_float e ∙ link_has_none (entry_of c.args.line.now) c.args.sum.now c.requires in
    IfOk-weaker c.to_vec.result _ _ (λ text h. h none ∙ ap compact_text e) c.to_vec.ensures.text
