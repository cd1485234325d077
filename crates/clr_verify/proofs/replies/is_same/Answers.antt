use Rattle.std.proofs.Common.{◌≡◌, ◌∙◌}
use Rattle.serde_json.specs.View.{view}
use Rattle.clr_net.specs.Name.{same_name}
use Rattle.clr_verify.proofs.Replied.{by_texts}
use Rattle.clr_verify.proofs.replies.is_same.Goals as goal

pub returns : goal.returns
returns c = λ whole flat.
    let same : c.eq.result ≡ same_name c.in_ok-text.text.items c.in_ok-written.written.items =
    c.eq.ensures ∙ (λ i. same_name (c.as_slice.ensures.value i) (c.as_slice-2.ensures.value i)) in
    by_texts (view c.args.due.now) (view c.args.own.now) c.in_ok-text.text.items c.in_ok-written.written.items c.eq.result whole same
    c.in_ok-text.ensures.text c.in_ok-text.ensures.reads_back (c.in_ok-written.ensures.text whole) (c.in_ok-written.ensures.reads_back flat)
