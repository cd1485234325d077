use Rattle.std.proofs.Common.{◌≡◌, ◌∙◌, false, ap}
use Rattle.std.proofs.lemmas.Result.{IfOk-weaker}
use Rattle.serde_json.specs.Written.{compact_text, has_float}
use Rattle.serde_json.specs.View.{view}
use Rattle.clr_rules.specs.declared.reply.Reply.TheVariants.{Shown}
use Rattle.clr_text.proofs.NoFloats.{in_reply}
use Rattle.clr_text.proofs.reply_texts.shown_text.Goals as goal

pub returns : goal.returns
returns c =
    let e = c.in_ok-value.ensures in
    let none : has_float (view c.in_ok-value.value) ≡ false = rw e (in_reply (Shown c.args.view.now)) in
    IfOk-weaker c.to_string.result _ _ (λ text h. h none ∙ ap compact_text e) c.to_string.ensures.text
