use Rattle.std.proofs.Common.{◌≡◌, ◌∙◌, ◌≤◌, IfOk, false, ap, arith, subst}
use Rattle.serde_json.specs.Data.{Data, depth}
use Rattle.serde_json.specs.View.{view}
use Rattle.serde_json.specs.Written.{has_float}
use Rattle.clr_text.proofs.NoFloats.{in_reply}
use Rattle.clr_text.proofs.RepliesFlat.{reply_is_flat}
use Rattle.clr_verify.specs.Replies.{DecidesReply}
use Rattle.clr_verify.proofs.replies.is_reply.Goals as goal

pub returns : goal.returns
returns c =
    let e = c.in_ok-own.ensures in
    let small = reply_is_flat c.args.reply.now in
    let none : has_float (view c.in_ok-own.own) ≡ false = ap has_float e ∙ in_reply c.args.reply.now in
    let flat : depth (view c.in_ok-own.own) ≤ 127 = rw e (omega (arith, small)) in
    subst (λ (d : Data). IfOk c.is_same.result (DecidesReply (view c.args.due.now) d)) e (c.is_same.ensures none flat)
