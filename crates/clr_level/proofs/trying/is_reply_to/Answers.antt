use Rattle.std.proofs.Common.{IfOk, ap, subst, sym}
use Rattle.serde_json.specs.View.{view}
use Rattle.clr_rules.specs.Answer.{Answer}
use Rattle.clr_rules.specs.declared.reply.Reply.{Reply}
use Rattle.clr_text.specs.Replies.{reply_data}
use Rattle.clr_verify.specs.Replies.{DecidesReply}
use Rattle.clr_level.proofs.trying.is_reply_to.Goals as goal

pub returns : goal.returns
returns g c = λ good.
    let is = ap (λ (a : Answer). a.reply) (c.in_ok-decision.ensures.whole good) in
    subst (λ (r : Reply). IfOk c.is_reply.result (DecidesReply (view c.args.due.now) (reply_data r))) (sym is) c.is_reply.ensures
