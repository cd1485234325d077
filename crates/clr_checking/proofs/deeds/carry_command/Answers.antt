use Rattle.std.proofs.Common.{subst}
use Rattle.serde_json.specs.View.{view}
use Rattle.clr_rules.specs.declared.reply.Reply.{Reply}
use Rattle.clr_text.specs.Replies.{reply_data}
use Rattle.clr_verify.specs.Replies.{DecidesReply}
use Rattle.clr_checking.proofs.deeds.carry_command.Goals as goal

pub returns-clause-reply : goal.returns-clause-reply
returns-clause-reply c =
    subst (λ (r : Reply). DecidesReply (view c.args.reply.now) (reply_data r) c.in_ok-is_own.is_own) (c.in-Ok.ensures.carried.reply c.requires) c.in_ok-is_own.ensures
