use Rattle.std.proofs.Common.{◌∙◌, Bool, IfOk, if◌then◌else◌, subst}
use Rattle.serde_json.specs.View.{view}
use Rattle.clr_update.specs.Shown.{as_changes}
use Rattle.clr_journal.specs.Answered.{not_done}
use Rattle.clr_journal.specs.Line.{done}
use Rattle.clr_verify.specs.Replies.{DecidesReply}
use Rattle.clr_checking.proofs.Outcomes.{is_made_of}
use Rattle.clr_checking.proofs.deeds.is_update_answer.Goals as goal

pub returns : goal.returns
returns c =
    let made = c.is_some.ensures ∙ is_made_of c.args.book.now.register (as_changes c.args.changes.now) _ c.in_ok-made.ensures in
    subst (λ (b : Bool). IfOk c.is_outcome.result (DecidesReply (view c.args.reply.now) (if b then done else not_done))) made c.is_outcome.ensures
