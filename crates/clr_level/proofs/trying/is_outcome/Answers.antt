use Rattle.std.proofs.Common.{IfOk, Option, subst}
use Rattle.serde_json.specs.Data.{Data}
use Rattle.serde_json.specs.View.{view}
use Rattle.clr_changes.specs.Made.{IsMade}
use Rattle.clr_changes.specs.declared.outcome.After.{After}
use Rattle.clr_update.specs.Shown.{as_changes}
use Rattle.clr_verify.specs.Replies.{DecidesReply}
use Rattle.clr_level.proofs.Outcomes.{made_reply, not_made}
use Rattle.clr_level.proofs.trying.is_outcome.Goals as goal

pub returns-in-Some : goal.returns-in-Some
returns-in-Some g c =
    let R = c.args.book.now.register in
    let of = as_changes c.args.changes.now in
    let made = subst (λ (o : Option After). IsMade R of o) c.in-Some.is c.in_ok-made.ensures in
    subst (λ (own : Data). IfOk c.is_done.result (DecidesReply (view c.args.due.now) own)) (made_reply R of c.in-Some._after made) c.is_done.ensures

pub returns-in-None : goal.returns-in-None
returns-in-None g c =
    let R = c.args.book.now.register in
    let of = as_changes c.args.changes.now in
    not_made R of (view c.args.due.now) (subst (λ (o : Option After). IsMade R of o) c.in-None.is c.in_ok-made.ensures) c.requires
