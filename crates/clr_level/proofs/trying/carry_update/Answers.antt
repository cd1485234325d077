use Rattle.std.proofs.Common.{◌≡◌, Bool, Option, false, rules, subst, true}
use Rattle.serde_json.specs.View.{view}
use Rattle.clr_changes.specs.Made.{IsMade}
use Rattle.clr_changes.specs.declared.outcome.After.{After}
use Rattle.clr_changes.specs.Deeds.{update}
use Rattle.clr_journal.specs.Answered.{deed_reply}
use Rattle.clr_update.specs.Shown.{as_changes}
use Rattle.clr_verify.specs.Replies.{DecidesReply}
use Rattle.clr_level.proofs.Outcomes.{made_so, not_made}
use Rattle.clr_level.proofs.trying.carry_update.Goals as goal

-- they cannot be made
pub returns-in_default-clause-same : goal.returns-in_default-clause-same
returns-in_default-clause-same c = λ good.
    let R = c.args.copy.now.register in
    let of = as_changes c.args.changes.now in
    not_made R of (view c.args.due.now) (subst (λ (o : Option After). IsMade R of o) c.in_default.is c.in_ok-made.ensures) c.requires

-- they can
pub book_after-requires : goal.book_after-requires
book_after-requires c =
    let of = as_changes c.args.changes.now in
    (of, subst (λ (o : Option After). IsMade c.args.copy.now.register of o) c.in-Some.is c.in_ok-made.ensures)

pub returns-then-not-branch-clause-same : goal.returns-then-not-branch-clause-same
returns-then-not-branch-clause-same c = λ good.
    let R = c.args.copy.now.register in
    let of = as_changes c.args.changes.now in
    let d = view c.args.due.now in
    let made = subst (λ (o : Option After). IsMade R of o) c.in-Some.is c.in_ok-made.ensures in
    let differs : c.in_ok-is_done.field-0 ≡ false = search rules in
    subst (λ (b : Bool). DecidesReply d (deed_reply R (update of)) b) differs (made_so R of c.in-Some.after d c.in_ok-is_done.field-0 made c.in_ok-is_done.ensures)

pub returns-clause-same : goal.returns-clause-same
returns-clause-same c = λ good.
    let R = c.args.copy.now.register in
    let of = as_changes c.args.changes.now in
    let d = view c.args.due.now in
    let made = subst (λ (o : Option After). IsMade R of o) c.in-Some.is c.in_ok-made.ensures in
    let same : c.in_ok-is_done.field-0 ≡ true = search rules in
    subst (λ (b : Bool). DecidesReply d (deed_reply R (update of)) b) same (made_so R of c.in-Some.after d c.in_ok-is_done.field-0 made c.in_ok-is_done.ensures)

pub returns-clause-register : goal.returns-clause-register
returns-clause-register c = λ good same.
    let of = as_changes c.args.changes.now in
    c.in_ok-copy.ensures.register of (subst (λ (o : Option After). IsMade c.args.copy.now.register of o) c.in-Some.is c.in_ok-made.ensures)
