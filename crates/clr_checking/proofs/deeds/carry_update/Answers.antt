use Rattle.std.proofs.Common.{◌≡◌, Bool, Option, if◌then◌else◌, subst, sym, true, false}
use Rattle.serde_json.specs.View.{view}
use Rattle.clr_book.specs.Book.{Shelved}
use Rattle.clr_changes.specs.Made.{IsMade}
use Rattle.clr_changes.specs.declared.outcome.After.{After}
use Rattle.clr_journal.specs.Answered.{not_done}
use Rattle.clr_journal.specs.Line.{done}
use Rattle.clr_update.specs.Delta.{can_be_made}
use Rattle.clr_update.specs.Shown.{as_changes}
use Rattle.clr_verify.specs.Replies.{DecidesReply}
use Rattle.clr_checking.proofs.Outcomes.{stays}
use Rattle.clr_checking.proofs.deeds.carry_update.Goals as goal

-- they can be made
pub renew-requires : goal.renew-requires
renew-requires c =
    let R = c.args.desk.now.book.register in
    let of = as_changes c.args.changes.now in
    let made : IsMade R of c.in_ok-made.made = subst (λ (b : Shelved). IsMade b.register of c.in_ok-made.made) c.book.ensures c.in_ok-made.ensures in
    (of, subst (λ (found : Option After). IsMade R of found) c.in-Some.is made)

pub returns-clause-register : goal.returns-clause-register
returns-clause-register c =
    let R = c.args.desk.now.book.register in
    let of = as_changes c.args.changes.now in
    let made : IsMade R of c.in_ok-made.made = subst (λ (b : Shelved). IsMade b.register of c.in_ok-made.made) c.book.ensures c.in_ok-made.ensures in
    c.in_ok-renew.ensures.register of (subst (λ (found : Option After). IsMade R of found) c.in-Some.is made)

pub returns-clause-reply : goal.returns-clause-reply
returns-clause-reply c =
    let R = c.args.desk.now.book.register in
    let of = as_changes c.args.changes.now in
    let made : IsMade R of c.in_ok-made.made = subst (λ (b : Shelved). IsMade b.register of c.in_ok-made.made) c.book.ensures c.in_ok-made.ensures in
    let can : can_be_made R of ≡ true = (subst (λ (found : Option After). IsMade R of found) c.in-Some.is made).0 in
    subst (λ (b : Bool). DecidesReply (view c.args.reply.now) (if b then done else not_done) c.in_ok-is_own-2.is_own) (sym can) c.in_ok-is_own-2.ensures

-- they cannot
pub returns-in_default-clause-register : goal.returns-in_default-clause-register
returns-in_default-clause-register c =
    let R = c.args.desk.now.book.register in
    let of = as_changes c.args.changes.now in
    let made : IsMade R of c.in_ok-made.made = subst (λ (b : Shelved). IsMade b.register of c.in_ok-made.made) c.book.ensures c.in_ok-made.ensures in
    stays R of (subst (λ (found : Option After). IsMade R of found) c.in_default.is made)

pub returns-in_default-clause-reply : goal.returns-in_default-clause-reply
returns-in_default-clause-reply c =
    let R = c.args.desk.now.book.register in
    let of = as_changes c.args.changes.now in
    let made : IsMade R of c.in_ok-made.made = subst (λ (b : Shelved). IsMade b.register of c.in_ok-made.made) c.book.ensures c.in_ok-made.ensures in
    let cannot : can_be_made R of ≡ false = subst (λ (found : Option After). IsMade R of found) c.in_default.is made in
    subst (λ (b : Bool). DecidesReply (view c.args.reply.now) (if b then done else not_done) c.in_ok-is_own.is_own) (sym cannot) c.in_ok-is_own.ensures
