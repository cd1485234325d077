use Rattle.std.proofs.Common.{◌≡◌, ◌∙◌, None, Some, subst, sym}
use Rattle.clr_book.specs.Book.{Shelved}
use Rattle.clr_changes.specs.Shown.{as_update}
use Rattle.clr_update.specs.Update.{in_the_way, updated}
use Rattle.clr_desk.specs.Planning.{IsPlan, MakesRenewal}
use Rattle.clr_desk.specs.Renewing.{IsUpdatedAt}
use Rattle.clr_desk.specs.declared.desk.Desk.{Desk}
use Rattle.clr_desk.specs.declared.updating.Plan.{Plan}
use Rattle.clr_desk.proofs.Renewed.{not_begun, one_desk}
use Rattle.clr_desk.proofs.desk.Desk.update_at.Goals as goal

-- something is in the way
pub returns-in-Ok-InTheWay-clause-updated : goal.returns-in-Ok-InTheWay-clause-updated
returns-in-Ok-InTheWay-clause-updated g c =
    let u = as_update c.args.update in
    let plan = subst (λ (p : Plan). IsPlan c.parted-book.result.0.register u p) c.in-Ok-InTheWay.field-0-is c.in-Ok-InTheWay.ensures in (
      subst (λ (b : Shelved). in_the_way b.register u ≡ Some c.in-Ok-InTheWay.obstacle) c.parted-book.ensures.book plan,
      one_desk c.of.result c.args.self (c.of.ensures.book ∙ c.parted-book.ensures.book) (c.of.ensures.store ∙ c.parted-book.ensures.kept) (c.of.ensures.faults ∙ c.faults-faults.ensures),
    )

-- nothing is
pub keep_at-requires : goal.keep_at-requires
keep_at-requires g c =
    let plan = subst (λ (p : Plan). IsPlan c.parted-book.result.0.register (as_update c.args.update) p) c.in-Ok-Accepted.field-0-is c.in-Ok-Accepted.ensures in
    plan.own

pub returns-in-Ok-Accepted-clause-updated : goal.returns-in-Ok-Accepted-clause-updated
returns-in-Ok-Accepted-clause-updated g c =
    let u = as_update c.args.update in
    let plan = subst (λ (p : Plan). IsPlan c.parted-book.result.0.register u p) c.in-Ok-Accepted.field-0-is c.in-Ok-Accepted.ensures in
    let desk = c.of-in-Ok-Accepted.result in
    let makes = subst (λ (b : Shelved). MakesRenewal b.register u c.in-Ok-Accepted.renewal) (sym c.of-in-Ok-Accepted.ensures.book) plan in
    let same : desk ≡ c.args.self =
    one_desk desk c.args.self (c.of-in-Ok-Accepted.ensures.book ∙ c.parted-book.ensures.book) (c.of-in-Ok-Accepted.ensures.store ∙ c.parted-book.ensures.kept)
    (c.of-in-Ok-Accepted.ensures.faults ∙ c.faults-faults.ensures) in
    subst (λ (d : Desk _). IsUpdatedAt g.K.Commit.kept g.K.CommitAt.has_place g.K.Commit.fails d c.keep_at.result.1 u c.args.place.now c.keep_at.result.0)
    same (c.keep_at.ensures.updated u makes)

-- memory ran out before anything was written
pub returns-in-Err-clause-updated : goal.returns-in-Err-clause-updated
returns-in-Err-clause-updated g c =
    let R = c.args.self.book.register in
    let u = as_update c.args.update in
    not_begun g.K.Commit.kept g.K.CommitAt.has_place g.K.Commit.fails (in_the_way R u ≡ None) c.args.self c.of-in-Err.result (updated R u) c.args.place.now
    (c.of-in-Err.ensures.book ∙ c.parted-book.ensures.book) (c.of-in-Err.ensures.store ∙ c.parted-book.ensures.kept)
