use Rattle.std.proofs.Common.{Option, Some, subst}
use Rattle.clr_book.specs.Book.{Shelved}
use Rattle.clr_changes.specs.Made.{IsUpdateOf}
use Rattle.clr_changes.specs.declared.update.Update.{Update as Files}
use Rattle.clr_changes.specs.Deeds.{update}
use Rattle.clr_update.specs.Shown.{as_changes}
use Rattle.clr_level.proofs.Deeds.{not_begun}
use Rattle.clr_level.proofs.deed.change_at.Goals as goal

pub returns-in-Ok-Some : goal.returns-in-Ok-Some
returns-in-Ok-Some g c =
    let of = as_changes c.args.changes.now in
    let said = subst (λ (b : Shelved). IsUpdateOf b.register of (Some c.in-Ok-Some.update)) c.book.ensures
    (subst (λ (o : Option Files). IsUpdateOf c.book.result.now.register of o) c.in-Ok-Some.field-0-is c.in-Ok-Some.ensures) in
    c.make_at.ensures of said.0 said.1

pub returns-in-Ok-None : goal.returns-in-Ok-None
returns-in-Ok-None g c =
    not_begun g.K.Commit.kept g.K.Commit.takes g.K.CommitAt.has_place g.K.Commit.fails c.args.desk (update (as_changes c.args.changes.now)) c.args.place.now
