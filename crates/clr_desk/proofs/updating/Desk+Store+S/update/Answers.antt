use Rattle.std.proofs.Common.{subst}
use Rattle.clr_book.specs.Book.{Shelved}
use Rattle.clr_changes.specs.Shown.{as_update}
use Rattle.clr_desk.specs.Updating.{UpdatesTables}
use Rattle.clr_desk.proofs.updating.Desk+Store+S.update.Goals as goal

pub returns : goal.returns
returns g c =
    let done = c.update_tables-done.result in
    let new = c.update_tables-done.new.store in
    let u = as_update c.args.update in
    subst (λ h. UpdatesTables g.S.Store c.args.self.book.register u h done new) c.parted-book.ensures.kept
    (subst (λ (b : Shelved). UpdatesTables g.S.Store b.register u c.parted-book.result.1 done new) c.parted-book.ensures.book c.update_tables-done.ensures)
