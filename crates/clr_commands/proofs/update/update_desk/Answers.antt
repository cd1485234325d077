use Rattle.std.proofs.Common.{◌≡◌, Bool, ap, subst, sym}
use Rattle.sqlite.specs.Held.{state}
use Rattle.clr_book.specs.Book.{Shelved}
use Rattle.clr_changes.specs.Shown.{as_update}
use Rattle.clr_desk.specs.Faults.{FailsAsStore}
use Rattle.clr_commands.specs.Update.{IsDone}
use Rattle.clr_commands.proofs.Updating.{tried_told}
use Rattle.clr_commands.proofs.update.update_desk.Goals as goal

-- in a dry run nothing is written
pub returns-then-dry_run-clause-reports : goal.returns-then-dry_run-clause-reports
returns-then-dry_run-clause-reports g c =
    let register : c.book.result.now.register ≡ c.args.desk.book.register = ap (λ (b : Shelved). b.register) c.book.ensures in
    tried_told FailsAsStore c.args.desk.book.register c.book.result.now.register (as_update c.args.update) c.try_update.result register c.try_update.ensures

pub returns-then-dry_run-clause-done : goal.returns-then-dry_run-clause-done
returns-then-dry_run-clause-done g c =
    subst (λ (dry_run : Bool). IsDone (state g.S.Store) dry_run c.args.desk.book.register (as_update c.args.update) c.try_update.result c.args.desk.store c.end.result)
    (sym c.if-dry_run.true) c.end.ensures

-- otherwise it is updated
pub returns-else-dry_run-clause-done : goal.returns-else-dry_run-clause-done
returns-else-dry_run-clause-done g c =
    subst (λ (dry_run : Bool). IsDone (state g.S.Store) dry_run c.args.desk.book.register (as_update c.args.update) c.make_update.result.0 c.args.desk.store c.make_update.result.1)
    (sym c.if-dry_run.false) c.make_update.ensures.updated
