use Rattle.std.proofs.Common.{sym, subst}
use Rattle.sqlite.specs.Held.{state}
use Rattle.clr_changes.specs.Shown.{as_update}
use Rattle.clr_desk.specs.Faults.{FailsAsStore}
use Rattle.clr_commands.specs.Update.{IsUpdated, ReportsUpdate, Texts}
use Rattle.clr_commands.proofs.Updating.{report_is, updated_by}
use Rattle.clr_commands.proofs.update.make_update.Goals as goal

pub returns-clause-reports : goal.returns-clause-reports
returns-clause-reports g c =
    let R = c.args.desk.book.register in
    let u = as_update c.args.update in
    subst (λ (it : Texts). ReportsUpdate FailsAsStore R u it) (sym c.text_of.ensures)
    (report_is R u c.update-report.result.0 c.update-report.ensures.report c.update-report.ensures.cause)

pub returns-clause-updated : goal.returns-clause-updated
returns-clause-updated g c =
    let R = c.args.desk.book.register in
    let u = as_update c.args.update in
    subst (λ (it : Texts). IsUpdated (state g.S.Store) R u it c.args.desk.store c.update-report.result.1) (sym c.text_of.ensures)
    (updated_by g.S.Store R u c.args.desk.store c.update-report.result.1 c.update-report.result.0 c.requires c.is_read.ensures c.updates_keep_good.ensures.good
    c.update-report.ensures.report c.update-report.ensures.updated c.update-report.ensures.saved c.update-report.ensures.none c.update-report.ensures.crash)
