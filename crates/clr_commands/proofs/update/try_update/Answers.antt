use Rattle.std.proofs.Common.{sym, subst}
use Rattle.clr_changes.specs.Shown.{as_update}
use Rattle.clr_commands.specs.Update.{ReportsUpdate, Texts}
use Rattle.clr_commands.proofs.Updating.{memory_told, report_told}
use Rattle.clr_commands.proofs.update.try_update.Goals as goal

pub returns-in-Ok : goal.returns-in-Ok
returns-in-Ok c =
    let R = c.args.book.now.register in
    let u = as_update c.args.update in
    subst (λ (it : Texts). ReportsUpdate (λ _. ⊥) R u it) (sym c.text_of.ensures) (report_told (λ _. ⊥) R u c.in-Ok.report c.in-Ok.ensures)

pub returns-in-Err : goal.returns-in-Err
returns-in-Err c = memory_told (λ _. ⊥) c.args.book.now.register (as_update c.args.update)
