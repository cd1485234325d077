use Rattle.std.proofs.Common.{IfOk, refl, subst, sym}
use Rattle.serde_json.specs.View.{view}
use Rattle.clr_changes.specs.Deeds.{archive, deed_of, update}
use Rattle.clr_changes.specs.declared.deed.Deed.{Deed as SeenDeed}
use Rattle.clr_checking.specs.Brief.{DecidesDeed}
use Rattle.clr_checking.proofs.Due.{in_full, of_command}
use Rattle.clr_checking.proofs.Results.{if_ok}
use Rattle.clr_checking.proofs.deeds.is_due.Goals as goal

pub returns-in-Command : goal.returns-in-Command
returns-in-Command c =
    let R = c.args.book.now.register in
    subst (λ (deed : SeenDeed). IfOk c.is_command_due.result (DecidesDeed R (deed_of deed) (view c.args.reply.now))) (sym c.in-Command.is)
    (if_ok c.is_command_due.result (of_command R _ (view c.args.reply.now)) c.is_command_due.ensures)

pub returns-in-Update : goal.returns-in-Update
returns-in-Update c =
    let R = c.args.book.now.register in
    subst (λ (deed : SeenDeed). IfOk c.is_update_answer.result (DecidesDeed R (deed_of deed) (view c.args.reply.now))) (sym c.in-Update.is)
    (if_ok c.is_update_answer.result (in_full R (update _) (view c.args.reply.now) refl) c.is_update_answer.ensures)

pub returns-in-Archive : goal.returns-in-Archive
returns-in-Archive c =
    let R = c.args.book.now.register in
    subst (λ (deed : SeenDeed). IfOk c.is_done.result (DecidesDeed R (deed_of deed) (view c.args.reply.now))) (sym c.in-Archive.is)
    (if_ok c.is_done.result (in_full R (archive c.in-Archive.field-0) (view c.args.reply.now) refl) c.is_done.ensures)
