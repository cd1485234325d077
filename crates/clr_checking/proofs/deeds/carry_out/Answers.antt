use Rattle.std.proofs.Common.{subst, sym}
use Rattle.clr_changes.proofs.Deeds.{deed_keeps_good}
use Rattle.clr_changes.specs.Deeds.{archive, command, update}
use Rattle.clr_rules.specs.Good.{IsGood}
use Rattle.clr_rules.specs.Register.{Register}
use Rattle.clr_update.specs.Shown.{as_changes}
use Rattle.clr_checking.proofs.Results.{on_ok}
use Rattle.clr_checking.proofs.deeds.carry_out.Goals as goal

pub returns-in-Command-clause-good : goal.returns-in-Command-clause-good
returns-in-Command-clause-good c =
    on_ok c.carry_command.result (λ is. subst (λ (S : Register). IsGood S) (sym is) (deed_keeps_good c.args.desk.now.book.register (command c.in-Command.command) c.requires))
    c.carry_command.ensures.register

pub returns-in-Update-clause-good : goal.returns-in-Update-clause-good
returns-in-Update-clause-good c =
    on_ok c.carry_update.result (λ is. subst (λ (S : Register). IsGood S) (sym is) (deed_keeps_good c.args.desk.now.book.register (update (as_changes c.in-Update.changes)) c.requires))
    c.carry_update.ensures.register

pub returns-in-Archive-clause-good : goal.returns-in-Archive-clause-good
returns-in-Archive-clause-good c =
    on_ok c.carry_archive.result (λ is. subst (λ (S : Register). IsGood S) (sym is) (deed_keeps_good c.args.desk.now.book.register (archive c.in-Archive.before) c.requires))
    c.carry_archive.ensures.register
