use Rattle.std.proofs.Common.{refl}
use Rattle.clr_keeping.specs.Keeping.{logged_keeper, plain_keeper}
use Rattle.clr_keeping.specs.TakenUp.{logs}
use Rattle.clr_keeping.proofs.Keeping.{not_worked, worked}
use Rattle.clr_commands.specs.Run.{RunsAlone, RunsDesk, printed_after}
use Rattle.clr_commands.proofs.Faults.{taking_up_plain}
use Rattle.clr_commands.proofs.RunAnswers.{FailsAsSubcommand-closed, FailsAsSubcommand-passed, ReadsInput-closed, ReadsInput-other, done_alone, taking_up-no_input}
use Rattle.clr_commands.proofs.run.run_stored.Goals as goal

-- the input was answered over the register of the database at the path
pub returns-clause-visit : goal.returns-clause-visit
returns-clause-visit g c =
    let input = g.I.Read.remaining c.args.input.now in
    let printed = c.run_opened-printed.result in
    let by = logs g.R.Journals g.R.Log.Journal g.R.Time.Clock.shows in
    worked g.R.Tables.Store g.R.Databases.opens g.R.Databases.shuts g.R.Databases.shuts g.R.Databases.ends c.args.args.now.database.now (Unit {0}) printed_after
    by (RunsAlone input) c.args.args.now.journal printed _
    c.args.rt.now c.take_up.new.rt c.take_up.new.rt c.let_go-closed.new.rt c.in_ok-opened.opened c.run_opened-printed.new.opened c.let_go-closed.result
    c.in_ok-opened.ensures.up (done_alone c.take_up.new.rt (RunsDesk (plain_keeper g.R.Tables.Store) input printed)
    (RunsDesk (logged_keeper g.R.Tables.Store by) input printed) c.in_ok-opened.opened c.run_opened-printed.new.opened c.run_opened-printed.ensures.ran)
    c.run_opened-printed.ensures.level c.let_go-closed.ensures
    c.printed_after.ensures

pub returns-clause-input : goal.returns-clause-input
returns-clause-input g c =
    ReadsInput-closed _ _ _ _ _ c.run_opened-printed.result c.let_go-closed.result _ c.printed_after.ensures c.run_opened-printed.ensures.input

pub returns-clause-faults : goal.returns-clause-faults
returns-clause-faults g c =
    FailsAsSubcommand-closed c.run_opened-printed.result c.let_go-closed.result _ c.printed_after.ensures c.run_opened-printed.ensures.faults

-- it was not taken up, and the input is not read then
pub returns-in_err-opened-clause-visit : goal.returns-in_err-opened-clause-visit
returns-in_err-opened-clause-visit g c =
    not_worked g.R.Tables.Store g.R.Databases.opens g.R.Databases.shuts g.R.Databases.shuts g.R.Databases.ends c.args.args.now.database.now (Unit {0}) printed_after
    (logs g.R.Journals g.R.Log.Journal g.R.Time.Clock.shows) (RunsAlone (g.I.Read.remaining c.args.input.now)) c.args.args.now.journal _ c.args.rt.now c.take_up.new.rt _
    c.from_residual.ensures.1 (λ closed. refl) tt (λ cause shut. shut) c.in_err-opened.ensures.none

pub returns-in_err-opened-clause-input : goal.returns-in_err-opened-clause-input
returns-in_err-opened-clause-input g c =
    ReadsInput-other _ _ _ _ _ _ _ (taking_up-no_input _ c.in_err-opened.ensures.fault) c.from_residual.ensures.1 refl

pub returns-in_err-opened-clause-faults : goal.returns-in_err-opened-clause-faults
returns-in_err-opened-clause-faults g c = FailsAsSubcommand-passed _ _ c.from_residual.ensures.1 (taking_up_plain _ c.in_err-opened.ensures.fault)
