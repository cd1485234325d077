use Rattle.std.proofs.Common.{◌≡◌, refl, subst}
use Rattle.clr_changes.specs.Shown.{as_update}
use Rattle.clr_desk.specs.Faults.{FailsAsStore}
use Rattle.clr_level.specs.Journaling.{FailsToo}
use Rattle.clr_keeping.specs.Keeping.{IsUpWith, plain_keeper}
use Rattle.clr_keeping.specs.TakenUp.{logs}
use Rattle.clr_keeping.proofs.Keeping.{not_worked_either}
use Rattle.clr_edge.specs.Visit.{first_fault}
use Rattle.clr_commands.specs.Update.{UpdatesAlone, UpdatesLogged}
use Rattle.clr_commands.proofs.Archived.{alone_fit, up_fit}
use Rattle.clr_commands.proofs.Faults.{closed_plain, passed, taking_up_plain}
use Rattle.clr_commands.proofs.Updating.{answer_plain, updated_alone, updated_level}
use Rattle.clr_commands.proofs.update.update_register.Goals as goal

-- a register that was taken up is fit
pub update_desk-report-requires : goal.update_desk-report-requires
update_desk-report-requires g c =
    alone_fit g.R.Tables.Store g.R.Databases.opens c.args.args.now.database.now (logs g.R.Journals g.R.Log.Journal g.R.Time.Clock.shows) c.args.args.now.journal
    c.args.rt.now c.take_up.new.rt c.in-Plain.desk
    (subst (λ opened. IsUpWith g.R.Tables.Store g.R.Databases.opens c.args.args.now.database.now (logs g.R.Journals g.R.Log.Journal g.R.Time.Clock.shows)
    c.args.args.now.journal c.args.rt.now c.take_up.new.rt opened) c.in-Plain.is c.in_ok-opened.ensures.up)

pub renew_desk-report-requires : goal.renew_desk-report-requires
renew_desk-report-requires g c =
    up_fit g.R.Tables.Store g.R.Databases.opens c.args.args.now.database.now (logs g.R.Journals g.R.Log.Journal g.R.Time.Clock.shows) c.args.args.now.journal
    c.args.rt.now c.take_up.new.rt c.in-Logged.desk
    (subst (λ opened. IsUpWith g.R.Tables.Store g.R.Databases.opens c.args.args.now.database.now (logs g.R.Journals g.R.Log.Journal g.R.Time.Clock.shows)
    c.args.args.now.journal c.args.rt.now c.take_up.new.rt opened) c.in-Logged.is c.in_ok-opened.ensures.up)

-- without a journal
pub returns-in-Plain-clause-visit : goal.returns-in-Plain-clause-visit
returns-in-Plain-clause-visit g c =
    let by = logs g.R.Journals g.R.Log.Journal g.R.Time.Clock.shows in
    let same : c.end.result ≡ c.update_desk-report.result.1 = cc in
    updated_alone by g.R.Tables.Store g.R.Databases.opens g.R.Databases.shuts g.R.Databases.ends c.args.args.now (as_update c.args.update)
    c.update_desk-report.result.0 c.first_fault.result c.close-closed.result c.args.rt.now c.take_up.new.rt c.close-closed.new.rt c.in-Plain.desk
    c.update_desk-report.result.1 c.end.result
    (subst (λ opened. IsUpWith g.R.Tables.Store g.R.Databases.opens c.args.args.now.database.now by c.args.args.now.journal c.args.rt.now c.take_up.new.rt opened)
    c.in-Plain.is c.in_ok-opened.ensures.up)
    c.update_desk-report.ensures.reports c.update_desk-report.ensures.done same c.close-closed.ensures c.first_fault.ensures

pub returns-in-Plain-clause-faults : goal.returns-in-Plain-clause-faults
returns-in-Plain-clause-faults g c =
    closed_plain c.update_desk-report.result.0 c.close-closed.result _ c.first_fault.ensures
    (answer_plain FailsAsStore c.in-Plain.desk.book.register (as_update c.args.update) c.update_desk-report.result.0 c.update_desk-report.ensures.reports)

-- with one
pub returns-in-Logged-clause-visit : goal.returns-in-Logged-clause-visit
returns-in-Logged-clause-visit g c =
    let by = logs g.R.Journals g.R.Log.Journal g.R.Time.Clock.shows in
    updated_level by g.R.Tables.Store g.R.Databases.opens g.R.Databases.shuts g.R.Databases.ends c.args.args.now (as_update c.args.update)
    c.renew_desk-report.result.0 c.first_fault-in-Logged.result c.let_go-closed.result c.args.rt.now c.take_up.new.rt c.let_go-closed.new.rt c.in-Logged.desk
    c.renew_desk-report.result.1
    (subst (λ opened. IsUpWith g.R.Tables.Store g.R.Databases.opens c.args.args.now.database.now by c.args.args.now.journal c.args.rt.now c.take_up.new.rt opened)
    c.in-Logged.is c.in_ok-opened.ensures.up)
    c.renew_desk-report.ensures.reports c.renew_desk-report.ensures.done c.renew_desk-report.ensures.said c.renew_desk-report.ensures.noted
    (c.renew_desk-report.ensures.level, c.renew_desk-report.ensures.sound, c.renew_desk-report.ensures.safe)
    c.let_go-closed.ensures c.first_fault-in-Logged.ensures

pub returns-in-Logged-clause-faults : goal.returns-in-Logged-clause-faults
returns-in-Logged-clause-faults g c =
    closed_plain c.renew_desk-report.result.0 c.let_go-closed.result _ c.first_fault-in-Logged.ensures
    (answer_plain (FailsToo FailsAsStore) c.in-Logged.desk.book.register (as_update c.args.update) c.renew_desk-report.result.0 c.renew_desk-report.ensures.reports)

-- it was not taken up
pub returns-in_err-opened-clause-visit : goal.returns-in_err-opened-clause-visit
returns-in_err-opened-clause-visit g c =
    not_worked_either g.R.Tables.Store g.R.Databases.opens g.R.Databases.shuts g.R.Databases.shuts g.R.Databases.ends
    c.args.args.now.database.now (Unit {0}) first_fault (logs g.R.Journals g.R.Log.Journal g.R.Time.Clock.shows)
    (UpdatesAlone c.args.args.now (as_update c.args.update) _ (plain_keeper g.R.Tables.Store))
    (UpdatesLogged (logs g.R.Journals g.R.Log.Journal g.R.Time.Clock.shows) g.R.Tables.Store c.args.args.now (as_update c.args.update)) c.args.args.now.journal _ c.args.rt.now c.take_up.new.rt _
    c.from_residual.ensures.1 (λ closed. refl) tt (λ cause shut. shut) c.in_err-opened.ensures.none

pub returns-in_err-opened-clause-faults : goal.returns-in_err-opened-clause-faults
returns-in_err-opened-clause-faults g c = passed _ _ c.from_residual.ensures.1 (taking_up_plain _ c.in_err-opened.ensures.fault)
