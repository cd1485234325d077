use Rattle.clr_keeping.specs.TakenUp.{logs}
use Rattle.clr_commands.proofs.Faults.{closed_plain, passed, taking_up_plain}
use Rattle.clr_commands.proofs.PartsAfter.{parts_at, unread_at}
use Rattle.clr_commands.proofs.part_after.begin_after.Goals as goal

-- the register of the database at the path was read, and the part begun or not
pub returns-clause-visit : goal.returns-clause-visit
returns-clause-visit g c =
    parts_at (logs g.R.Journals g.R.Log.Journal g.R.Time.Clock.shows) g.R.Tables.Store g.R.Databases.opens g.R.Databases.shuts g.R.Databases.ends
    c.args.path.now c.args.journal.now c.args.after.now c.begin_over-report.result.0 c.first_fault.result c.close-closed.result c.args.rt.now c.open_desk.new.rt
    c.begin_over-report.new.rt c.close-closed.new.rt c.in_ok-desk.desk c.begin_over-report.result.1 c.in_ok-desk.ensures.up c.begin_over-report.ensures.begun
    c.close-closed.ensures c.first_fault.ensures

pub returns-clause-faults : goal.returns-clause-faults
returns-clause-faults g c =
    closed_plain c.begin_over-report.result.0 c.close-closed.result _ c.first_fault.ensures c.begin_over-report.ensures.faults

-- or it was not read
pub returns-in_err-desk-clause-visit : goal.returns-in_err-desk-clause-visit
returns-in_err-desk-clause-visit g c =
    unread_at (logs g.R.Journals g.R.Log.Journal g.R.Time.Clock.shows) g.R.Tables.Store g.R.Databases.opens g.R.Databases.shuts g.R.Databases.ends
    c.args.path.now c.args.journal.now c.args.after.now _ c.args.rt.now c.open_desk.new.rt _ c.from_residual.ensures.1 c.in_err-desk.ensures.none

pub returns-in_err-desk-clause-faults : goal.returns-in_err-desk-clause-faults
returns-in_err-desk-clause-faults g c = passed _ _ c.from_residual.ensures.1 (taking_up_plain _ c.in_err-desk.ensures.fault)
