use Rattle.clr_commands.proofs.PlacedRead.{came, good_read, not_came, not_taken}
use Rattle.clr_commands.proofs.verify.register_at.Goals as goal

-- the register was read
pub returns-clause-read : goal.returns-clause-read
returns-clause-read g c =
    came g.R.Tables.Store g.R.Databases.opens g.R.Databases.shuts g.R.Databases.ends c.args.path.now c.register_of-told.result.0 c.args.rt.now c.open_desk.new.rt
    c.close-closed.new.rt c.in_ok-desk.desk c.register_of-told.result.1 c.close-closed.result c.in_ok-desk.ensures.up c.register_of-told.ensures.read c.close-closed.ensures

pub returns-clause-good : goal.returns-clause-good
returns-clause-good g c =
    good_read g.R.Tables.Store c.in_ok-desk.desk.store c.in_ok-desk.desk.book.register c.register_of-told.result.1 c.register_of-told.result.0 c.in_ok-desk.ensures.up.good c.register_of-told.ensures.read

-- it was not taken up
pub returns-in_err-desk-clause-read : goal.returns-in_err-desk-clause-read
returns-in_err-desk-clause-read g c =
    not_came g.R.Tables.Store g.R.Databases.opens g.R.Databases.shuts g.R.Databases.ends c.args.path.now _ c.args.rt.now c.open_desk.new.rt _ c.from_residual.ensures.1
    c.in_err-desk.ensures.none

pub returns-in_err-desk-clause-faults : goal.returns-in_err-desk-clause-faults
returns-in_err-desk-clause-faults g c = not_taken _ _ c.from_residual.ensures.1 c.in_err-desk.ensures.fault
