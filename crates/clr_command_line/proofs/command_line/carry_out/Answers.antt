use Rattle.std.proofs.Common.{refl}
use Rattle.clr_command_line.proofs.command_line.carry_out.Goals as goal

pub returns-in-Fence : goal.returns-in-Fence
returns-in-Fence g c = rw c.in-Fence.is (c.fence.result, (c.fence.ensures.answer, refl), c.fence.ensures.faults, refl, c.report.ensures)

pub returns-in-Check : goal.returns-in-Check
returns-in-Check g c = rw c.in-Check.is (c.check.result, (c.check.ensures.answer, refl), c.check.ensures.faults, refl, c.report-in-Check.ensures)

pub returns-in-Init : goal.returns-in-Init
returns-in-Init g c = rw c.in-Init.is (c.init.result, c.init.ensures.visit, c.init.ensures.faults, refl, c.report-in-Init.ensures)

pub returns-in-Run : goal.returns-in-Run
returns-in-Run g c = rw c.in-Run.is (c.run.result, c.run.ensures.visit, c.run.ensures.faults, c.run.ensures.input, c.report_run.ensures)

pub returns-in-Order : goal.returns-in-Order
returns-in-Order g c = rw c.in-Order.is (c.order.result, c.order.ensures.visit, c.order.ensures.faults, refl, c.report-in-Order.ensures)

pub returns-in-Board : goal.returns-in-Board
returns-in-Board g c = rw c.in-Board.is (c.board.result, c.board.ensures.visit, c.board.ensures.faults, refl, c.report-in-Board.ensures)

pub returns-in-WayBack : goal.returns-in-WayBack
returns-in-WayBack g c = rw c.in-WayBack.is (c.wayback.result, c.wayback.ensures.visit, c.wayback.ensures.faults, refl, c.report-in-WayBack.ensures)

pub returns-in-Serve : goal.returns-in-Serve
returns-in-Serve g c =
    rw c.in-Serve.is
    (c.serve-served.result, g.E.CountedWrite.stream c.serve-served.new.errors, refl, c.serve-served.ensures.visit, c.report_served.ensures)

pub returns-in-Verify : goal.returns-in-Verify
returns-in-Verify g c = rw c.in-Verify.is (c.verify.result, c.verify.ensures.visit, c.verify.ensures.faults, refl, c.report-in-Verify.ensures)

pub returns-in-VerifyFrom : goal.returns-in-VerifyFrom
returns-in-VerifyFrom g c = rw c.in-VerifyFrom.is (c.verify_from.result, c.verify_from.ensures.visit, c.verify_from.ensures.faults, refl, c.report-in-VerifyFrom.ensures)

pub returns-in-Update : goal.returns-in-Update
returns-in-Update g c = rw c.in-Update.is (c.update.result, c.update.ensures.visit, c.update.ensures.faults, refl, c.report-in-Update.ensures)

pub returns-in-Migrate : goal.returns-in-Migrate
returns-in-Migrate g c = rw c.in-Migrate.is (c.migrate.result, c.migrate.ensures.visit, c.migrate.ensures.faults, refl, c.report-in-Migrate.ensures)

pub returns-in-Archive : goal.returns-in-Archive
returns-in-Archive g c = rw c.in-Archive.is (c.archive.result, refl, c.archive.ensures.visit, c.report_served-in-Archive.ensures)

pub returns-in-Journal : goal.returns-in-Journal
returns-in-Journal g c = rw c.in-Journal.is (c.journal.result, (refl, refl), c.journal.ensures.printed, c.report_served-in-Journal.ensures)

pub returns-in-NextPart : goal.returns-in-NextPart
returns-in-NextPart g c = rw c.in-NextPart.is (c.next_part.result, c.next_part.ensures.visit, c.next_part.ensures.faults, refl, c.report-in-NextPart.ensures)
