use Rattle.clr_keeping.proofs.KindSteps.{line_none, line_sent, line_unsent}
use Rattle.clr_keeping.proofs.journal.Printing.line.Goals as goal

pub returns-clause-printed : goal.returns-clause-printed
returns-clause-printed g c =
    line_sent c.send.result c.args.self.now c.add.new.self c.send.new.self (g.W.CountedWrite.stream c.args.output.now) (g.W.CountedWrite.stream c.send.new.output) _
    (c.in_ok-add.ensures.added (g.W.CountedWrite.stream c.args.output.now)) c.send.ensures.sent

pub returns-clause-failed : goal.returns-clause-failed
returns-clause-failed g c =
    line_unsent c.send.result c.args.self.now c.add.new.self (g.W.CountedWrite.stream c.args.output.now) (g.W.CountedWrite.stream c.send.new.output) _
    (c.in_ok-add.ensures.added (g.W.CountedWrite.stream c.args.output.now)) c.send.ensures.failed

pub returns-in_err-add-clause-failed : goal.returns-in_err-add-clause-failed
returns-in_err-add-clause-failed g c = line_none c.from_residual.result c.args.self.now (g.W.CountedWrite.stream c.args.output.now) _ c.from_residual.ensures.1
