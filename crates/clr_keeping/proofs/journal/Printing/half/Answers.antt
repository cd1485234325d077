use Rattle.clr_keeping.proofs.KindSteps.{line_none, line_sent, line_unsent}
use Rattle.clr_keeping.proofs.journal.Printing.half.Goals as goal

pub returns-clause-printed : goal.returns-clause-printed
returns-clause-printed g c =
    line_sent c.send.result c.args.self.now c.add_half.new.self c.send.new.self (g.W.CountedWrite.stream c.args.output.now) (g.W.CountedWrite.stream c.send.new.output) _
    (c.in_ok-add_half.ensures.added (g.W.CountedWrite.stream c.args.output.now)) c.send.ensures.sent

pub returns-clause-failed : goal.returns-clause-failed
returns-clause-failed g c =
    line_unsent c.send.result c.args.self.now c.add_half.new.self (g.W.CountedWrite.stream c.args.output.now) (g.W.CountedWrite.stream c.send.new.output) _
    (c.in_ok-add_half.ensures.added (g.W.CountedWrite.stream c.args.output.now)) c.send.ensures.failed

pub returns-in_err-add_half-clause-failed : goal.returns-in_err-add_half-clause-failed
returns-in_err-add_half-clause-failed g c = line_none c.from_residual.result c.args.self.now (g.W.CountedWrite.stream c.args.output.now) _ c.from_residual.ensures.1
