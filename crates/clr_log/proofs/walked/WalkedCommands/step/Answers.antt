use Rattle.std.proofs.Common.{ap, string_bytes}
use Rattle.clr_chain.specs.Walking.{seen_step}
use Rattle.clr_journal.specs.Line.{entry_of}
use Rattle.clr_log.proofs.CommandsTaken.{step_taken}
use Rattle.clr_log.proofs.walked.WalkedCommands.step.Goals as goal

pub returns-in-Holds-clause-text : goal.returns-in-Holds-clause-text
returns-in-Holds-clause-text c =
    step_taken c.push.result c.args.self.now.wanted c.args.self.now.last c.take.result c.after_line-done.result.0 c.after_line-done.result.1
    (entry_of c.in-Holds.line) c.args.step (string_bytes c.args.out.now) (string_bytes c.push.new.out) (ap seen_step c.in-Holds.is) c.take.ensures.value
    c.after_line-done.ensures.answered c.push.ensures
