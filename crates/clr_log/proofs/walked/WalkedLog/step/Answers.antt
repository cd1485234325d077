use Rattle.std.proofs.Common.{ap, string_bytes}
use Rattle.clr_chain.specs.Walking.{seen_step}
use Rattle.clr_journal.specs.Line.{entry_of}
use Rattle.clr_log.specs.Walked.{held_entries}
use Rattle.clr_log.proofs.Serving.{step_written}
use Rattle.clr_log.proofs.walked.WalkedLog.step.Goals as goal

pub returns-in_ok-push_wanted-in-Holds-clause-text : goal.returns-in_ok-push_wanted-in-Holds-clause-text
returns-in_ok-push_wanted-in-Holds-clause-text c =
    let s = c.args.self.now in
    step_written c.remember.result s.wanted s.clock (held_entries s.held.items) (entry_of c.in-Holds.line) c.args.step (string_bytes c.args.out.now)
    (string_bytes c.push_wanted.new.out) (ap seen_step c.in-Holds.is) c.in_ok-push_wanted-in-Holds.ensures
