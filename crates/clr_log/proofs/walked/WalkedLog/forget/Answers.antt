use Rattle.std.proofs.Common.{arith}
use Rattle.clr_log.proofs.Serving.{left_held}
use Rattle.clr_log.proofs.walked.WalkedLog.forget.Goals as goal

pub returns-clause-held : goal.returns-clause-held
returns-clause-held c =
    left_held c.args.self.now.wanted c.args.self.now.held.items _ c.saturating_sub-left.result c.truncate.ensures.items (omega arith)
