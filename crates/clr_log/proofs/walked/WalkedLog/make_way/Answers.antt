use Rattle.clr_log.proofs.Serving.{way_kept, way_made}
use Rattle.clr_log.proofs.walked.WalkedLog.make_way.Goals as goal

-- a command comes
pub returns-in-Carried-clause-serve : goal.returns-in-Carried-clause-serve
returns-in-Carried-clause-serve c older serve =
    way_made c.args.self.now.wanted _ _ _ older c.args.line.now c.in-Carried.field-0 c.in-Carried.is c.forget.ensures.wanted c.forget.ensures.held serve

-- or the last one is withdrawn
pub returns-in-Withdrawn-clause-serve : goal.returns-in-Withdrawn-clause-serve
returns-in-Withdrawn-clause-serve c older serve =
    way_kept c.args.self.now.wanted _ older c.args.line.now c.in-Withdrawn.field-0 c.in-Withdrawn.is serve
