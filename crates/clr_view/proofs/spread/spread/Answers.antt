use Rattle.clr_view.proofs.Spreading.{spread_then}
use Rattle.clr_view.proofs.spread.spread.Goals as goal

pub loop-preserved : goal.loop-preserved
loop-preserved c = spread_then c.args.links.now c.args.marks.now c.loop.marks c.spread_once.new.marks c.loop.invariant c.spread_once.ensures.spreads

pub returns-clause-spreads : goal.returns-clause-spreads
returns-clause-spreads c = spread_then c.args.links.now c.args.marks.now c.loop.marks c.spread_once.new.marks c.loop.invariant c.spread_once.ensures.spreads
