use Rattle.clr_view.proofs.Spreading.{Spreading}
use Rattle.clr_view.proofs.spread.spread_once.Given as goal

abbrev pub invariant-loop-link : goal.invariant-loop-link
invariant-loop-link l = Spreading l.links l.link-index l.initial.marks l.marks l.more
