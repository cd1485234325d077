use Rattle.clr_view.specs.Spread.{Spreads, unmarked}
use Rattle.clr_view.proofs.spread.spread.Given as goal

-- what has spread so far
abbrev pub invariant-loop : goal.invariant-loop
invariant-loop l = Spreads l.links l.initial.marks l.marks

-- the places that are left
abbrev pub decreases-loop : goal.decreases-loop
decreases-loop l = unmarked l.marks
