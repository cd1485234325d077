use Rattle.std.proofs.Common.{Ok, take}
use Rattle.clr_store.specs.StepsTaken.{without_steps}
use Rattle.clr_store.specs.Change.{Does}
use Rattle.clr_store.proofs.steps.take_each.Given as goal

abbrev pub invariant-loop-key : goal.invariant-loop-key
invariant-loop-key g l = Does {X = Unit {0}} g.S.Store l.fn.tx l.tx (without_steps (take l.key-index l.keys)) (Ok tt)
