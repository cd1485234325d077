use Rattle.std.proofs.Common.{◌≡◌, map, drop}
use Rattle.clr_order.specs.Restoring.{wrong_held}
use Rattle.clr_order.specs.Step.{task}
use Rattle.clr_order.proofs.restoring.wrong_held.Given as goal

abbrev pub invariant-loop-place : goal.invariant-loop-place
invariant-loop-place l = wrong_held (drop l.place-index l.held) (map task l.steps) ≡ wrong_held l.held (map task l.steps)
