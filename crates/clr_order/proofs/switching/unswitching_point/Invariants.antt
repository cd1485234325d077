use Rattle.std.proofs.Common.{◌≡◌, map, drop}
use Rattle.clr_order.specs.Step.{task}
use Rattle.clr_order.specs.Switching.{unswitching_point}
use Rattle.clr_order.proofs.switching.unswitching_point.Given as goal

abbrev pub invariant-loop-step : goal.invariant-loop-step
invariant-loop-step l = unswitching_point (map task (drop l.step-index l.steps)) ≡ unswitching_point (map task l.steps)
