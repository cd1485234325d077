use Rattle.std.proofs.Common.{◌≡◌, drop, map}
use Rattle.clr_order.specs.Step.{stray_point, task}
use Rattle.clr_order.proofs.places.stray_point.Given as goal

abbrev pub invariant-loop-step : goal.invariant-loop-step
invariant-loop-step g l =
    stray_point (map g.P.Placed.point_of l.places) (map task (drop l.step-index l.steps)) ≡ stray_point (map g.P.Placed.point_of l.places) (map task l.steps)
