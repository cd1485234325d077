use Rattle.std.proofs.Common.{◌≡◌, map, drop}
use Rattle.clr_order.specs.HoldsLeft.{are_undone}
use Rattle.clr_order.specs.Restoring.{is_undone}
use Rattle.clr_order.specs.Step.{actions_at, task}
use Rattle.clr_order.proofs.restoring.is_undone.Given as goal

abbrev pub invariant-loop-step : goal.invariant-loop-step
invariant-loop-step l =
    are_undone l.left (actions_at (map task (drop l.step-index l.steps)) l.held.point) ≡ is_undone (map task l.steps) l.held
