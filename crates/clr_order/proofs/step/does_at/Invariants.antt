use Rattle.std.proofs.Common.{◌≡◌, map, drop}
use Rattle.clr_order.specs.Step.{actions_at, same_actions, task}
use Rattle.clr_order.proofs.step.does_at.Given as goal

abbrev pub invariant-loop-step : goal.invariant-loop-step
invariant-loop-step l =
    same_actions (actions_at (map task (drop l.step-index l.steps)) l.point) l.left ≡ same_actions (actions_at (map task l.steps) l.point) l.actions
