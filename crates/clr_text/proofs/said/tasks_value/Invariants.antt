use Rattle.std.proofs.Common.{◌≡◌, take, map}
use Rattle.serde_json.specs.View.{view}
use Rattle.clr_order.specs.Step.{task}
use Rattle.clr_text.specs.CommandText.{task_data}
use Rattle.clr_text.proofs.said.tasks_value.Given as goal

abbrev pub invariant-loop-step : goal.invariant-loop-step
invariant-loop-step l = map view l.list.items ≡ map task_data (map task (take l.step-index l.steps))
