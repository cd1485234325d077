use Rattle.std.proofs.Common.{◌≡◌, ◌+◌, ◌≤◌, ◌++◌, drop, length, map}
use Rattle.clr_order.specs.Step.{task}
use Rattle.clr_rules.specs.Changes.{new_steps}
use Rattle.clr_answer.proofs.kinds.new_steps.numbered.Given as goal

-- the steps that are made, and those that are left to make
abbrev pub invariant-loop-step : goal.invariant-loop-step
invariant-loop-step l =
    record {
      made : l.rows.items ++ new_steps l.fn.id l.fn.round l.ordinal (map task (drop l.step-index l.step-items)) ≡ new_steps l.fn.id l.fn.round 1 l.fn.tasks;
      number : l.ordinal ≡ l.step-index + 1;
      few : length l.step-items ≤ 256;
    }
