use Rattle.std.proofs.Common.{◌≡◌, ◌++◌, drop, map, string_bytes}
use Rattle.clr_order.specs.Step.{task}
use Rattle.clr_log.specs.Words.{steps_words}
use Rattle.clr_log.proofs.texts.push_steps.Given as goal

abbrev pub invariant-loop-step : goal.invariant-loop-step
invariant-loop-step l =
    string_bytes l.out ++ steps_words (map task (drop l.step-index l.step-items)) ≡ string_bytes l.initial.out ++ steps_words (map task l.step-items)
