use Rattle.std.proofs.Common.{◌∙◌, ap}
use Rattle.clr_rules.specs.StepKey.{step_key, step_key_cmp}
use Rattle.clr_shelf.specs.Rows.{in_key_order}
use Rattle.clr_answer.proofs.NewSteps.{new_steps_rise}
use Rattle.clr_answer.proofs.kinds.new_steps.new_steps.Goals as goal

pub returns-clause-rising : goal.returns-clause-rising
returns-clause-rising c = ap (in_key_order step_key_cmp step_key) c.in_ok-rows.ensures ∙ new_steps_rise c.args.id c.args.round 1 c.args.tasks.now
