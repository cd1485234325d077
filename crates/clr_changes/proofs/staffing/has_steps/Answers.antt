use Rattle.std.proofs.Common.{◌∙◌, ap, not, Bor}
use Rattle.clr_rules.specs.declared.step_row.StepRow.{StepRow}
use Rattle.clr_changes.proofs.LookedUp.{some_step_behind}
use Rattle.clr_changes.proofs.staffing.has_steps.Goals as goal

pub returns : goal.returns
returns c = ap not c.is_empty.ensures ∙ some_step_behind (λ (row : Bor StepRow). row.now) c.args.steps.now
