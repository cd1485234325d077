use Rattle.clr_rules.proofs.isolation.ClosedSteps.{closed_steps_bind_no_run, closed_steps_bind_nothing}
use Rattle.clr_rules.proofs.laws.closed_steps.closed_steps_bind_nothing.Goals as goal

pub returns-clause-command : goal.returns-clause-command
returns-clause-command c = closed_steps_bind_nothing

pub returns-clause-run : goal.returns-clause-run
returns-clause-run c = closed_steps_bind_no_run
