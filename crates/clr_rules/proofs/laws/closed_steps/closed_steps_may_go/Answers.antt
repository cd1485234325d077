use Rattle.clr_rules.proofs.isolation.GivenUp.{closed_steps_may_go}
use Rattle.clr_rules.proofs.laws.closed_steps.closed_steps_may_go.Goals as goal

pub returns : goal.returns
returns c = closed_steps_may_go
