use Rattle.clr_rules.proofs.edits.Runs.{commands_are_replied, reached_go_on, runs_go_on}
use Rattle.clr_rules.proofs.laws.runs.runs_go_on.Goals as goal

pub returns-clause-replied : goal.returns-clause-replied
returns-clause-replied c = commands_are_replied

pub returns-clause-together : goal.returns-clause-together
returns-clause-together c = runs_go_on

pub returns-clause-reached : goal.returns-clause-reached
returns-clause-reached c = reached_go_on
