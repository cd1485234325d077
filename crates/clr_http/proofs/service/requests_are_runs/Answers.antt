use Rattle.clr_http.proofs.Exchanges.{answers_are_served, served_are_answers}
use Rattle.clr_http.proofs.RequestRuns.{asked_once, commands_are_answered, only_commands_change, requests_are_runs}
use Rattle.clr_http.proofs.service.requests_are_runs.Goals as goal

pub returns-clause-runs : goal.returns-clause-runs
returns-clause-runs c = requests_are_runs

pub returns-clause-answers : goal.returns-clause-answers
returns-clause-answers c = answers_are_served

pub returns-clause-served : goal.returns-clause-served
returns-clause-served c = served_are_answers

pub returns-clause-once : goal.returns-clause-once
returns-clause-once c = asked_once

pub returns-clause-commands : goal.returns-clause-commands
returns-clause-commands c = commands_are_answered

pub returns-clause-others : goal.returns-clause-others
returns-clause-others c = only_commands_change
