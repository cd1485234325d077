use Rattle.clr_rules.proofs.edits.PlainEdits.{answers_plain, plain_runs_keep_network}
use Rattle.clr_rules.proofs.laws.runs.only_jumpers_add.Goals as goal

pub returns-clause-command : goal.returns-clause-command
returns-clause-command c = answers_plain

pub returns-clause-run : goal.returns-clause-run
returns-clause-run c = plain_runs_keep_network
