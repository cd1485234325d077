use Rattle.clr_text.proofs.LineReplies.{faults_are_of_the_line, lines_are_runs}
use Rattle.clr_text.proofs.laws.lines_are_runs.Goals as goal

pub returns-clause-runs : goal.returns-clause-runs
returns-clause-runs c = lines_are_runs

pub returns-clause-faults : goal.returns-clause-faults
returns-clause-faults c = faults_are_of_the_line
