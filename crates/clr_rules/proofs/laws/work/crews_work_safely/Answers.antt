use Rattle.clr_rules.proofs.good.CrewSafety.{crews_are_safe, runs_are_safe}
use Rattle.clr_rules.proofs.laws.work.crews_work_safely.Goals as goal

pub returns-clause-registers : goal.returns-clause-registers
returns-clause-registers _ = crews_are_safe

pub returns-clause-runs : goal.returns-clause-runs
returns-clause-runs _ = runs_are_safe
