use Rattle.clr_desk.proofs.Reopenings.{runs_go_on_after_a_crash, tables_come_back}
use Rattle.clr_desk.proofs.laws.crashes_go_on.Goals as goal

pub returns-clause-tables : goal.returns-clause-tables
returns-clause-tables c = tables_come_back

pub returns-clause-runs : goal.returns-clause-runs
returns-clause-runs c = runs_go_on_after_a_crash
