use Rattle.clr_load.proofs.SameTables.{good_are_told_by_tables, same_tables_same_register}
use Rattle.clr_load.proofs.table_laws.same_tables_same_register.Goals as goal

pub returns-clause-same : goal.returns-clause-same
returns-clause-same _ = same_tables_same_register

pub returns-clause-good : goal.returns-clause-good
returns-clause-good _ = good_are_told_by_tables
