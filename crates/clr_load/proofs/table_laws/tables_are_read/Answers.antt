use Rattle.clr_load.proofs.TablesRead.{tables_are_read, tables_read_as_no_others}
use Rattle.clr_load.proofs.table_laws.tables_are_read.Goals as goal

pub returns-clause-rows : goal.returns-clause-rows
returns-clause-rows c = tables_are_read

pub returns-clause-no_others : goal.returns-clause-no_others
returns-clause-no_others c = tables_read_as_no_others
