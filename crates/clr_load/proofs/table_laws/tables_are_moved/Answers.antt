use Rattle.clr_load.proofs.Moved.{tables_are_moved}
use Rattle.clr_load.proofs.table_laws.tables_are_moved.Goals as goal

pub returns : goal.returns
returns c = tables_are_moved
