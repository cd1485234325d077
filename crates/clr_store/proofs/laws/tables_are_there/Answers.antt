use Rattle.clr_store.proofs.There.{meta_there, there_are}
use Rattle.clr_store.proofs.laws.tables_are_there.Goals as goal

pub returns-clause-tables : goal.returns-clause-tables
returns-clause-tables c = there_are

pub returns-clause-meta : goal.returns-clause-meta
returns-clause-meta c = meta_there
