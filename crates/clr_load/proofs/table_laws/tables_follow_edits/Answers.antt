use Rattle.clr_load.proofs.TableChanges.{tables_follow_edits}
use Rattle.clr_load.proofs.table_laws.tables_follow_edits.Goals as goal

pub returns : goal.returns
returns _ = tables_follow_edits
