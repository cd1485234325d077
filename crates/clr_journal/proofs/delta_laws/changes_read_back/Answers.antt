use Rattle.clr_journal.proofs.Back.{change_values_are_plain, changes_read_back}
use Rattle.clr_journal.proofs.delta_laws.changes_read_back.Goals as goal

pub returns-clause-reads : goal.returns-clause-reads
returns-clause-reads c = changes_read_back

pub returns-clause-plain : goal.returns-clause-plain
returns-clause-plain c = change_values_are_plain
