use Rattle.std.proofs.Common.{inl, inr, refl}
use Rattle.clr_edge.specs.Journals.{HasNoJournal, IsOfOpening, IsUnopenedAt}
use Rattle.clr_edge.proofs.Databases.{IfErr-passed}
use Rattle.clr_edge.proofs.journals.MachineJournals.journal.Goals as goal

-- the file at the path holds a journal
pub returns-in-Ok-clause-opens_journal : goal.returns-in-Ok-clause-opens_journal
returns-in-Ok-clause-opens_journal g c = (c.in_ok-expect_journal.ensures.size, c.in-Ok.ensures.opened)

pub returns-in-Ok-clause-whole : goal.returns-in-Ok-clause-whole
returns-in-Ok-clause-whole g c = c.in-Ok.ensures.opened.whole

-- or none that is opened
pub returns-in-Err-clause-shuts_journal : goal.returns-in-Err-clause-shuts_journal
returns-in-Err-clause-shuts_journal g c = inr c.in-Err.ensures.refused
