use Rattle.clr_chain.proofs.Begun.{firsts_back, journals_open}
use Rattle.clr_chain.proofs.laws.new_journals_open.Goals as goal

pub returns-clause-reads : goal.returns-clause-reads
returns-clause-reads c = firsts_back

pub returns-clause-opens : goal.returns-clause-opens
returns-clause-opens c = journals_open
