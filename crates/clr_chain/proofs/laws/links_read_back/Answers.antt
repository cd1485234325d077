use Rattle.clr_chain.proofs.LinksBack.{links_back, links_own}
use Rattle.clr_chain.proofs.laws.links_read_back.Goals as goal

pub returns-clause-reads : goal.returns-clause-reads
returns-clause-reads c = links_back

pub returns-clause-own : goal.returns-clause-own
returns-clause-own c = links_own
