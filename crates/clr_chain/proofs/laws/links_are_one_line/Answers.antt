use Rattle.clr_chain.proofs.LinksBack.{firsts_line, links_line}
use Rattle.clr_chain.proofs.laws.links_are_one_line.Goals as goal

pub returns-clause-links : goal.returns-clause-links
returns-clause-links c = links_line

pub returns-clause-firsts : goal.returns-clause-firsts
returns-clause-firsts c = firsts_line
