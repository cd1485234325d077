use Rattle.clr_chain.specs.Reading.{seen_sought}
use Rattle.clr_chain.proofs.Ending.{within_tail}
use Rattle.clr_chain.proofs.near.found_near.Goals as goal

pub returns-clause-within : goal.returns-clause-within
returns-clause-within c =
    within_tail c.args.place.now c.args.first.now c.args.tail.now c.links_of-links.result.now (seen_sought c.in_ok-sought.sought) c.in_ok-found.found
    c.links_of-links.ensures.lines c.links_of-links.ensures.rest c.in_ok-sought.ensures.found c.in_ok-found.ensures
