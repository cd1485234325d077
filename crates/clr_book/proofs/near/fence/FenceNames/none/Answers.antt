use Rattle.clr_book.proofs.FenceNames.{none_at, none_rise}
use Rattle.clr_book.proofs.near.fence.FenceNames.none.Goals as goal

pub returns-clause-places : goal.returns-clause-places
returns-clause-places c grid = rw c.new.ensures.items (none_at grid _ c.new-2.ensures.items c.new-3.ensures.items)

pub returns-clause-rising : goal.returns-clause-rising
returns-clause-rising c = rw c.new.ensures.items none_rise
