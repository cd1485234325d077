use Rattle.std.proofs.Common.{◌≡◌, length}
use Rattle.clr_net.specs.Search.{work_left}
use Rattle.clr_net.specs.Ways.{around_of}
use Rattle.clr_net.proofs.SearchSteps.{IsSearching}
use Rattle.clr_net.proofs.reach.reach.Given as goal

abbrev pub invariant-loop-head : goal.invariant-loop-head
invariant-loop-head l = record {
  search : IsSearching (around_of l.ways) l.cuts l.start l.marked.items l.queue.items l.head;
  len : length l.marked.items ≡ l.fn.count;
}

abbrev pub decreases-loop-head : goal.decreases-loop-head
decreases-loop-head l = work_left l.marked.items l.queue.items l.head
