use Rattle.std.proofs.Common.{map, take}
use Rattle.clr_net.specs.Search.{Follows}
use Rattle.clr_net.proofs.reach.follow.Given as goal

abbrev pub invariant-loop-out : goal.invariant-loop-out
invariant-loop-out l = Follows (map (λ o. o.way) (take l.out-index l.ways)) l.cuts l.initial.marked l.initial.queue.items l.marked l.queue.items
