use Rattle.std.proofs.Common.{◌≡◌, refl, rules, length, arith}
use Rattle.std.proofs.lemmas.List.Sorted.{IsNonDecreasingBy-from_sort_by_key}
use Rattle.clr_net.specs.Index.{ends_at}
use Rattle.clr_net.proofs.IndexSteps.{around_more, around_permuted}
use Rattle.clr_net.proofs.ways.fill_out.Goals as goal

pub loop-point-preserved : goal.loop-point-preserved
loop-point-preserved c = record {
  around = rw (c.in_ok-push-2.ensures.items, c.in_ok-push.ensures.items, c.way_out.ensures, c.way_out-in-loop-point.ensures)
      (around_more c.args.ends.now c.loop-point.point (ends_at c.args.ends.now c.loop-point.point) c.loop-point.out.items c.loop-point.invariant.around refl);
  len = omega (arith, c.in_ok-push.ensures.len, c.in_ok-push-2.ensures.len, c.loop-point.invariant.len);
  room = omega (arith, c.in_ok-push.ensures.capacity, c.in_ok-push-2.ensures.capacity, c.loop-point.invariant.room);
}

pub returns-clause-around : goal.returns-clause-around
returns-clause-around c =
    let over : c.loop-point.point ≡ length c.args.ends.now = omega arith in
    around_permuted c.args.ends.now (length c.args.ends.now) c.loop-point.out.items _ c.sort_unstable_by_key.ensures.permutation (rw over at c.loop-point.invariant.around)

pub returns-clause-rising : goal.returns-clause-rising
returns-clause-rising c = IsNonDecreasingBy-from_sort_by_key (λ o. o.from) _ c.sort_unstable_by_key.ensures.sorted (λ a r q k. search rules)
