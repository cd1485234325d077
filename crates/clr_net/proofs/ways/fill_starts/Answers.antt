use Rattle.std.proofs.Common.{◌<◌, ◌+◌, ℕ, get_or, rules, arith, nat_lt}
use Rattle.std.proofs.lemmas.List.Sorted.{IsPartitionPoint-from_clause, IsPartitionedBy-ltb}
use Rattle.clr_net.specs.Index.{IsStart}
use Rattle.clr_net.specs.declared.ways.Out.{Out}
use Rattle.clr_net.proofs.IndexSteps.{starts_more}
use Rattle.clr_net.proofs.ways.fill_starts.Goals as goal

pub loop-place-preserved : goal.loop-place-preserved
loop-place-preserved c =
    let place = c.loop-place.place-counter in
    let parted = IsPartitionedBy-ltb (λ (o : Out). o.from) c.args.out.now place c.requires in
    let point = IsPartitionPoint-from_clause (λ (o : Out). nat_lt o.from place) c.args.out.now _ c.partition_point-start.ensures.partitioned parted (λ a r q k. search rules) in
    record {
      len = omega (arith, c.in_ok-push.ensures.len, c.loop-place.invariant.len);
      each = rw c.in_ok-push.ensures.items (starts_more c.args.out.now c.loop-place.starts.items place c.partition_point-start.result
          (omega (arith, c.loop-place.starts.ok, c.loop-place.invariant.len)) c.loop-place.invariant.each (c.partition_point-start.ensures.bound, point));
      room = omega (arith, c.in_ok-push.ensures.capacity, c.loop-place.invariant.room);
    }

pub returns-in_ok-push-clause-starts : goal.returns-in_ok-push-clause-starts
returns-in_ok-push-clause-starts c =
    let place = c.loop-place.place-counter in
    let parted = IsPartitionedBy-ltb (λ (o : Out). o.from) c.args.out.now place c.requires in
    let point = IsPartitionPoint-from_clause (λ (o : Out). nat_lt o.from place) c.args.out.now _ c.partition_point-start.ensures.partitioned parted (λ a r q k. search rules) in
    let more : (j : ℕ) → j < place + 1 → IsStart c.args.out.now j (get_or c.push.new.self.items j 0) = rw c.in_ok-push.ensures.items (starts_more c.args.out.now c.loop-place.starts.items place c.partition_point-start.result
    (omega (arith, c.loop-place.starts.ok, c.loop-place.invariant.len)) c.loop-place.invariant.each (c.partition_point-start.ensures.bound, point)) in
    record {
      count = omega (arith, c.in_ok-push.ensures.len, c.loop-place.invariant.len, c.push.new.self.ok);
      each = λ i below. more i (omega arith);
    }
