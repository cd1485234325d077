use Rattle.std.proofs.Common.{◌≡◌, ◌<◌, sym, true, false, arith, rules, length, replicate, set, get_or}
use Rattle.std.proofs.lemmas.List.{get_or_read, length-set}
use Rattle.clr_net.proofs.IndexSteps.{outs_fit}
use Rattle.clr_net.proofs.SearchSteps.{none_marked, put_back, queue_inside, search_over, search_start, search_step}
use Rattle.clr_net.proofs.reach.reach.Goals as goal

pub loop-head-init : goal.loop-head-init
loop-head-init c =
    let cells : c.in_ok-marked.marked.items ≡ replicate c.args.count false = c.in_ok-marked.ensures.items_if_clones_equal (λ y e. search rules) in
    let size : length (set c.in_ok-marked.marked.items c.args.start true) ≡ c.args.count = omega (arith, length-set c.in_ok-marked.marked.items c.args.start true, c.in_ok-marked.ensures.len) in
    record {
      search = rw (c.in_ok-push.ensures.items, c.in_ok-queue.ensures.items) (search_start _ _ _ _ (λ i. rw cells (none_marked _ i)) (omega (arith, c.in_ok-marked.ensures.len)));
      len = size;
    }

pub out_of-requires : goal.out_of-requires
out_of-requires c =
    let queue = c.loop-head.queue.items in
    let waits : c.loop-head.head < length queue = omega (arith, c.loop-head.queue.ok) in
    let place : c.index-place.result.now ≡ get_or queue c.loop-head.head 0 = get_or_read queue c.loop-head.head c.index-place.result.now waits c.index-place.ensures 0 in
    let inside = queue_inside _ _ _ _ _ _ c.loop-head.invariant.search c.loop-head.head 0 waits in
    (c.args.count, c.requires.starts, omega (arith, place, inside, c.loop-head.invariant.len))

pub follow-requires-clause-fit : goal.follow-requires-clause-fit
follow-requires-clause-fit c =
    outs_fit c.out_of.result.now (length c.deref_mut.result.now)
    (λ w there.
    let fits = c.requires.fit.1 c.index-place.result.now w (rw (sym c.out_of.ensures) there) in
    omega (arith, fits.1, c.deref_mut.ensures.len, c.loop-head.invariant.len))

pub loop-head-preserved : goal.loop-head-preserved
loop-head-preserved c =
    let queue = c.loop-head.queue.items in
    let waits : c.loop-head.head < length queue = omega (arith, c.loop-head.queue.ok) in
    let place : c.index-place.result.now ≡ get_or queue c.loop-head.head 0 = get_or_read queue c.loop-head.head c.index-place.result.now waits c.index-place.ensures 0 in
    let whole = put_back c.follow.new.marked c.loop-head.marked.items c.loop-head.marked.len (omega arith) (omega arith) in
    record {
      search = rw whole (search_step _ _ _ c.loop-head.marked.items c.loop-head.queue.items c.loop-head.head _ _ c.loop-head.invariant.search waits
          (rw (sym place, sym c.out_of.ensures, sym c.deref_mut.ensures.value) c.in_ok-follow.ensures));
      len = rw whole (omega arith);
    }

pub returns-clause-inside : goal.returns-clause-inside
returns-clause-inside c = rw (sym c.loop-head.invariant.len) (queue_inside _ _ _ _ _ _ c.loop-head.invariant.search)

pub returns-clause-finds : goal.returns-clause-finds
returns-clause-finds c = search_over _ _ _ _ _ _ _ c.loop-head.invariant.search (omega (arith, c.loop-head.queue.ok))
