use Rattle.std.proofs.Common.{◌≡◌, ◌≢◌, ◌+◌, ◌-◌, length, sym, ◌∙◌, ap, arith}
use Rattle.std.proofs.lemmas.List.Edits.{length-insert}
use Rattle.clr_shelf.specs.Blocks.{parts_of}
use Rattle.clr_shelf.specs.Items.{items_of}
use Rattle.clr_shelf.proofs.Parts.{parts-set, size-set_other}
use Rattle.clr_shelf.proofs.Listed.{put_items, put_crowds, kept_begun, kept_begins}
use Rattle.clr_shelf.proofs.blocks.Blocks.insert.Goals as goal

pub settle-requires-clause-spare : goal.settle-requires-clause-spare
settle-requires-clause-spare g c =
    let list = c.args.self.now in
    let k = c.block_for-k.result in
    let apart : list.blocks.len - 1 ≢ k = omega (arith, c.block_for-k.ensures.spare_after) in
    rw (parts-set list.blocks.items k c.put.new.self)
    (size-set_other (parts_of list.blocks.items) k c.put.new.self.items.items
    (list.blocks.len - 1) apart ∙ c.block_for-k.ensures.spare)

pub settle-requires-clause-crowded : goal.settle-requires-clause-crowded
settle-requires-clause-crowded g c = put_crowds c.args.self.now c.block_for-k.result c.args.place
    c.index.result.now c.index_mut.result.now
    (omega (arith, c.block_for-k.ensures.spare_after)) c.block_for-k.ensures.used
    c.index_mut.ensures.value c.index.ensures
    c.block_for-k.ensures.from c.put.new.self c.args.item
    c.block_for-k.ensures.to c.put.ensures

pub count_starts-self-requires-clause-fits : goal.count_starts-self-requires-clause-fits
count_starts-self-requires-clause-fits g c =
    let list = c.args.self.now in
    let put = c.settle.ensures.items ∙ put_items list c.block_for-k.result c.args.place
    c.index.result.now c.index_mut.result.now
    (omega (arith, c.block_for-k.ensures.spare_after)) c.block_for-k.ensures.used
    c.index_mut.ensures.value c.index.ensures
    c.block_for-k.ensures.from c.put.new.self c.args.item
    c.block_for-k.ensures.to c.put.ensures in
    let more = ap length put ∙ length-insert (items_of list) c.args.place c.args.item
    c.requires.in_range in
    rw c.deref.ensures.value (omega (arith, more, list.counted, list.bounded, c.requires.room))

pub invariant_of-self : goal.invariant_of-self
invariant_of-self g c =
    let list = c.args.self.now in
    let put = c.settle.ensures.items ∙ put_items list c.block_for-k.result c.args.place
    c.index.result.now c.index_mut.result.now
    (omega (arith, c.block_for-k.ensures.spare_after)) c.block_for-k.ensures.used
    c.index_mut.ensures.value c.index.ensures
    c.block_for-k.ensures.from c.put.new.self c.args.item
    c.block_for-k.ensures.to c.put.ensures in
    let more = ap length put ∙ length-insert (items_of list) c.args.place c.args.item
    c.requires.in_range in
    record {
      spread = c.settle.ensures.spread;
      begun = rw c.deref.ensures.value at c.count_starts-self.ensures.begun;
      ended = rw c.deref.ensures.value at c.count_starts-self.ensures.ended;
      counted = ap (λ n. n + 1) list.counted ∙ sym more;
      held = rw c.settle.ensures.len (omega (arith, c.requires.room));
      bounded = rw c.settle.ensures.len list.bounded;
    }

pub returns-clause-items : goal.returns-clause-items
returns-clause-items g c = c.settle.ensures.items
    ∙ put_items c.args.self.now c.block_for-k.result c.args.place c.index.result.now
    c.index_mut.result.now
    (omega (arith, c.block_for-k.ensures.spare_after)) c.block_for-k.ensures.used
    c.index_mut.ensures.value c.index.ensures
    c.block_for-k.ensures.from c.put.new.self c.args.item
    c.block_for-k.ensures.to c.put.ensures

pub count_starts-self-requires-clause-begun : goal.count_starts-self-requires-clause-begun
count_starts-self-requires-clause-begun g c =
    let list = c.args.self.now in
    let long : length c.settle.new.blocks.items ≡ length list.blocks.items = omega arith in
    rw c.deref.ensures.value (kept_begun list c.block_for-k.result c.block_for-k.ensures.used
    c.put.new.self c.settle.new.blocks.items long c.settle.ensures.before)

pub count_starts-self-requires-clause-begins : goal.count_starts-self-requires-clause-begins
count_starts-self-requires-clause-begins g c =
    let list = c.args.self.now in
    let long : length c.settle.new.blocks.items ≡ length list.blocks.items = omega arith in
    rw c.deref.ensures.value (kept_begins list c.block_for-k.result c.block_for-k.ensures.used
    c.put.new.self c.settle.new.blocks.items long c.settle.ensures.before)
