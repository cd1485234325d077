use Rattle.std.proofs.Common.{◌≡◌, ◌+◌, length, ◌∙◌, ap, arith}
use Rattle.std.proofs.lemmas.List.Edits.{length-remove}
use Rattle.clr_shelf.specs.Items.{items_of}
use Rattle.clr_shelf.proofs.Listed.{item_read, take_items, take_thins, kept_begun, kept_begins}
use Rattle.clr_shelf.proofs.blocks.Blocks.remove.Goals as goal

pub merge-requires-clause-thinned : goal.merge-requires-clause-thinned
merge-requires-clause-thinned g c = take_thins c.args.self.now c.block_of-k.result c.args.place
    c.index.result.now c.index_mut.result.now
    c.block_of-k.ensures.in_range (λ later. c.block_of-k.ensures.used)
    c.index_mut.ensures.value c.index.ensures
    c.block_of-k.ensures.from c.take-item.new.self
    c.block_of-k.ensures.to c.take-item.ensures.items

pub count_starts-self-requires-clause-fits : goal.count_starts-self-requires-clause-fits
count_starts-self-requires-clause-fits g c =
    let list = c.args.self.now in
    let taken = c.merge.ensures.items ∙ take_items list c.block_of-k.result c.args.place
    c.index.result.now c.index_mut.result.now
    c.block_of-k.ensures.in_range (λ later. c.block_of-k.ensures.used)
    c.index_mut.ensures.value c.index.ensures
    c.block_of-k.ensures.from c.take-item.new.self
    c.block_of-k.ensures.to c.take-item.ensures.items in
    let less = ap (λ xs. length xs + 1) taken ∙ length-remove (items_of list) c.args.place
    c.requires in
    rw c.deref.ensures.value (omega (arith, less, list.counted, list.bounded, list.held))

pub invariant_of-self : goal.invariant_of-self
invariant_of-self g c =
    let list = c.args.self.now in
    let taken = c.merge.ensures.items ∙ take_items list c.block_of-k.result c.args.place
    c.index.result.now c.index_mut.result.now
    c.block_of-k.ensures.in_range (λ later. c.block_of-k.ensures.used)
    c.index_mut.ensures.value c.index.ensures
    c.block_of-k.ensures.from c.take-item.new.self
    c.block_of-k.ensures.to c.take-item.ensures.items in
    let less = ap (λ xs. length xs + 1) taken ∙ length-remove (items_of list) c.args.place
    c.requires in
    record {
      spread = c.merge.ensures.spread;
      begun = rw c.deref.ensures.value at c.count_starts-self.ensures.begun;
      ended = rw c.deref.ensures.value at c.count_starts-self.ensures.ended;
      counted = omega (arith, less, list.counted);
      held = rw c.merge.ensures.len (omega (arith, list.held));
      bounded = rw c.merge.ensures.len list.bounded;
    }

pub returns-clause-item : goal.returns-clause-item
returns-clause-item g c = item_read c.args.self.now c.block_of-k.result c.args.place
    c.index.result.now c.index_mut.result.now
    c.block_of-k.ensures.in_range (λ later. c.block_of-k.ensures.used)
    c.index_mut.ensures.value c.index.ensures
    c.block_of-k.ensures.from c.take-item.result
    c.block_of-k.ensures.to c.take-item.ensures.item

pub returns-clause-items : goal.returns-clause-items
returns-clause-items g c = c.merge.ensures.items
    ∙ take_items c.args.self.now c.block_of-k.result c.args.place c.index.result.now
    c.index_mut.result.now
    c.block_of-k.ensures.in_range (λ later. c.block_of-k.ensures.used)
    c.index_mut.ensures.value c.index.ensures
    c.block_of-k.ensures.from c.take-item.new.self
    c.block_of-k.ensures.to c.take-item.ensures.items

pub count_starts-self-requires-clause-begun : goal.count_starts-self-requires-clause-begun
count_starts-self-requires-clause-begun g c =
    let list = c.args.self.now in
    let long : length c.merge.new.blocks.items ≡ length list.blocks.items = omega arith in
    rw c.deref.ensures.value (kept_begun list c.block_of-k.result (λ later. c.block_of-k.ensures.used)
    c.take-item.new.self c.merge.new.blocks.items long c.merge.ensures.before)

pub count_starts-self-requires-clause-begins : goal.count_starts-self-requires-clause-begins
count_starts-self-requires-clause-begins g c =
    let list = c.args.self.now in
    let long : length c.merge.new.blocks.items ≡ length list.blocks.items = omega arith in
    rw c.deref.ensures.value (kept_begins list c.block_of-k.result (λ later. c.block_of-k.ensures.used)
    c.take-item.new.self c.merge.new.blocks.items long c.merge.ensures.before)
