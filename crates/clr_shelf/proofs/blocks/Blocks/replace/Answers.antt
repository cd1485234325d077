use Rattle.std.proofs.Common.{length, sym, ◌∙◌, ap, length-set}
use Rattle.clr_shelf.specs.Items.{items_of}
use Rattle.clr_shelf.proofs.Listed.{item_read, write_items, write_spreads, write_begins, write_ends}
use Rattle.clr_shelf.proofs.blocks.Blocks.replace.Goals as goal

pub invariant_of-self : goal.invariant_of-self
invariant_of-self g c =
    let list = c.args.self.now in
    let written = write_items list c.block_of-k.result c.args.place c.index.result.now
    c.index_mut.result.now
    c.block_of-k.ensures.in_range (λ later. c.block_of-k.ensures.used)
    c.index_mut.ensures.value c.index.ensures
    c.block_of-k.ensures.from c.replace.new.self c.args.item
    c.block_of-k.ensures.to c.replace.ensures.items in
    record {
      spread = write_spreads list c.block_of-k.result c.args.place c.index.result.now
          c.index_mut.result.now
          c.block_of-k.ensures.in_range (λ later. c.block_of-k.ensures.used)
          c.index_mut.ensures.value c.index.ensures
          c.block_of-k.ensures.from c.replace.new.self c.args.item
          c.block_of-k.ensures.to c.replace.ensures.items;
      begun = write_begins list c.block_of-k.result c.args.place c.index.result.now
          c.index_mut.result.now
          c.block_of-k.ensures.in_range (λ later. c.block_of-k.ensures.used)
          c.index_mut.ensures.value c.index.ensures
          c.block_of-k.ensures.from c.replace.new.self c.args.item
          c.block_of-k.ensures.to c.replace.ensures.items;
      ended = write_ends list c.block_of-k.result c.args.place c.index.result.now
          c.index_mut.result.now
          c.block_of-k.ensures.in_range (λ later. c.block_of-k.ensures.used)
          c.index_mut.ensures.value
          c.index.ensures
          c.block_of-k.ensures.from c.replace.new.self c.args.item
          c.block_of-k.ensures.to c.replace.ensures.items;
      counted = list.counted ∙ sym (ap length written
          ∙ length-set (items_of list) c.args.place c.args.item);
      held = list.held;
      bounded = list.bounded;
    }

pub returns-clause-old : goal.returns-clause-old
returns-clause-old g c = item_read c.args.self.now c.block_of-k.result c.args.place
    c.index.result.now c.index_mut.result.now
    c.block_of-k.ensures.in_range (λ later. c.block_of-k.ensures.used)
    c.index_mut.ensures.value c.index.ensures
    c.block_of-k.ensures.from c.replace.result
    c.block_of-k.ensures.to c.replace.ensures.old

pub returns-clause-items : goal.returns-clause-items
returns-clause-items g c = write_items c.args.self.now c.block_of-k.result c.args.place
    c.index.result.now c.index_mut.result.now
    c.block_of-k.ensures.in_range (λ later. c.block_of-k.ensures.used)
    c.index_mut.ensures.value c.index.ensures
    c.block_of-k.ensures.from c.replace.new.self c.args.item
    c.block_of-k.ensures.to c.replace.ensures.items
