use Rattle.std.proofs.Common.{◌≡◌, ◌+◌, ◌-◌, ◌<◌, length, sym, ◌∙◌, ap, arith, length-append}
use Rattle.clr_shelf.specs.Blocks.{joined, parts_of, size_at}
use Rattle.clr_shelf.specs.declared.block.TheConstants.{SIZE}
use Rattle.clr_shelf.proofs.Parts.{joined-split, joined-spare, split_parts, split_sizes, spare_parts, part_read, length-parts, size-spare, size-split_first, size-split_second}
use Rattle.clr_shelf.proofs.balance.split.Goals as goal

pub returns-clause-items : goal.returns-clause-items
returns-clause-items g c =
    let blocks = c.args.blocks.now.items in
    let shorter = c.take_last-spare.new.self.items in
    let k = c.args.k in
    let within : k < length shorter = omega arith in
    let end : c.args.blocks.now.len - 1 ≡ length shorter = omega arith in
    let parts = spare_parts blocks shorter c.take_last-spare.result
    c.take_last-spare.ensures.items (rw end at c.requires.spare) in
    let read = part_read shorter k c.index_mut.result.now within c.index_mut.ensures.value in
    ap joined (split_parts blocks shorter c.insert.new.self.items k c.part.new.self
    c.part.new.other c.in-Ok.ensures.items)
    ∙ joined-split (parts_of shorter) k c.part.new.self.items.items c.part.new.other.items.items
    (rw (length-parts shorter) within) (c.part.ensures.items ∙ sym read)
    ∙ sym (ap joined parts ∙ joined-spare (parts_of shorter))

pub returns-clause-sizes : goal.returns-clause-sizes
returns-clause-sizes g c =
    let blocks = c.args.blocks.now.items in
    let shorter = c.take_last-spare.new.self.items in
    let k = c.args.k in
    let within : k < length shorter = omega arith in
    let end : c.args.blocks.now.len - 1 ≡ length shorter = omega arith in
    let parts = spare_parts blocks shorter c.take_last-spare.result
    c.take_last-spare.ensures.items (rw end at c.requires.spare) in
    let read = part_read shorter k c.index_mut.result.now within c.index_mut.ensures.value in
    let both : length c.part.new.self.items.items + length c.part.new.other.items.items
    ≡ size_at (parts_of shorter) k =
    sym (length-append c.part.new.self.items.items c.part.new.other.items.items)
    ∙ ap length (c.part.ensures.items ∙ sym read) in
    rw (
      split_parts blocks shorter c.insert.new.self.items k c.part.new.self c.part.new.other
          c.in-Ok.ensures.items,
      parts,
    )
    (split_sizes (parts_of shorter) k c.part.new.self.items.items c.part.new.other.items.items
    (rw (length-parts shorter) within) both)

pub returns-clause-left : goal.returns-clause-left
returns-clause-left g c =
    let shorter = c.take_last-spare.new.self.items in
    let k = c.args.k in
    let within : k < length shorter = omega arith in
    let size = size-split_first (parts_of shorter) k c.part.new.self.items.items
    c.part.new.other.items.items (rw (length-parts shorter) within) in
    rw (split_parts c.args.blocks.now.items shorter c.insert.new.self.items k c.part.new.self
    c.part.new.other c.in-Ok.ensures.items)
    (omega (arith, size, c.part.ensures.kept))

pub returns-clause-given : goal.returns-clause-given
returns-clause-given g c =
    let blocks = c.args.blocks.now.items in
    let shorter = c.take_last-spare.new.self.items in
    let k = c.args.k in
    let within : k < length shorter = omega arith in
    let end : c.args.blocks.now.len - 1 ≡ length shorter = omega arith in
    let parts = spare_parts blocks shorter c.take_last-spare.result
    c.take_last-spare.ensures.items (rw end at c.requires.spare) in
    let read = part_read shorter k c.index_mut.result.now within c.index_mut.ensures.value in
    let both : length c.part.new.self.items.items + length c.part.new.other.items.items
    ≡ size_at (parts_of shorter) k =
    sym (length-append c.part.new.self.items.items c.part.new.other.items.items)
    ∙ ap length (c.part.ensures.items ∙ sym read) in
    let full : size_at (parts_of shorter) k ≡ SIZE + 1 = sym (size-spare (parts_of shorter) k)
    ∙ (rw parts at c.requires.full) in
    let size = size-split_second (parts_of shorter) k c.part.new.self.items.items
    c.part.new.other.items.items (rw (length-parts shorter) within) in
    rw (split_parts blocks shorter c.insert.new.self.items k c.part.new.self c.part.new.other
    c.in-Ok.ensures.items)
    (omega (arith, size, both, full, c.part.ensures.kept))
