use Rattle.std.proofs.Common.{◌≡◌, ◌≢◌, ◌+◌, ◌-◌, ◌<◌, length, sym, ◌∙◌, ap, arith}
use Rattle.std.proofs.lemmas.List.{set_comm}
use Rattle.std.proofs.lemmas.List.Edits.{length-remove}
use Rattle.clr_shelf.specs.Blocks.{joined, parts_of}
use Rattle.clr_shelf.proofs.Parts.{joined-two, moved_on, parts-two, part_read, part_read_after, move_sizes, length-parts}
use Rattle.clr_shelf.proofs.balance.move_right.Goals as goal

pub returns-clause-items : goal.returns-clause-items
returns-clause-items g c =
    let blocks = c.args.blocks.now.items in
    let k = c.args.k in
    let first = c.index_mut.result.now in
    let second = c.index_mut-2.result.now in
    let within : k + 1 < length blocks = omega arith in
    let near : k < length blocks = omega arith in
    let apart : k + 1 ≢ k = omega arith in
    let other : k ≢ k + 1 = omega arith in
    let first_is = part_read blocks k first near c.index_mut.ensures.value in
    let measured = part_read blocks k c.index.result.now near c.index.ensures in
    let second_is = part_read_after blocks k (k + 1) c.take-item.new.self second within apart
    c.index_mut-2.ensures.value in
    let long : c.len-last.result ≡ length first.items.items = c.len-last.ensures
    ∙ ap length (sym measured ∙ first_is) in
    let some : 0 < length first.items.items = rw first_is at c.requires.given in
    let last : c.len-last.result - 1 + 1 ≡ length first.items.items = omega (arith, long, some) in
    ap joined (parts-two blocks k (k + 1) c.take-item.new.self c.put.new.self
    ∙ set_comm (parts_of blocks) k (k + 1) c.take-item.new.self.items.items
    c.put.new.self.items.items other)
    ∙ joined-two (parts_of blocks) k c.take-item.new.self.items.items c.put.new.self.items.items
    (rw (length-parts blocks) within)
    (rw (c.put.ensures, c.take-item.ensures.items, first_is, second_is)
    (moved_on first.items.items second.items.items c.take-item.result (c.len-last.result - 1) last
    c.take-item.ensures.item))

pub returns-clause-sizes : goal.returns-clause-sizes
returns-clause-sizes g c =
    let blocks = c.args.blocks.now.items in
    let k = c.args.k in
    let first = c.index_mut.result.now in
    let second = c.index_mut-2.result.now in
    let within : k + 1 < length blocks = omega arith in
    let near : k < length blocks = omega arith in
    let apart : k + 1 ≢ k = omega arith in
    let first_is = part_read blocks k first near c.index_mut.ensures.value in
    let measured = part_read blocks k c.index.result.now near c.index.ensures in
    let second_is = part_read_after blocks k (k + 1) c.take-item.new.self second within apart
    c.index_mut-2.ensures.value in
    let long : c.len-last.result ≡ length first.items.items = c.len-last.ensures
    ∙ ap length (sym measured ∙ first_is) in
    let some : 0 < length first.items.items = rw first_is at c.requires.given in
    let last : c.len-last.result - 1 < length first.items.items = omega (arith, long, some) in
    rw (parts-two blocks k (k + 1) c.take-item.new.self c.put.new.self)
    (move_sizes (parts_of blocks) k (k + 1) c.take-item.new.self.items.items
    c.put.new.self.items.items
    (rw (length-parts blocks) near) (rw (length-parts blocks) within) (omega arith)
    (rw (c.take-item.ensures.items, first_is)
    (length-remove first.items.items (c.len-last.result - 1) last))
    (omega (arith, ap length c.put.ensures, ap length second_is)))
