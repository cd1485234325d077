use Rattle.std.proofs.Common.{◌≡◌, ◌≢◌, ◌+◌, ◌<◌, length, sym, ◌∙◌, ap, arith}
use Rattle.std.proofs.lemmas.List.Edits.{length-insert, length-remove}
use Rattle.clr_shelf.specs.Blocks.{joined, parts_of}
use Rattle.clr_shelf.proofs.Parts.{joined-two, moved_back, parts-two, part_read, part_read_after, move_sizes, length-parts}
use Rattle.clr_shelf.proofs.balance.move_left.Goals as goal

pub returns-clause-items : goal.returns-clause-items
returns-clause-items g c =
    let blocks = c.args.blocks.now.items in
    let k = c.args.k in
    let first = c.index_mut-2.result.now in
    let second = c.index_mut.result.now in
    let within : k + 1 < length blocks = omega arith in
    let near : k < length blocks = omega arith in
    let apart : k ≢ k + 1 = omega arith in
    let first_is = part_read_after blocks (k + 1) k c.take-item.new.self first near apart
    c.index_mut-2.ensures.value in
    let measured = part_read_after blocks (k + 1) k c.take-item.new.self c.index.result.now near
    apart c.index.ensures in
    let second_is = part_read blocks (k + 1) second within c.index_mut.ensures.value in
    let end : c.len-end.result ≡ length first.items.items = c.len-end.ensures
    ∙ ap length (sym measured ∙ first_is) in
    let some : 0 < length second.items.items = rw second_is at c.requires.given in
    ap joined (parts-two blocks (k + 1) k c.take-item.new.self c.put.new.self)
    ∙ joined-two (parts_of blocks) k c.put.new.self.items.items c.take-item.new.self.items.items
    (rw (length-parts blocks) within)
    (rw (c.put.ensures, c.take-item.ensures.items, first_is, second_is)
    (moved_back first.items.items second.items.items c.take-item.result c.len-end.result end some
    c.take-item.ensures.item))

pub returns-clause-sizes : goal.returns-clause-sizes
returns-clause-sizes g c =
    let blocks = c.args.blocks.now.items in
    let k = c.args.k in
    let first = c.index_mut-2.result.now in
    let second = c.index_mut.result.now in
    let within : k + 1 < length (parts_of blocks) = rw (length-parts blocks) (omega arith) in
    let near : k < length blocks = omega arith in
    let apart : k ≢ k + 1 = omega arith in
    let first_is = part_read_after blocks (k + 1) k c.take-item.new.self first near apart
    c.index_mut-2.ensures.value in
    let measured = part_read_after blocks (k + 1) k c.take-item.new.self c.index.result.now near
    apart c.index.ensures in
    let second_is = part_read blocks (k + 1) second (omega arith) c.index_mut.ensures.value in
    let end : c.len-end.result ≡ length first.items.items = c.len-end.ensures
    ∙ ap length (sym measured ∙ first_is) in
    let some : 0 < length second.items.items = rw second_is at c.requires.given in
    rw (parts-two blocks (k + 1) k c.take-item.new.self c.put.new.self)
    (move_sizes (parts_of blocks) (k + 1) k c.take-item.new.self.items.items
    c.put.new.self.items.items
    within (omega arith) (omega arith)
    (rw (c.take-item.ensures.items, second_is) (length-remove second.items.items 0 some))
    (rw (c.put.ensures, first_is) (length-insert first.items.items c.len-end.result
    c.take-item.result (omega (arith, end)))))
