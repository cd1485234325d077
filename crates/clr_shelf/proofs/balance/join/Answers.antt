use Rattle.std.proofs.Common.{◌+◌, ◌<◌, [], ◌++◌, length, get_or, set, ◌∙◌, ap, arith, remove}
use Rattle.std.proofs.lemmas.List.Edits.{get_or-remove_below}
use Rattle.clr_shelf.specs.Blocks.{joined, parts_of}
use Rattle.clr_shelf.proofs.Parts.{joined-join, joined-spare, join_parts, join_sizes, part_read, length-parts}
use Rattle.clr_shelf.proofs.balance.join.Goals as goal

pub returns-clause-items : goal.returns-clause-items
returns-clause-items g c =
    let blocks = c.args.blocks.now.items in
    let k = c.args.k in
    let first = c.index_mut.result.now in
    let within : k + 1 < length blocks = omega arith in
    let first_is = part_read blocks k first (omega arith)
    (c.index_mut.ensures.value ∙ ap (λ xs. get_or xs k first) c.remove-next.ensures.items
    ∙ get_or-remove_below blocks (k + 1) first k (omega arith) within) in
    let second_is = part_read blocks (k + 1) c.remove-next.result within
    c.remove-next.ensures.value in
    let parts = join_parts blocks c.remove-next.new.self.items c.push_reserved.new.self.items k
    c.append.new.self c.append.new.other
    c.remove-next.ensures.items c.push_reserved.ensures.items c.append.ensures.emptied
    (rw (first_is, second_is) c.append.ensures.items) in
    ap joined parts ∙ joined-spare (set (remove (parts_of blocks) (k + 1)) k
    (get_or (parts_of blocks) k [] ++ get_or (parts_of blocks) (k + 1) []))
    ∙ joined-join (parts_of blocks) k (rw (length-parts blocks) within)

pub returns-clause-sizes : goal.returns-clause-sizes
returns-clause-sizes g c =
    let blocks = c.args.blocks.now.items in
    let k = c.args.k in
    let first = c.index_mut.result.now in
    let within : k + 1 < length blocks = omega arith in
    let first_is = part_read blocks k first (omega arith)
    (c.index_mut.ensures.value ∙ ap (λ xs. get_or xs k first) c.remove-next.ensures.items
    ∙ get_or-remove_below blocks (k + 1) first k (omega arith) within) in
    let second_is = part_read blocks (k + 1) c.remove-next.result within
    c.remove-next.ensures.value in
    let parts = join_parts blocks c.remove-next.new.self.items c.push_reserved.new.self.items k
    c.append.new.self c.append.new.other
    c.remove-next.ensures.items c.push_reserved.ensures.items c.append.ensures.emptied
    (rw (first_is, second_is) c.append.ensures.items) in
    rw parts (join_sizes (parts_of blocks) k (rw (length-parts blocks) within))
