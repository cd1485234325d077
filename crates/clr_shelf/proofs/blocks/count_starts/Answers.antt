use Rattle.std.proofs.Common.{◌+◌, ◌<◌, length, sym, ◌∙◌, arith}
use Rattle.clr_shelf.specs.Blocks.{parts_of}
use Rattle.clr_shelf.proofs.Parts.{length-parts, size_read}
use Rattle.clr_shelf.proofs.Starts.{counted_more, counted_le, counted_step}
use Rattle.clr_shelf.proofs.blocks.count_starts.Goals as goal

pub overflow_add-begin : goal.overflow_add-begin
overflow_add-begin g c =
    let blocks = c.args.blocks.now in
    let parts = parts_of blocks in
    let k = c.loop-used.used in
    let size = size_read blocks k c.index-blocks-used-in-loop-used.result (omega arith)
    c.index-blocks-used-in-loop-used.is in
    let within : k < length parts = omega (arith, length-parts blocks) in
    let all = counted_le parts (k + 1) in
    let more = counted_more parts k within in
    omega (arith, c.requires.fits, c.loop-used.invariant.sum)

pub loop-used-preserved : goal.loop-used-preserved
loop-used-preserved g c =
    let blocks = c.args.blocks.now in
    let k = c.loop-used.used in
    let size = size_read blocks k c.index-blocks-used-in-loop-used.result (omega arith)
    c.index-blocks-used-in-loop-used.is in
    let read = size_read blocks k c.index-blocks-used.result (omega arith)
    c.index-blocks-used.is in
    counted_step c.loop-used.begin k c.len-begin.result c.loop-used.starts.items (parts_of blocks)
    c.loop-used.invariant (omega (arith, length-parts blocks)) (c.len-begin.ensures ∙ sym size)
    (omega (arith, size, read))
