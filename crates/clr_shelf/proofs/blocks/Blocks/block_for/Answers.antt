use Rattle.std.proofs.Common.{◌≢◌, ◌-◌, ◌<◌, subst, arith}
use Rattle.clr_shelf.specs.Blocks.{parts_of, size_at}
use Rattle.clr_shelf.proofs.Listed.{spare_last}
use Rattle.clr_shelf.proofs.blocks.Blocks.block_for.Goals as goal

pub returns-then-place-eq0-clause-spare : goal.returns-then-place-eq0-clause-spare
returns-then-place-eq0-clause-spare g c = spare_last c.args.self.now
    (omega (arith, c.requires.room))

pub returns-else-place-eq0-clause-spare : goal.returns-else-place-eq0-clause-spare
returns-else-place-eq0-clause-spare g c = spare_last c.args.self.now
    (omega (arith, c.requires.room))

-- the block has some items, and the last has none
pub returns-else-place-eq0-clause-spare_after : goal.returns-else-place-eq0-clause-spare_after
returns-else-place-eq0-clause-spare_after g c =
    let sizes = size_at (parts_of c.args.self.now.blocks.items) in
    let k = c.block_of.result in
    let last = spare_last c.args.self.now (omega (arith, c.requires.room)) in
    let some : 0 < sizes k = omega (arith, c.block_of.ensures.from, c.block_of.ensures.to) in
    let apart : k ≢ c.args.self.now.blocks.len - 1 = λ is. absurd
    (omega (arith, last, subst (λ n. 0 < sizes n) is some)) in
    omega (arith, apart, c.block_of.ensures.in_range)
