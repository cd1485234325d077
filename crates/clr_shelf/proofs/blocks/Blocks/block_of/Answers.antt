use Rattle.std.proofs.Common.{◌-◌, arith}
use Rattle.clr_shelf.proofs.Listed.{some_used, last_ends}
use Rattle.clr_shelf.proofs.blocks.Blocks.block_of.Goals as goal

pub overflow_sub-last : goal.overflow_sub-last
overflow_sub-last g c = omega (arith, some_used c.args.self.now (omega (arith, c.requires)))

pub returns-then-index-place-clause-used : goal.returns-then-index-place-clause-used
returns-then-index-place-clause-used g c =
    omega (arith, some_used c.args.self.now (omega (arith, c.requires)))

-- the last block that has items ends where the list ends
pub returns-then-index-place-clause-to : goal.returns-then-index-place-clause-to
returns-then-index-place-clause-to g c =
    let list = c.args.self.now in
    let some = some_used list (omega (arith, c.requires)) in
    omega (
      arith,
      c.requires,
      last_ends list (list.used - 1) (omega (arith, some))
          (omega (arith, some)),
    )
