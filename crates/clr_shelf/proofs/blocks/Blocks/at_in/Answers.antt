use Rattle.clr_shelf.proofs.Listed.{item_read, in_blocks}
use Rattle.clr_shelf.proofs.blocks.Blocks.at_in.Goals as goal

pub returns : goal.returns
returns g c = item_read c.args.self.now c.args.k c.args.place c.index-2.result.now
    c.index.result.now
    (in_blocks c.args.self.now c.args.k c.requires.in_range)
    (λ later. c.requires.in_range) c.index.ensures c.index-2.ensures c.requires.from
    c.at.result.now c.requires.to c.at.ensures
