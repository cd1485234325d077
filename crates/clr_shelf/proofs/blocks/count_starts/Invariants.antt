use Rattle.std.proofs.Common.{◌-◌, length}
use Rattle.clr_shelf.specs.Blocks.{parts_of}
use Rattle.clr_shelf.proofs.Starts.{IsCounted}
use Rattle.clr_shelf.proofs.blocks.count_starts.Given as goal

-- the starts so far are counted
abbrev pub invariant-loop-used : goal.invariant-loop-used
invariant-loop-used g l = IsCounted l.begin l.used l.starts.items (parts_of l.fn.blocks)

abbrev pub decreases-loop-used : goal.decreases-loop-used
decreases-loop-used g l = length l.fn.blocks - l.used
