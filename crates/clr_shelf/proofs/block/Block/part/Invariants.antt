use Rattle.std.proofs.Common.{◌≡◌, ◌+◌, ◌≤◌, ◌++◌, length}
use Rattle.clr_shelf.specs.declared.block.TheConstants.{SIZE}
use Rattle.clr_shelf.proofs.block.Block.part.Given as goal

abbrev pub invariant-loop-self : goal.invariant-loop-self
invariant-loop-self g l =
    (l.self.items.items ++ l.other.items.items ≡ l.fn.self.items.items)
    × (l.place ≤ length l.self.items.items)
    × (length l.self.items.items + length l.other.items.items ≤ SIZE + 1)

abbrev pub decreases-loop-self : goal.decreases-loop-self
decreases-loop-self g l = length l.self.items.items
