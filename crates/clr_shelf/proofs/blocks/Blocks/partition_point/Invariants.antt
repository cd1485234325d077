use Rattle.std.proofs.Common.{◌≡◌, ℕ, ◌+◌, ◌-◌, ◌<◌, ◌≤◌, Bool, true, false, List, length, get_or}
use Rattle.std.specs.Fn.{FnReturnsAt}
use Rattle.clr_shelf.specs.Blocks.{parts_of, size_at}
use Rattle.clr_shelf.specs.Items.{items_of}
use Rattle.clr_shelf.proofs.blocks.Blocks.partition_point.Given as goal

-- the first item of `block` passes, if it is not the first block, and that of `behind` fails
pub record IsNarrowed {X : Type 0} (answers : X → Bool → Type 0) (items : List X) (starts : List ℕ)
    (used block behind : ℕ) : Type 0 where
  pub rises : block < behind
  pub within : behind ≤ used
  pub before : (d : X) → 0 < block → answers (get_or items (get_or starts block 0) d) true
  pub after : (d : X) → behind < used → answers (get_or items (get_or starts behind 0) d) false

-- between the start and the end of a block, the item before `low` passes, and the one at `high`
-- fails
pub record IsHalved {X : Type 0} (answers : X → Bool → Type 0) (items : List X)
    (start end low high : ℕ) : Type 0 where
  pub begins : start ≤ low
  pub rises : low ≤ high
  pub ends : high ≤ end
  pub within : end ≤ length items
  pub before : (k : ℕ) (d : X) → k + 1 ≡ low → answers (get_or items k d) true
  pub after : (d : X) → high < length items → answers (get_or items high d) false

abbrev pub invariant-loop-block : goal.invariant-loop-block
invariant-loop-block g l = IsNarrowed (FnReturnsAt g.F.Fn l.fn.passes) (items_of l.fn.self)
    l.fn.self.starts.items l.fn.self.used l.block l.behind

abbrev pub decreases-loop-block : goal.decreases-loop-block
decreases-loop-block g l = l.behind - l.block

abbrev pub invariant-loop-low : goal.invariant-loop-low
invariant-loop-low g l = IsHalved (FnReturnsAt g.F.Fn l.fn.passes) (items_of l.fn.self)
    (get_or l.fn.self.starts.items l.block 0)
    (get_or l.fn.self.starts.items l.block 0 + size_at (parts_of l.fn.self.blocks.items) l.block)
    l.low l.high

abbrev pub decreases-loop-low : goal.decreases-loop-low
decreases-loop-low g l = l.high - l.low
