use Rattle.std.proofs.Common.{ℕ, ◌-◌, ◌<◌, ◌≤◌, List, get_or}
use Rattle.clr_shelf.proofs.blocks.Blocks.block_of.Given as goal

-- the place is not before the block at `low`, and is before the one at `high`
pub record IsBetween (used low high place : ℕ) (starts : List ℕ) : Type 0 where
  pub rises : low < high
  pub within : high < used
  pub from : get_or starts low 0 ≤ place
  pub to : place < get_or starts high 0

abbrev pub invariant-loop-low : goal.invariant-loop-low
invariant-loop-low g l = IsBetween l.fn.self.used l.low l.high l.fn.place l.fn.self.starts.items

abbrev pub decreases-loop-low : goal.decreases-loop-low
decreases-loop-low g l = l.high - l.low
