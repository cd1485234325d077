use Rattle.std.proofs.Common.{◌≡◌, ℕ, ◌+◌, ◌≤◌, map, vec_len, vec_capacity, slice_range}
use Rattle.clr_shelf.specs.Items.{items_of}
use Rattle.clr_shelf.proofs.blocks.Blocks.between.Given as goal

-- the items up to the place are found, and there is memory for the rest
pub record IsFound {X : Type 0} (found all : X) (count place start memory end : ℕ) : Type 0 where
  pub items : found ≡ all
  pub counts : count + start ≡ place
  pub room : end ≤ memory + start

abbrev pub invariant-loop-place : goal.invariant-loop-place
invariant-loop-place g l = IsFound (map (λ item. item.now) l.found.items)
    (slice_range (items_of l.fn.self) l.fn.start l.place) (vec_len l.found) l.place l.fn.start
    (vec_capacity l.found) l.fn.end
