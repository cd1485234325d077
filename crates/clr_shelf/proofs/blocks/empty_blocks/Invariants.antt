use Rattle.std.proofs.Common.{◌≡◌, ◌≤◌, [], replicate, vec_len, vec_capacity}
use Rattle.clr_shelf.specs.Blocks.{parts_of}
use Rattle.clr_shelf.proofs.blocks.empty_blocks.Given as goal

-- the blocks so far are empty, and there is memory for all
abbrev pub invariant-loop : goal.invariant-loop
invariant-loop g l = (parts_of l.blocks.items ≡ replicate l.counter [])
    × (vec_len l.blocks ≡ l.counter) × (l.count ≤ vec_capacity l.blocks)
