use Rattle.std.proofs.Common.{◌≡◌, ◌++◌, map, slice_range}
use Rattle.clr_shelf.specs.Items.{items_of}
use Rattle.clr_shelf.proofs.blocks.Blocks.push_between.Given as goal

-- the items up to the place come after those that were found before
abbrev pub invariant-loop-place : goal.invariant-loop-place
invariant-loop-place g l = map (λ item. item.now) l.found.items
    ≡ map (λ item. item.now) l.fn.found.items ++ slice_range (items_of l.fn.self) l.fn.start l.place
