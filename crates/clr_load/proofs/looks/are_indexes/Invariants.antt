use Rattle.std.proofs.Common.{◌≡◌, map, take}
use Rattle.clr_load.specs.Forms.{index_in}
use Rattle.clr_load.specs.Layout.{names_in}
use Rattle.clr_load.proofs.looks.are_indexes.Given as goal

-- the indexes before the place are those of the layout
abbrev pub invariant-loop-place : goal.invariant-loop-place
invariant-loop-place l = take l.place l.fn.indexes ≡ map (index_in l.fn.layout) (take l.place (names_in l.fn.layout))
