use Rattle.std.proofs.Common.{◌≡◌, map, take}
use Rattle.clr_load.specs.Forms.{column_by}
use Rattle.clr_load.proofs.looks.are_columns.Given as goal

-- the columns before the place have their forms
abbrev pub invariant-loop-place : goal.invariant-loop-place
invariant-loop-place l = take l.place l.fn.columns ≡ map column_by (take l.place l.fn.forms)
