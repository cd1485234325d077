use Rattle.std.proofs.Common.{◌≡◌, map, take}
use Rattle.clr_load.specs.Layout.{names_in}
use Rattle.clr_load.specs.Schema.{table_in}
use Rattle.clr_load.proofs.looks.are_tables.Given as goal

-- the tables before the place are those of the layout
abbrev pub invariant-loop-place : goal.invariant-loop-place
invariant-loop-place l = take l.place l.fn.tables ≡ map (table_in l.fn.layout) (take l.place (names_in l.fn.layout))
