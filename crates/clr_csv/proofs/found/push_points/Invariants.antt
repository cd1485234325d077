use Rattle.std.proofs.Common.{◌≡◌, ◌++◌, drop}
use Rattle.clr_csv.specs.Warnings.{unlocked}
use Rattle.clr_csv.proofs.found.push_points.Given as goal

-- what was found, and what is left to find, are all
abbrev pub invariant-loop-row : goal.invariant-loop-row
invariant-loop-row l = l.found.items ++ unlocked (drop l.row-index l.points) ≡ l.initial.found.items ++ unlocked l.points
