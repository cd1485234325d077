use Rattle.std.proofs.Common.{◌≡◌, ◌++◌, drop}
use Rattle.clr_csv.specs.Warnings.{holders}
use Rattle.clr_csv.proofs.found.push_holders.Given as goal

-- what was found, and what is left to find, are all
abbrev pub invariant-loop-row : goal.invariant-loop-row
invariant-loop-row l = l.found.items ++ holders (drop l.row-index l.staff) ≡ l.initial.found.items ++ holders l.staff
