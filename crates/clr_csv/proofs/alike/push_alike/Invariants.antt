use Rattle.std.proofs.Common.{◌≡◌, ◌++◌, drop}
use Rattle.clr_csv.specs.Warnings.{alike}
use Rattle.clr_csv.proofs.alike.push_alike.Given as goal

-- the pairs so far, and those that are left, are all
abbrev pub invariant-loop-place : goal.invariant-loop-place
invariant-loop-place l = l.warnings.items ++ alike l.of (drop l.place l.names) ≡ l.initial.warnings.items ++ alike l.of l.names
