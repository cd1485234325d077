use Rattle.std.proofs.Common.{◌≡◌, ◌++◌, drop}
use Rattle.clr_update.specs.Changes.{lacking}
use Rattle.clr_changes.proofs.made.left.Given as goal

-- the rows so far, and those that are left, are all
abbrev pub invariant-loop-row : goal.invariant-loop-row
invariant-loop-row g l =
    l.found.items ++ lacking g.R.Compared.same l.fn.go (drop l.row-index l.fn.rows) ≡ lacking g.R.Compared.same l.fn.go l.fn.rows
