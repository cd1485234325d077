use Rattle.std.proofs.Common.{◌≡◌, ◌++◌, drop}
use Rattle.clr_update.specs.Changes.{lacking}
use Rattle.clr_changes.proofs.made.passed.Given as goal

-- the rows so far, and those that are still to come, are all
abbrev pub invariant-loop-row : goal.invariant-loop-row
invariant-loop-row g l =
    l.found.items ++ drop l.row-index l.fn.come ≡ lacking g.R.Compared.same l.fn.go l.fn.rows ++ l.fn.come
