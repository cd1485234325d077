use Rattle.std.proofs.Common.{◌≡◌, drop}
use Rattle.std.specs.List.{list_any}
use Rattle.clr_changes.proofs.made.is_one_of.Given as goal

abbrev pub invariant-loop-other : goal.invariant-loop-other
invariant-loop-other g l =
    list_any (g.R.Compared.same l.fn.row) (drop l.other-index l.fn.rows) ≡ list_any (g.R.Compared.same l.fn.row) l.fn.rows
