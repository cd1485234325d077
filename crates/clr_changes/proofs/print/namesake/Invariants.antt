use Rattle.std.proofs.Common.{◌≡◌, drop}
use Rattle.clr_changes.specs.Lines.{namesake}
use Rattle.clr_changes.proofs.print.namesake.Given as goal

abbrev pub invariant-loop-other : goal.invariant-loop-other
invariant-loop-other g l = namesake g.R.Printed.said (drop l.other-index l.fn.rows) l.fn.row ≡ namesake g.R.Printed.said l.fn.rows l.fn.row
