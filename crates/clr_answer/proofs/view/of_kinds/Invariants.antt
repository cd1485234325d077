use Rattle.std.proofs.Common.{◌≡◌, ◌++◌, drop}
use Rattle.clr_rules.specs.Holds.{of_kinds}
use Rattle.clr_answer.proofs.view.of_kinds.Given as goal

abbrev pub invariant-loop-kind : goal.invariant-loop-kind
invariant-loop-kind l = l.all.items ++ of_kinds (drop l.kind-index l.kinds) l.holds ≡ of_kinds l.kinds l.holds
