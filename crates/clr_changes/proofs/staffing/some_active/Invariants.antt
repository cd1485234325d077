use Rattle.std.proofs.Common.{◌≡◌, drop, map}
use Rattle.clr_rules.specs.Steps.{some_active}
use Rattle.clr_changes.proofs.staffing.some_active.Given as goal

abbrev pub invariant-loop-row : goal.invariant-loop-row
invariant-loop-row l =
    some_active (map (λ row. row.now) (drop l.row-index l.fn.steps)) ≡ some_active (map (λ row. row.now) l.fn.steps)
