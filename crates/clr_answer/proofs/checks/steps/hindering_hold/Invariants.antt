use Rattle.std.proofs.Common.{◌≡◌, map, drop, filter}
use Rattle.std.specs.List.{fold}
use Rattle.clr_rules.specs.Holds.{earlier_hold, hinders, hindering_hold}
use Rattle.clr_answer.proofs.checks.steps.hindering_hold.Given as goal

abbrev pub invariant-loop-hold : goal.invariant-loop-hold
invariant-loop-hold l =
    fold earlier_hold l.first (filter (hinders l.id l.point) (map (λ hold. hold.now) (drop l.hold-index l.hold-items))) ≡ hindering_hold l.near.rows.holds l.id l.point
