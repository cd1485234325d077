use Rattle.std.proofs.Common.{◌≡◌, drop, map}
use Rattle.std.specs.List.{list_any}
use Rattle.clr_rules.specs.HoldKind.{is_point_kind}
use Rattle.clr_changes.proofs.staffing.some_at_point.Given as goal

abbrev pub invariant-loop-hold : goal.invariant-loop-hold
invariant-loop-hold l =
    list_any (λ h. is_point_kind h.kind) (map (λ h. h.now) (drop l.hold-index l.fn.holds)) ≡ list_any (λ h. is_point_kind h.kind) (map (λ h. h.now) l.fn.holds)
